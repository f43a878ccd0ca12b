-- Start items over the ids of a state: the function, its arguments, and what becomes of the state.
use Rattle.std.proofs.Common.{◌≡◌, ℕ, ◌+◌, ◌≤◌, List, [], ◌∷◌, ◌++◌, map, take, drop, length, refl, sym, ◌∙◌, ap, subst, append_assoc, append-nil, Bool, true, false, ◌||◌, cond, eqb, Some, None, inl, inr, ⊎_elim}
use Rattle.std.specs.Prelude.{Option, option_to_list, slice_get, not, ◌&&◌, All, Vec}
use Rattle.std.specs.List.{list_all}
use Rattle.std.specs.Option.{option_map, unwrap_or}
use Rattle.std.specs.Vec.{with_items}
use Rattle.std.proofs.lemmas.Bool.{false≢true}
use Rattle.std.proofs.lemmas.List.{length-map, take-append-drop, with_items_is}
use Rattle.std.proofs.lemmas.Option.{slice_get-map}
use Rattle.wcv_core.specs.Checks.{all_checks}
use Rattle.wcv_core.specs.Limits.{max_instances}
use Rattle.wcv_core.specs.Names.{Place}
use Rattle.wcv_core.specs.Refusal.{error_kind, error_offset}
use Rattle.wcv_core.specs.declared.error.Error.{Error}
use Rattle.wcv_core.specs.declared.error.ErrorKind.TheVariants as error
use Rattle.wcv_syntax.specs.Model.{start_item}
use Rattle.wcv_types.specs.Arena.{Arena}
use Rattle.wcv_types.specs.Tree.{Text, Sort, is_nothing, here}
use Rattle.wcv_types.specs.Unfold.{Type_tree, Slot, field_slots, option_slot, slot_parts, slot_tree, tree_at, trees}
use Rattle.wcv_types.specs.declared.ids.ComponentFuncTypeId.{ComponentFuncTypeId}
use Rattle.wcv_types.specs.declared.ids.Part.TheVariants as part
use Rattle.wcv_types.specs.declared.shapes.ComponentFuncType.{ComponentFuncType}
use Rattle.wcv_types.specs.declared.shapes.ComponentValType.{ComponentValType}
use Rattle.wcv_types.specs.declared.shapes.ComponentValType.TheVariants as val
use Rattle.wcv_types.proofs.Unfolding.{sort_stands}
use Rattle.wcv_matching.specs.Refusals.{MemoryOrMismatch}
use Rattle.wcv_names.specs.FuncTrees.{IsFunction}
use Rattle.wcv_names.specs.Shapes.{option_tree, OptionStands, FuncStands}
use Rattle.wcv_atoms.proofs.Walking.{take_more}
use Rattle.wcv_lower.specs.Canons.{func_at}
use Rattle.wcv_lower.specs.Checks.{Checks, Cause, IsFree, if_found, full, is_none, missing, same_sort}
use Rattle.wcv_lower.specs.Context.{in_funcs, in_values}
use Rattle.wcv_lower.specs.Given.{none_given, names_of}
use Rattle.wcv_lower.specs.Growth.{call_checks}
use Rattle.wcv_lower.specs.Marks.{value_at, uses_each}
use Rattle.wcv_lower.specs.Readers.{Maker}
use Rattle.wcv_lower.specs.Start.{result_joins, start_joins, suits, all_suit, func_suits}
use Rattle.wcv_lower.specs.Step.{Step, names_start, apply}
use Rattle.wcv_lower.specs.Trees.{Tree_context, tree_reader, tree_maker, labelled, params, if_given, unlabelled, result}
use Rattle.wcv_core.specs.Features.{cm_values}
use Rattle.wcv_lower.specs.Values.{lacks}
use Rattle.wcv_lower.proofs.Causes.{cause_left, cause_right, cause_either, free_both, free_left, free_right}
use Rattle.wcv_lower.proofs.MarkLaws.{apply-append}
use Rattle.wcv_spaces.specs.Contents.{Contents, SpaceLists, with_id, with_start, with_uses, id_tree, context_of, stack_of, used_at, IdStands, StateStands}
use Rattle.wcv_spaces.specs.Promises.{CausedBy, MemoryOrCausedBy, CausedAt, Grew, Keeps}
use Rattle.wcv_state.specs.Starting.{value_tree, Params, param_types, argument_types, begin_checks, count_checks, suit_checks, argument_checks, room_checks, func_checks, start_id_checks, with_given, IsStarted}
use Rattle.wcv_spaces.specs.Values.{Values, use_id_checks, uses_id_checks, value_at_checks}
use Rattle.wcv_spaces.proofs.Calls.{caused_more, caused_at}
use Rattle.wcv_spaces.proofs.CoreItems.{missing_mapped}
use Rattle.wcv_spaces.proofs.Keeping.{keeps_trans, keeps_marked, keeps_with_id, with_id_context}
use Rattle.wcv_spaces.proofs.UsedValues.{same_values, used_stand, uses_stack, use_checks_same, uses_stand, keeps_uses, keeps_start}
use Rattle.wcv_spaces.proofs.Uses.{used_at-append, uses_free, uses_first, uses_then, uses_length}
use Rattle.wcv_spaces.proofs.Walks.{drop_found, drop_past}

-- ## The function

labelled_is : (ts : List Type_tree) (ps : Params) (x : Slot) → labelled (slot_parts ts (field_slots ps ((here, x) ∷ []))) ≡ param_types ts ps
labelled_is ts [] x = refl
labelled_is ts (p ∷ ps) x = ap (λ (xs : List Type_tree). value_tree ts p.1 ∷ xs) (labelled_is ts ps x)

unlabelled_is : (ts : List Type_tree) (ps : Params) (x : Slot) → unlabelled (slot_parts ts (field_slots ps ((here, x) ∷ []))) ≡ if_given (slot_tree ts x)
unlabelled_is ts [] x = refl
unlabelled_is ts (p ∷ ps) x = unlabelled_is ts ps x

given_is : (a : Arena) (o : Option ComponentValType) → OptionStands a o → if_given (option_tree a o) ≡ option_map (value_tree (trees a.nodes)) o
given_is a None h = refl
given_is a (Some (val.Primitive q)) h = refl
given_is a (Some (val.Ty i)) h = ap (λ (s : Sort). cond (same_sort is_nothing s) None (Some (tree_at a (part.Defined i)))) (sort_stands a (part.Defined i) h)

module _ (a : Arena) (t : Type_tree) (s : ComponentFuncType) (f : IsFunction a t s) where
  pub func_params : params t ≡ param_types (trees a.nodes) s.params.items
  func_params = ap params f.1 ∙ labelled_is (trees a.nodes) s.params.items (option_slot s.result)

  pub func_result : OptionStands a s.result → result t ≡ option_map (value_tree (trees a.nodes)) s.result
  func_result h = ap result f.1 ∙ unlabelled_is (trees a.nodes) s.params.items (option_slot s.result) ∙ given_is a s.result h

  -- its causes, by its shape
  pub func_checks_are : OptionStands a s.result → (vs : Values) (args : List ℕ) (n : ℕ) →
      func_checks a vs args n t ≡ count_checks (length args) (length s.params.items) n (length (option_to_list s.result)) ++ (suit_checks a vs args (param_types (trees a.nodes) s.params.items) ++ room_checks vs s.result)
  func_checks_are h vs args n =
      (λ j. count_checks (length args) (length (func_params j)) n (length (option_to_list (func_result h j))) ++ (suit_checks a vs args (func_params j) ++ room_checks vs (func_result h j))) ∙
      (λ j. count_checks (length args) (length-map s.params.items (λ p. value_tree (trees a.nodes) p.1) j) n (given_count s.result j) ++ (suit_checks a vs args (param_types (trees a.nodes) s.params.items) ++ given_room s.result j))
    where
      given_count : (o : Option ComponentValType) → length (option_to_list (option_map (value_tree (trees a.nodes)) o)) ≡ length (option_to_list o)
      given_count None = refl
      given_count (Some x) = refl

      given_room : (o : Option ComponentValType) → room_checks vs (option_map (value_tree (trees a.nodes)) o) ≡ room_checks vs o
      given_room None = refl
      given_room (Some x) = refl

-- ## Its arguments

abbrev all_suited : Arena → Values → List ℕ → Params → Bool
all_suited a vs args ps = all_suit tree_reader a.core (argument_types (trees a.nodes) vs args) (param_types (trees a.nodes) ps)

abbrev suited : Arena → Values → ℕ → ComponentValType → Bool
suited a vs x t = suits tree_reader a.core (value_tree (trees a.nodes) t) (option_map (id_tree (trees a.nodes) in_values) (slice_get vs x))

-- the first and the others
suits_step : (a : Arena) (vs : Values) (args : List ℕ) (ps : Params) (k x : ℕ) (p : Text × ComponentValType) → slice_get args k ≡ Some x → slice_get ps k ≡ Some p →
    all_suited a vs (drop k args) (drop k ps) ≡ (suited a vs x p.1 && all_suited a vs (drop (k + 1) args) (drop (k + 1) ps))
suits_step a vs args ps k x p e f = λ j. all_suited a vs (drop_found args k x e j) (drop_found ps k p f j)

-- a value that does not match the parameter is refused so
pub unsuited_caused : {M N : Type 0} (b : Bool) (P : Type 0) (offset : ℕ) (e : Error M) (er : Error N) → (b ≡ true → P) → (error_kind e ≡ error.OutOfMemory → ⊥) → MemoryOrMismatch offset P e → error_kind er ≡ error.Signature → error_offset er ≡ offset → MemoryOrCausedBy ((error.Signature, not b) ∷ []) offset er
unsuited_caused b P offset e er f n (inl m) k o = absurd (n m)
unsuited_caused true P offset e er f n (inr m) k o = absurd (m.fails (f refl))
unsuited_caused false P offset e er f n (inr m) k o = inr (inl (k, refl), o)

-- the type of a value stays where others are used
type_kept : (a : Arena) (ks : List ℕ) (vs : Values) (k : ℕ) → option_map (id_tree (trees a.nodes) in_values) (slice_get (used_at ks vs) k) ≡ option_map (id_tree (trees a.nodes) in_values) (slice_get vs k)
type_kept a ks vs k =
    sym (slice_get-map (id_tree (trees a.nodes) in_values) (used_at ks vs) k) ∙ ap (λ (ts : List Type_tree). slice_get ts k) (same_values (id_tree (trees a.nodes) in_values) (λ v. refl) ks vs) ∙
    slice_get-map (id_tree (trees a.nodes) in_values) vs k

-- one that was not used may be
one_free : (vs : Values) (k : ℕ) (t : ComponentValType) → slice_get vs k ≡ Some (t, false) → IsFree (uses_id_checks vs (k ∷ []))
one_free vs k t e = (ap is_none e, (ap (λ (o : Option (ComponentValType × Bool)). unwrap_or (option_map (λ v. v.1) o) false || false) e, tt))

-- the first k are used, each for its parameter
pub record ArgumentsUsed (a : Arena) (vs : Values) (args : List ℕ) (ps : Params) (k : ℕ) (now : Values) : Type 0 where
  pub used : now ≡ used_at (take k args) vs
  pub free : IsFree (uses_id_checks vs (take k args))
  pub left : all_suit tree_reader a.core (argument_types (trees a.nodes) vs args) (param_types (trees a.nodes) ps) ≡ all_suit tree_reader a.core (argument_types (trees a.nodes) vs (drop k args)) (param_types (trees a.nodes) (drop k ps))

pub none_used : (a : Arena) (vs : Values) (args : List ℕ) (ps : Params) → ArgumentsUsed a vs args ps 0 vs
none_used a vs args ps = record { used = refl; free = (refl, tt); left = refl }

module _ (a : Arena) (vs : Values) (args : List ℕ) (ps : Params) (k : ℕ) (now : Values) (w : ArgumentsUsed a vs args ps k now) where
  abbrev done : List ℕ
  done = take k args

  -- the values stand
  pub used_stands : All (IdStands a in_values) vs → All (IdStands a in_values) now
  used_stands h = subst (All (IdStands a in_values)) (sym w.used) (used_stand a done vs h)

  module _ (x : ℕ) (e : slice_get args k ≡ Some x) where
    more : take (k + 1) args ≡ done ++ x ∷ []
    more = take_more args k x e

    -- what becomes of the values
    pub used_next : (now' : Values) → now' ≡ used_at (x ∷ []) now → now' ≡ used_at (take (k + 1) args) vs
    used_next now' g = g ∙ ap (used_at (x ∷ [])) w.used ∙ sym (used_at-append done (x ∷ []) vs) ∙ ap (λ (ks : List ℕ). used_at ks vs) (sym more)

    -- the next may not be used
    pub next_unused : {M : Type 0} (offset : ℕ) (er : Error M) → CausedBy (value_at_checks now x) offset er → MemoryOrCausedBy (argument_checks a vs args ps) offset er
    next_unused offset er t =
        let first : Cause (uses_id_checks vs (done ++ x ∷ [])) (error_kind er) = uses_then done (x ∷ []) vs (error_kind er) (subst (λ (us : Values). Cause (uses_id_checks us (x ∷ [])) (error_kind er)) w.used t.0) in
        let all : Cause (uses_id_checks vs (take (k + 1) args ++ drop (k + 1) args)) (error_kind er) = uses_first (take (k + 1) args) (drop (k + 1) args) vs (error_kind er) (subst (λ (ks : List ℕ). Cause (uses_id_checks vs ks) (error_kind er)) (sym more) first) in
        inr (cause_left (uses_id_checks vs args) (suit_checks a vs args (param_types (trees a.nodes) ps)) (error_kind er) (subst (λ (ks : List ℕ). Cause (uses_id_checks vs ks) (error_kind er)) (take-append-drop (k + 1) args) all), t.1)

    module _ (p : Text × ComponentValType) (f : slice_get ps k ≡ Some p) (t : ComponentValType) (g : slice_get now x ≡ Some (t, false)) where
      unused : slice_get (used_at done vs) x ≡ Some (t, false)
      unused = ap (λ (us : Values). slice_get us x) (sym w.used) ∙ g

      suit_is : suited a vs x p.1 ≡ tree_reader.matches a.core (value_tree (trees a.nodes) t) (value_tree (trees a.nodes) p.1)
      suit_is = ap (suits tree_reader a.core (value_tree (trees a.nodes) p.1)) (sym (type_kept a done vs x) ∙ ap (option_map (id_tree (trees a.nodes) in_values)) unused)

      all_are : all_suited a vs args ps ≡ (tree_reader.matches a.core (value_tree (trees a.nodes) t) (value_tree (trees a.nodes) p.1) && all_suited a vs (drop (k + 1) args) (drop (k + 1) ps))
      all_are = w.left ∙ suits_step a vs args ps k x p e f ∙ ap (λ (b : Bool). b && all_suited a vs (drop (k + 1) args) (drop (k + 1) ps)) suit_is

      pub arguments_next : (now' : Values) → now' ≡ used_at (x ∷ []) now → tree_reader.matches a.core (value_tree (trees a.nodes) t) (value_tree (trees a.nodes) p.1) ≡ true → ArgumentsUsed a vs args ps (k + 1) now'
      arguments_next now' u m = record {
        used = used_next now' u;
        free = subst (λ (ks : List ℕ). IsFree (uses_id_checks vs ks)) (sym more) (uses_free done (x ∷ []) vs w.free (one_free (used_at done vs) x t unused));
        left = all_are ∙ ap (λ (b : Bool). b && all_suited a vs (drop (k + 1) args) (drop (k + 1) ps)) m;
      }

      -- the next is of another type
      pub next_unsuited : {M : Type 0} (offset : ℕ) (er : Error M) → MemoryOrCausedBy ((error.Signature, not (tree_reader.matches a.core (value_tree (trees a.nodes) t) (value_tree (trees a.nodes) p.1))) ∷ []) offset er → MemoryOrCausedBy (argument_checks a vs args ps) offset er
      next_unsuited offset er (inl m) = inl m
      next_unsuited offset er (inr (inl q, o)) =
          inr (cause_right (uses_id_checks vs args) (suit_checks a vs args (param_types (trees a.nodes) ps)) (error_kind er) (inl (q.0, ap not all_are ∙ none (tree_reader.matches a.core (value_tree (trees a.nodes) t) (value_tree (trees a.nodes) p.1)) _ q.1)), o)
        where
          none : (b c : Bool) → not b ≡ true → not (b && c) ≡ true
          none true c h = absurd (false≢true h)
          none false c h = refl
      next_unsuited offset er (inr (inr q, o)) = absurd q

  -- all are used
  module _ (h : length args ≤ k) where
    all_done : take k args ≡ args
    all_done = sym (append-nil done) ∙ ap (λ (xs : List ℕ). done ++ xs) (sym (drop_past args k h)) ∙ take-append-drop k args

    pub arguments_used : now ≡ used_at args vs
    arguments_used = w.used ∙ ap (λ (ks : List ℕ). used_at ks vs) all_done

    pub arguments_free : IsFree (argument_checks a vs args ps)
    arguments_free =
        free_both (uses_id_checks vs args) (suit_checks a vs args (param_types (trees a.nodes) ps)) (subst (λ (ks : List ℕ). IsFree (uses_id_checks vs ks)) all_done w.free)
        (ap not (w.left ∙ ap (λ (xs : List ℕ). all_suited a vs xs (drop k ps)) (drop_past args k h)), tt)

-- a vector of values that were written back
pub written_back : {Z : Type 0} (v : Vec (ComponentValType × Bool) Z) (ws : Values) (ks : List ℕ) → ws ≡ used_at ks v.items → (with_items v ws).items ≡ used_at ks v.items
written_back v ws ks e = with_items_is v ws (ap length e ∙ uses_length ks v.items ∙ sym v.ok.0) ∙ e

-- ## The item

module _ (a : Arena) (s : SpaceLists) (f : ℕ) (args : List ℕ) (n : ℕ) (i : ComponentFuncTypeId) (at : slice_get s.funcs f ≡ Some i) (fn : ComponentFuncType) (is : IsFunction a (tree_at a (part.Func i)) fn) (stands : FuncStands a fn) where
  abbrev params_of : List Type_tree
  params_of = param_types (trees a.nodes) fn.params.items

  abbrev counted : Checks
  counted = count_checks (length args) (length fn.params.items) n (length (option_to_list fn.result))

  abbrev suit : Checks
  suit = suit_checks a s.values args params_of

  abbrev room : Checks
  room = room_checks s.values fn.result

  abbrev uses : Checks
  uses = uses_id_checks s.values args

  checks_are : start_id_checks a s f args n ≡ missing (Some i) ++ (uses ++ (counted ++ (suit ++ room)))
  checks_are =
      ap (λ (o : Option ComponentFuncTypeId). missing o ++ (uses ++ if_found (λ (i : ComponentFuncTypeId). func_checks a s.values args n (tree_at a (part.Func i))) o)) at ∙
      ap (λ (cs : Checks). missing (Some i) ++ (uses ++ cs)) (func_checks_are a (tree_at a (part.Func i)) fn is stands.result s.values args n)

  module _ {M : Type 0} (offset : ℕ) (er : Error M) where
    among : (cs : Checks) → (Cause cs (error_kind er) → Cause (uses ++ (counted ++ (suit ++ room))) (error_kind er)) → MemoryOrCausedBy cs offset er → MemoryOrCausedBy (start_id_checks a s f args n) offset er
    among cs h t = subst (λ (ds : Checks). MemoryOrCausedBy ds offset er) (sym checks_are) (caused_more cs (missing (Some i) ++ (uses ++ (counted ++ (suit ++ room)))) offset er (λ c. cause_right (missing (Some i)) (uses ++ (counted ++ (suit ++ room))) (error_kind er) (h c)) t)

    pub counts_caused : MemoryOrCausedBy (count_checks (length args) (length fn.params.items) n (length (option_to_list fn.result))) offset er → MemoryOrCausedBy (start_id_checks a s f args n) offset er
    counts_caused t = among counted (λ c. cause_right uses (counted ++ (suit ++ room)) (error_kind er) (cause_left counted (suit ++ room) (error_kind er) c)) t

    pub arguments_caused : MemoryOrCausedBy (argument_checks a s.values args fn.params.items) offset er → MemoryOrCausedBy (start_id_checks a s f args n) offset er
    arguments_caused t =
        among (uses ++ suit) (λ c. ⊎_elim (λ u. cause_left uses (counted ++ (suit ++ room)) (error_kind er) u) (λ u. cause_right uses (counted ++ (suit ++ room)) (error_kind er) (cause_right counted (suit ++ room) (error_kind er) (cause_left suit room (error_kind er) u)))
        (cause_either uses suit (error_kind er) c)) t

    pub room_caused : MemoryOrCausedBy (room_checks (used_at args s.values) fn.result) offset er → MemoryOrCausedBy (start_id_checks a s f args n) offset er
    room_caused t =
        among room (λ c. cause_right uses (counted ++ (suit ++ room)) (error_kind er) (cause_right counted (suit ++ room) (error_kind er) (cause_right suit room (error_kind er) c)))
        (subst (λ (m : ℕ). MemoryOrCausedBy (if_found (λ x. full max_instances m) fn.result) offset er) (uses_length args s.values) t)

  pub is_started : (s' : SpaceLists) → IsFree (count_checks (length args) (length fn.params.items) n (length (option_to_list fn.result))) → IsFree (argument_checks a s.values args fn.params.items) → IsFree (room_checks (used_at args s.values) fn.result) →
      s' ≡ record s { values = with_given fn.result (used_at args s.values) } → IsStarted a s s' f args n
  is_started s' c u r e = record {
    func = i;
    at = at;
    gives = fn.result;
    result = func_result a (tree_at a (part.Func i)) fn is stands.result;
    stands = stands.result;
    becomes = e;
    free = subst IsFree (sym checks_are)
        (free_both (missing (Some i)) (uses ++ (counted ++ (suit ++ room))) (refl, tt) (free_both uses (counted ++ (suit ++ room)) (free_left uses suit u)
        (free_both counted (suit ++ room) c (free_both suit room (free_right uses suit u) (subst (λ (m : ℕ). IsFree (if_found (λ x. full max_instances m) fn.result)) (uses_length args s.values) r)))));
  }

-- ## The causes, as the rules have them

module _ (a : Arena) (s : Contents) (outer : List Tree_context) (f : ℕ) (args : List ℕ) (n : ℕ) where
  abbrev ts : List Type_tree
  ts = trees a.nodes

  abbrev vs : Values
  vs = s.spaces.values

  abbrev here_context : Tree_context
  here_context = context_of a s

  value_same : (k : ℕ) → value_at here_context k ≡ option_map (id_tree ts in_values) (slice_get vs k)
  value_same k = slice_get-map (id_tree ts in_values) vs k

  absent_same : (k : ℕ) → missing (value_at here_context k) ≡ missing (slice_get vs k)
  absent_same k = ap missing (value_same k) ∙ missing_mapped (id_tree ts in_values) (slice_get vs k)

  func_same : func_at here_context f ≡ option_map (id_tree ts in_funcs) (slice_get s.spaces.funcs f)
  func_same = slice_get-map (id_tree ts in_funcs) s.spaces.funcs f

  suits_same : (t : Type_tree) → func_suits a.core here_context args n t ≡ func_checks a vs args n t
  suits_same t = λ j.
      (error.Signature, not (eqb (length args) (length (params t)))) ∷ (error.Signature, not (eqb n (length (option_to_list (result t))))) ∷
      (error.Signature, not (all_suit tree_reader a.core (map (λ k. value_same k j) args) (params t))) ∷ if_found (λ x. full max_instances (length-map vs (id_tree ts in_values) j)) (result t)

  abbrev of_func : Checks
  of_func = if_found (λ (i : ComponentFuncTypeId). func_checks a vs args n (tree_at a (part.Func i))) (slice_get s.spaces.funcs f)

  of_func_same : if_found (func_suits a.core here_context args n) (func_at here_context f) ≡ of_func
  of_func_same = ap (if_found (func_suits a.core here_context args n)) func_same ∙ go (slice_get s.spaces.funcs f)
    where
      go : (o : Option ComponentFuncTypeId) → if_found (func_suits a.core here_context args n) (option_map (id_tree ts in_funcs) o) ≡ if_found (λ (i : ComponentFuncTypeId). func_checks a vs args n (tree_at a (part.Func i))) o
      go None = refl
      go (Some i) = suits_same (tree_at a (part.Func i))

  abbrev absent : Checks
  absent = all_checks (λ k. missing (slice_get vs k)) args

  pub start_checks_same : (mk : Maker tree_reader) → call_checks s.features mk (stack_of a s outer) (start_item f args n) ≡ begin_checks s.features s.started ++ start_id_checks a s.spaces f args n
  start_checks_same mk =
      (λ j. lacks s.features cm_values ++ ((error.StartTwice, s.started) ∷
      ((ap missing func_same ∙ missing_mapped (id_tree ts in_funcs) (slice_get s.spaces.funcs f)) j ++ (all_checks (λ k. absent_same k j) args ++ (use_checks_same a s args j ++ of_func_same j))))) ∙
      ap (λ (cs : Checks). begin_checks s.features s.started ++ (missing (slice_get s.spaces.funcs f) ++ cs)) (sym (append_assoc absent (use_id_checks vs args) of_func))

  -- ## What becomes of the state

  there_each : (ks : List ℕ) → IsFree (all_checks (λ k. missing (slice_get vs k)) ks) → list_all (λ k. not (is_none (value_at here_context k))) ks ≡ true
  there_each [] h = refl
  there_each (k ∷ ks) h = λ j. not ((none_same k ∙ h.0) j) && there_each ks h.1 j
    where
      none_mapped : (o : Option (ComponentValType × Bool)) → is_none (option_map (id_tree ts in_values) o) ≡ is_none o
      none_mapped None = refl
      none_mapped (Some v) = refl

      none_same : (k : ℕ) → is_none (value_at here_context k) ≡ is_none (slice_get vs k)
      none_same k = ap is_none (value_same k) ∙ none_mapped (slice_get vs k)

  module _ (sp : SpaceLists) (w : IsStarted a s.spaces sp f args n) where
    abbrev before : Contents
    before = with_start (with_uses args s)

    abbrev after : Option ComponentValType → Contents
    after o = record s { spaces = record s.spaces { values = with_given o (used_at args vs) }; started = true }

    -- what the function gives joins
    result_stack : (o : Option ComponentValType) → apply (result_joins (option_map (value_tree ts) o)) (stack_of a before outer) ≡ stack_of a (after o) outer
    result_stack None = refl
    result_stack (Some t) = λ j. record { top = sym (with_id_context a in_values (t, false) before) j; outer = outer; groups = a.core }

    func_there : func_at here_context f ≡ Some (tree_at a (part.Func w.func))
    func_there = func_same ∙ ap (option_map (id_tree ts in_funcs)) w.at

    uses_there : list_all (λ k. not (is_none (value_at here_context k))) args ≡ true
    uses_there = there_each args (free_left absent (use_id_checks vs args) (free_left (uses_id_checks vs args) of_func (free_right (missing (slice_get s.spaces.funcs f)) (uses_id_checks vs args ++ of_func) w.free)))

    abbrev joins : Option Type_tree → Step tree_reader
    joins o = names_start ∷ result_joins o

    started_stack : apply (start_joins args (tree_at a (part.Func w.func))) (stack_of a s outer) ≡ stack_of a (record s { spaces = sp; started = true }) outer
    started_stack =
        ap (λ (o : Option Type_tree). apply (uses_each args ++ joins o) (stack_of a s outer)) w.result ∙ apply-append (uses_each args) (joins (option_map (value_tree ts) w.gives)) (stack_of a s outer) ∙
        ap (apply (joins (option_map (value_tree ts) w.gives))) (sym (uses_stack a args s outer)) ∙ result_stack w.gives ∙
        ap (λ (z : SpaceLists). stack_of a (record s { spaces = z; started = true }) outer) (sym w.becomes)

    pub start_grew : (p : Place) (s' : Contents) → IsFree (begin_checks s.features s.started) → s' ≡ record s { spaces = sp; started = true } → s.spent ≡ false → Grew a a outer p s s' (start_item f args n)
    start_grew p s' b e live = record {
      names = none_given;
      given = record { resources = tt; identities = tt };
      grown = (λ j. option_map (λ (q : Step tree_reader). apply q (stack_of a s outer)) (cond (uses_there j) (option_map (start_joins args) (func_there j)) None)) ∙ ap Some (started_stack ∙ ap (λ (z : Contents). stack_of a z outer) (sym e));
      free = subst IsFree (sym (start_checks_same (tree_maker (names_of none_given) p))) (free_both (begin_checks s.features s.started) (start_id_checks a s.spaces f args n) b w.free);
      live = ap (λ (z : Contents). z.spent) e ∙ live;
    }

  -- a cause of it
  module _ {M : Type 0} (offset : ℕ) (er : Error M) (p : Place) where
    start_among : (cs : Checks) → (Cause cs (error_kind er) → Cause (begin_checks s.features s.started ++ start_id_checks a s.spaces f args n) (error_kind er)) → MemoryOrCausedBy cs offset er → CausedAt a a outer p s (start_item f args n) offset er
    start_among cs h t = caused_at a a outer s (start_item f args n) offset er (λ mk. subst (λ (ds : Checks). MemoryOrCausedBy ds offset er) (sym (start_checks_same mk)) (caused_more cs (begin_checks s.features s.started ++ start_id_checks a s.spaces f args n) offset er h t)) p

    pub begin_caused : MemoryOrCausedBy (begin_checks s.features s.started) offset er → CausedAt a a outer p s (start_item f args n) offset er
    begin_caused t = start_among (begin_checks s.features s.started) (λ c. cause_left (begin_checks s.features s.started) (start_id_checks a s.spaces f args n) (error_kind er) c) t

    pub start_caused : MemoryOrCausedBy (start_id_checks a s.spaces f args n) offset er → CausedAt a a outer p s (start_item f args n) offset er
    start_caused t = start_among (start_id_checks a s.spaces f args n) (λ c. cause_right (begin_checks s.features s.started) (start_id_checks a s.spaces f args n) (error_kind er) c) t

-- ## What it keeps

pub start_keeps : (a : Arena) (s s' : Contents) (sp : SpaceLists) (f : ℕ) (args : List ℕ) (n : ℕ) → StateStands a s → IsStarted a s.spaces sp f args n → s' ≡ record s { spaces = sp; started = true } → Keeps a a s s'
start_keeps a s s' sp f args n h w e =
    subst (Keeps a a s) (sym (e ∙ ap (λ (z : SpaceLists). record s { spaces = z; started = true }) w.becomes)) (go w.gives w.stands)
  where
    kept : Keeps a a s (with_start (with_uses args s))
    kept = keeps_trans a a a s (with_uses args s) (with_start (with_uses args s)) (keeps_uses a args s h) (keeps_start a (with_uses args s) (uses_stand a args s h))

    go : (o : Option ComponentValType) → OptionStands a o → Keeps a a s (record s { spaces = record s.spaces { values = with_given o (used_at args s.spaces.values) }; started = true })
    go None k = kept
    go (Some t) k = keeps_trans a a a s (with_start (with_uses args s)) (with_id in_values (t, false) (with_start (with_uses args s))) kept (keeps_with_id a in_values (t, false) (with_start (with_uses args s)) kept.stands k)

-- some of the arguments are used, and the state is spent
pub start_left : (a : Arena) (s z s' : Contents) (ks : List ℕ) → z ≡ s → StateStands a s → s' ≡ record z { spaces = record z.spaces { values = used_at ks z.spaces.values }; spent = true } → Keeps a a s s'
start_left a s z s' ks ez h e =
    subst (Keeps a a s) (sym (e ∙ ap (λ (y : Contents). record y { spaces = record y.spaces { values = used_at ks y.spaces.values }; spent = true }) ez))
    (keeps_trans a a a s (with_uses ks s) (record (with_uses ks s) { spent = true }) (keeps_uses a ks s h) (keeps_marked a (with_uses ks s) (with_uses ks s) true refl (uses_stand a ks s h)))
