-- A core function of the type that a row makes joins a state.
use Rattle.std.proofs.Common.{◌≡◌, ℕ, ◌+◌, ◌<◌, List, [], ◌∷◌, ◌++◌, length, refl, sym, ◌∙◌, ap, subst, arith, Bool, true, false, cond, Some, None, ◌⊎◌, inl, inr}
use Rattle.std.specs.Prelude.{Option, IfSome, is_some}
use Rattle.std.specs.Str.{bytes_eq}
use Rattle.std.specs.Option.{option_map, option_and_then, option_or}
use Rattle.std.proofs.lemmas.Option.{none-some}
use Rattle.wcv_core.specs.Checks.{all_checks}
use Rattle.wcv_core.specs.CoreCode.{code_of}
use Rattle.wcv_core.specs.CoreForm.{CompositeForm, Group}
use Rattle.wcv_core.specs.CoreGroups.{total, id_from, id_of}
use Rattle.wcv_core.specs.CoreJoining.{first_id, order_checks}
use Rattle.wcv_core.specs.CoreTable.{with_group, limit_checks}
use Rattle.wcv_core.specs.CoreWritten.{index_checks}
use Rattle.wcv_core.specs.Names.{Place}
use Rattle.wcv_core.specs.Refusal.{error_kind}
use Rattle.wcv_core.specs.declared.core_types.CoreTypeId.{CoreTypeId}
use Rattle.wcv_core.specs.declared.core_types.EntityType.TheVariants as entity
use Rattle.wcv_core.specs.declared.core_types.ValType.{ValType}
use Rattle.wcv_core.specs.declared.error.Error.{Error}
use Rattle.wcv_core.specs.declared.error.ErrorKind.{ErrorKind}
use Rattle.wcv_core.proofs.Causes.{cause_left, cause_right, cause_either, free_both, free_left, free_right}
use Rattle.wcv_core.proofs.Finding.{same_group-true}
use Rattle.wcv_core.proofs.TableLaws.{interned}
use Rattle.wcv_syntax.specs.Model.{Canon_form, canon_item}
use Rattle.wcv_syntax.specs.declared.canonical.CanonicalOption.{CanonicalOption}
use Rattle.wcv_types.specs.Arena.{Arena}
use Rattle.wcv_types.specs.CoreCalls.{with_core}
use Rattle.wcv_types.specs.Standing.{Extends}
use Rattle.wcv_types.specs.Tree.{is_func}
use Rattle.wcv_types.proofs.Grown.{extends_refl}
use Rattle.wcv_types.proofs.Lists.{some-inj}
use Rattle.wcv_flat.specs.RowTypes as flat
use Rattle.wcv_flat.specs.RowTypes.{is_shared, row_checks}
use Rattle.wcv_flat.specs.Rows.{Ask, Appends, canon_row}
use Rattle.wcv_flat.specs.Rows as row
use Rattle.wcv_flat.specs.declared.rows.RowFacts.{RowFacts}
use Rattle.wcv_lower.specs.CanonOptions.{options_found, memory_found, options_rules, options_checks}
use Rattle.wcv_lower.specs.Canons.{options_in, canon_options, row_form, alone, ask_found, appends_found, canon_found, func_joins, func_step, row_step, slots_typed, canon_step, ask_rules, appended_asks, form_joins, joining_checks, canon_checks}
use Rattle.wcv_lower.specs.Checks.{Checks, Cause, IsFree, if_found, no_room}
use Rattle.wcv_lower.specs.Context.{core_funcs, counts}
use Rattle.wcv_lower.specs.Context as lower
use Rattle.wcv_lower.specs.CoreItems.{core_entries}
use Rattle.wcv_lower.specs.Given.{none_given}
use Rattle.wcv_lower.specs.Step.{Step, apply}
use Rattle.wcv_lower.specs.Trees.{Tree_context, Tree_stack, tree_reader}
use Rattle.wcv_lower.proofs.CanonOptionLaws.{memory_there}
use Rattle.wcv_lower.proofs.ModulesMade.{said_free}
use Rattle.wcv_spaces.specs.Contents.{Contents, context_of, stack_of, sides, names, spent, with_core as with_core_id, StateStands}
use Rattle.wcv_spaces.specs.Promises.{MemoryOrCausedBy, Keeps, Grew}
use Rattle.wcv_spaces.proofs.Calls.{caused_more}
use Rattle.wcv_spaces.proofs.Keeping.{state_stands, keeps_grown, keeps_marked, keeps_trans, keeps_with_core, with_core_context, entries_refl, no_more}
use Rattle.wcv_state.proofs.Stacks.{none_made}
use Rattle.wcv_canon.specs.Facts.{row_facts, with_slots, slots_said, early_checks}
use Rattle.wcv_flat.specs.CodeRows.{is_lift}
use Rattle.wcv_canon.proofs.KnownFacts.{form_plain, row_known}
use Rattle.wcv_canon.proofs.PlainForms.{IsPlainForm, form_stays, form_free, form_closable}
use Rattle.wcv_canon.proofs.RowForms.{form_here, checks_here, form_there, found_stands}

-- ## Ids

found_within : (n i : ℕ) (gs : List Group) (g : Group) → 0 < length g → id_from n gs (code_of g) ≡ Some i → i < n + total gs
found_within n i [] g h e = absurd (none-some i e)
found_within n i (x ∷ gs) g h e = go (bytes_eq (code_of g) (code_of x)) refl e (λ f. found_within (n + length x) i gs g h f)
  where
    go : (b : Bool) → bytes_eq (code_of g) (code_of x) ≡ b → cond b (Some n) (id_from (n + length x) gs (code_of g)) ≡ Some i → (id_from (n + length x) gs (code_of g) ≡ Some i → i < n + length x + total gs) → i < n + (length x + total gs)
    go true p e f =
        let l : length g ≡ length x = ap (length {A = _}) (same_group-true g x p) in
        let q : n ≡ i = some-inj e in
        omega (arith, h)
    go false p e f = omega (arith, f e)

pub id_within : (i : ℕ) (gs : List Group) (g : Group) → 0 < length g → id_of gs g ≡ Some i → i < total gs
id_within i gs g h e = omega (arith, found_within 0 i gs g h e)

-- ## The type of slots

slot_keeps : (a : Arena) (v : ValType) (s : Contents) → StateStands a s → Keeps a a s (with_slots v s)
slot_keeps a v s h = record {
  arena = extends_refl a;
  stands = record { space = h.space; core = h.core; side = h.side; imported = h.imported; defined = h.defined; numbers = h.numbers; named = h.named; lead = h.lead; sized = record { size = h.sized.size; depth = h.sized.depth } };
  entries = entries_refl s.spaces;
  sides = λ d. no_more (sides s d);
  imported = no_more s.imported_resources;
  defined = no_more s.defined_resources;
  named = λ d. no_more (names s d);
  kind = refl;
  features = refl;
  context_type = λ w e. ap (λ (o : Option ValType). option_or o (Some v)) e;
}

slots_keep : (a : Arena) (qs : List Ask) (s : Contents) → StateStands a s → Keeps a a s (slots_said qs s)
slots_keep a [] s h = keeps_grown a a s (extends_refl a) h
slots_keep a (row.slot_of v n ∷ qs) s h =
    let k : Keeps a a s (with_slots v s) = slot_keeps a v s h in
    keeps_trans a a a s (with_slots v s) (slots_said qs (with_slots v s)) k (slots_keep a qs (with_slots v s) k.stands)
slots_keep a (q ∷ qs) s h = slots_keep a qs s h

pub slots_live : (qs : List Ask) (s : Contents) → (slots_said qs s).spent ≡ s.spent
slots_live [] s = refl
slots_live (row.slot_of v n ∷ qs) s = slots_live qs (with_slots v s)
slots_live (q ∷ qs) s = slots_live qs s

slots_apply : (a : Arena) (outer : List Tree_context) (qs : List Ask) (p : Step tree_reader) (s : Contents) → apply (slots_typed qs p) (stack_of a s outer) ≡ apply p (stack_of a (slots_said qs s) outer)
slots_apply a outer [] p s = refl
slots_apply a outer (row.slot_of v n ∷ qs) p s = slots_apply a outer qs p (with_slots v s)
slots_apply a outer (q ∷ qs) p s = slots_apply a outer qs p s

-- ## What a call leaves

module _ (a b : Arena) (s : Contents) (h : StateStands a s) (ext : Extends a b) (qs : List Ask) where
  slots_kept : Keeps a b s (slots_said qs s)
  slots_kept = keeps_trans a b b s s (slots_said qs s) (keeps_grown a b s ext h) (slots_keep b qs s (state_stands a b ext s h))

  pub joined_keeps : (id : CoreTypeId) → id.index < total b.core → Keeps a b s (with_core_id core_funcs id (slots_said qs s))
  joined_keeps id l = let k = slots_kept in keeps_trans a b b s (slots_said qs s) (with_core_id core_funcs id (slots_said qs s)) k (keeps_with_core b core_funcs id (slots_said qs s) k.stands l)

  pub spent_keeps : Keeps a b s (spent (slots_said qs s))
  spent_keeps = let k = slots_kept in keeps_trans a b b s (slots_said qs s) (spent (slots_said qs s)) k (keeps_marked b (slots_said qs s) (slots_said qs s) true refl k.stands)

-- ## The function

-- a function of the group's type joins the stack
func_applied : (a : Arena) (outer : List Tree_context) (b : Bool) (w : CompositeForm) (s : Contents) (id : CoreTypeId) → first_id a.core (alone b w) ≡ id.index →
    apply (func_joins tree_reader a.core (alone b w)) (stack_of a s outer) ≡ stack_of (with_core a (with_group a.core (alone b w))) (with_core_id core_funcs id s) outer
func_applied a outer b w s id e =
    let top : lower.push_core core_funcs (tree_reader.core_item (entity.Func (record { index = first_id a.core (alone b w) }))) (context_of a s) ≡ context_of a (with_core_id core_funcs id s) =
    ap (λ (n : ℕ). lower.push_core core_funcs (tree_reader.core_item (entity.Func (record { index = n }))) (context_of a s)) e ∙ sym (with_core_context a core_funcs id s) in
    λ j. record { top = top j; outer = outer; groups = with_group a.core (alone b w) }

module _ (a : Arena) (s : Contents) (h : StateStands a s) (f : Canon_form) (kind : is_lift f ≡ false) (outer : List Tree_context) where
  abbrev Here : Tree_context
  Here = context_of a s

  abbrev Whole : Tree_stack
  Whole = stack_of a s outer

  abbrev appends : Appends
  appends = (canon_row f).appends

  abbrev asks : List Ask
  asks = (canon_row f).asks

  -- ## Causes

  abbrev asked : Checks
  asked = all_checks (ask_found Whole) asks

  abbrev ruled : Checks
  ruled = all_checks (ask_rules s.features Whole) asks

  abbrev listed : Checks
  listed = if_found (options_checks s.features Whole) (options_in f)

  abbrev there : Checks
  there = appends_found Here appends

  abbrev room : Checks
  room = no_room (counts Here) is_func

  abbrev typed : Checks
  typed = appended_asks Here (canon_options Here f) appends

  abbrev joins : Checks
  joins = form_joins Whole f appends

  abbrev Early : Checks
  Early = early_checks s.features Whole f

  abbrev All_causes : Checks
  All_causes = canon_checks s.features Whole f

  module _ (early : IsFree Early) (facts : RowFacts) (told : facts ≡ row_facts a s f) where
    abbrev behind : Checks
    behind = listed ++ (there ++ room)

    asked_free : IsFree asked
    asked_free = free_left asked ruled (free_left (asked ++ ruled) behind early)

    ruled_free : IsFree ruled
    ruled_free = free_right asked ruled (free_left (asked ++ ruled) behind early)

    listed_free : IsFree listed
    listed_free = free_left listed (there ++ room) (free_right (asked ++ ruled) behind early)

    there_free : IsFree there
    there_free = free_left there room (free_right listed (there ++ room) (free_right (asked ++ ruled) behind early))

    room_free : IsFree room
    room_free = free_right there room (free_right listed (there ++ room) (free_right (asked ++ ruled) behind early))

    canon_free : IsFree (typed ++ joins) → IsFree All_causes
    canon_free g =
        free_both (asked ++ there) (listed ++ ((ruled ++ typed) ++ (joins ++ room))) (free_both asked there asked_free there_free)
        (free_both listed ((ruled ++ typed) ++ (joins ++ room)) listed_free
        (free_both (ruled ++ typed) (joins ++ room) (free_both ruled typed ruled_free (free_left typed joins g)) (free_both joins room (free_right typed joins g) room_free)))

    options_free : (o : Option (List CanonicalOption)) → IsFree (if_found (options_checks s.features Whole) o) → IsFree (if_found (memory_found Here) o)
    options_free None g = g
    options_free (Some os) g = memory_there tree_reader Here os (free_left (options_found Here os) (options_rules s.features Whole os) g)

    looked_free : IsFree (canon_found Whole f)
    looked_free = free_both (asked ++ there) (if_found (memory_found Here) (options_in f)) (free_both asked there asked_free there_free) (options_free (options_in f) listed_free)

    -- ## The core type

    form : (w : CompositeForm) × (row_form Whole f appends ≡ Some w)
    form = form_there a s h outer f kind there_free

    abbrev own : Group
    own = alone (is_shared appends) form.0

    plain : IsPlainForm (total a.core) form.0
    plain = form_plain a s h outer s.features f ruled_free form.0 form.1

    made : flat.row_form a facts appends ≡ Some form.0
    made = ap (λ (x : RowFacts). flat.row_form a x appends) told ∙ form_here a s h outer f ∙ form.1

    group_made : flat.row_group a facts appends ≡ own
    group_made = ap (λ (o : Option CompositeForm). flat.group_alone (option_map (flat.sole (is_shared appends)) o)) made

    pub type_made : is_some (flat.row_type a facts appends) ≡ true
    type_made = ap (λ (o : Option CompositeForm). is_some (option_map (flat.sole (is_shared appends)) o)) made

    abbrev signed : Checks
    signed = row_checks a facts appends ++ limit_checks a.core (flat.row_group a facts appends)

    abbrev looked : Checks
    looked = all_checks (index_checks (total a.core) (core_entries Here) 1) own ++ order_checks (length (core_entries Here)) own

    signed_is : signed ≡ typed ++ limit_checks a.core own
    signed_is = let e : row_checks a facts appends ≡ typed = ap (λ (x : RowFacts). row_checks a x appends) told ∙ checks_here a s h outer f kind in λ j. e j ++ limit_checks a.core (group_made j)

    pub facts_stand : IfSome facts.function (flat.FunctionStands a)
    facts_stand = subst (λ (x : RowFacts). IfSome x.function (flat.FunctionStands a)) (sym told) (found_stands a s h outer f)

    pub facts_known : flat.AreKnown (total a.core) facts appends
    facts_known = subst (λ (x : RowFacts). flat.AreKnown (total a.core) x appends) (sym told) (row_known a s h outer s.features f ruled_free)

    joins_is : joins ≡ looked ++ limit_checks a.core own
    joins_is =
        ap (if_found (λ (w : CompositeForm). joining_checks Whole (alone (is_shared appends) w))) form.1 ∙
        λ j. looked ++ limit_checks a.core (form_stays (total a.core) (core_entries Here) (is_shared appends) form.0 plain j)

    signed_free : IsFree signed → IsFree (typed ++ joins)
    signed_free g =
        let g' : IsFree (typed ++ limit_checks a.core own) = subst IsFree signed_is g in
        free_both typed joins (free_left typed (limit_checks a.core own) g')
        (subst IsFree (sym joins_is) (free_both looked (limit_checks a.core own) (form_free (total a.core) (core_entries Here) (is_shared appends) form.0 plain) (free_right typed (limit_checks a.core own) g')))

    signed_caused : (k : ErrorKind) → Cause signed k → Cause All_causes k
    signed_caused k c = go (cause_either typed (limit_checks a.core own) k (subst (λ cs. Cause cs k) signed_is c))
      where
        late : Cause ((ruled ++ typed) ++ (joins ++ room)) k → Cause All_causes k
        late d = cause_right (asked ++ there) (listed ++ ((ruled ++ typed) ++ (joins ++ room))) k (cause_right listed ((ruled ++ typed) ++ (joins ++ room)) k d)

        go : Cause typed k ⊎ Cause (limit_checks a.core own) k → Cause All_causes k
        go (inl d) = late (cause_left (ruled ++ typed) (joins ++ room) k (cause_right ruled typed k d))
        go (inr d) = late (cause_right (ruled ++ typed) (joins ++ room) k (cause_left joins room k (subst (λ cs. Cause cs k) (sym joins_is) (cause_right looked (limit_checks a.core own) k d))))

    pub signature_caused : {M : Type 0} (offset : ℕ) (e : Error M) → MemoryOrCausedBy signed offset e → MemoryOrCausedBy All_causes offset e
    signature_caused offset e m = caused_more signed All_causes offset e (signed_caused (error_kind e)) m

    -- ## The step

    closed : func_step Whole own ≡ Some (func_joins tree_reader a.core own)
    closed = λ j.
        cond (form_closable a.core (core_entries Here) (is_shared appends) form.0 plain j) (Some (func_joins tree_reader a.core (form_stays (total a.core) (core_entries Here) (is_shared appends) form.0 plain j))) None

    row_steps : (q : Appends) (w : CompositeForm) → row_form Whole f q ≡ Some w → row_step Whole f q ≡ func_step Whole (alone (is_shared q) w)
    row_steps (row.core_func ps rs) w e = ap (option_and_then (λ u. func_step Whole (alone false u))) e
    row_steps (row.shared_func ps rs) w e = ap (option_and_then (λ u. func_step Whole (alone true u))) e
    row_steps (row.lowered k) w e = ap (option_and_then (λ u. func_step Whole (alone false u))) e
    row_steps (row.returning r) w e = ap (option_and_then (λ u. func_step Whole (alone false u))) e
    row_steps (row.lifted t) w e = absurd (none-some w e)

    steps : canon_step Whole f ≡ Some (slots_typed asks (func_joins tree_reader a.core own))
    steps = λ j. cond (said_free (canon_found Whole f) looked_free j) (option_map (slots_typed asks) ((row_steps appends form.0 form.1 ∙ closed) j)) None

    module _ (b : Arena) (s' : Contents) (id : CoreTypeId) (interns : b ≡ with_core a (with_group a.core (flat.row_group a facts appends))) (found : id_of b.core (flat.row_group a facts appends) ≡ Some id.index) where
      interned_own : b ≡ with_core a (with_group a.core own)
      interned_own = interns ∙ ap (λ (g : Group). with_core a (with_group a.core g)) group_made

      found_own : id_of b.core own ≡ Some id.index
      found_own = subst (λ (g : Group). id_of b.core g ≡ Some id.index) group_made found

      first : first_id a.core own ≡ id.index
      first = some-inj (sym (interned a.core own) ∙ sym (ap (λ (c : Arena). id_of c.core own) interned_own) ∙ found_own)

      pub signature_within : id.index < total b.core
      signature_within = id_within id.index b.core own (omega arith) found_own

      pub core_grew : s' ≡ with_core_id core_funcs id (slots_said asks s) → s.spent ≡ false → IsFree signed → (p : Place) → Grew a b outer p s s' (canon_item f)
      core_grew e live g p = record {
        names = none_given;
        given = none_made a b p;
        grown =
            ap (option_map (λ (x : Step tree_reader). apply x Whole)) steps ∙
            ap Some (slots_apply a outer asks (func_joins tree_reader a.core own) s ∙ func_applied a outer (is_shared appends) form.0 (slots_said asks s) id first ∙ λ j. stack_of (sym interned_own j) (sym e j) outer);
        free = canon_free (signed_free g);
        live = ap (λ (z : Contents). z.spent) e ∙ slots_live asks s ∙ live;
      }

  pub early_caused : {M : Type 0} (offset : ℕ) (e : Error M) → MemoryOrCausedBy Early offset e → MemoryOrCausedBy All_causes offset e
  early_caused offset e m = caused_more Early All_causes offset e (λ c. go (cause_either (asked ++ ruled) (listed ++ (there ++ room)) k c)) m
    where
      k : ErrorKind
      k = error_kind e

      late : Checks
      late = (ruled ++ typed) ++ (joins ++ room)

      behind_found : Cause (listed ++ late) k → Cause All_causes k
      behind_found d = cause_right (asked ++ there) (listed ++ late) k d

      go-asked : Cause asked k ⊎ Cause ruled k → Cause All_causes k
      go-asked (inl d) = cause_left (asked ++ there) (listed ++ late) k (cause_left asked there k d)
      go-asked (inr d) = behind_found (cause_right listed late k (cause_left (ruled ++ typed) (joins ++ room) k (cause_left ruled typed k d)))

      go-there : Cause there k ⊎ Cause room k → Cause All_causes k
      go-there (inl d) = cause_left (asked ++ there) (listed ++ late) k (cause_right asked there k d)
      go-there (inr d) = behind_found (cause_right listed late k (cause_right (ruled ++ typed) (joins ++ room) k (cause_right joins room k d)))

      go-listed : Cause listed k ⊎ Cause (there ++ room) k → Cause All_causes k
      go-listed (inl d) = behind_found (cause_left listed late k d)
      go-listed (inr d) = go-there (cause_either there room k d)

      go : Cause (asked ++ ruled) k ⊎ Cause (listed ++ (there ++ room)) k → Cause All_causes k
      go (inl d) = go-asked (cause_either asked ruled k d)
      go (inr d) = go-listed (cause_either listed (there ++ room) k d)
