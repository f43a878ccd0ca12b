-- What is asked where a core function is lifted is what the rules ask of the trees.
use Rattle.std.proofs.Common.{◌≡◌, ℕ, ◌<◌, List, [], ◌∷◌, ◌++◌, length, refl, sym, ◌∙◌, ap, subst, arith, eq-eqb, eqb-true, Bool, true, false, not, ◌&&◌, cond, Some, None}
use Rattle.std.specs.Prelude.{Option, slice_get, eqb}
use Rattle.std.specs.Option.{option_map, option_and_then, unwrap_or}
use Rattle.wcv_core.specs.CoreFeatures.{needs}
use Rattle.wcv_core.specs.CoreForm.{CompositeForm, Group}
use Rattle.wcv_core.specs.CoreGroups.{id_of, total}
use Rattle.wcv_core.specs.CoreJoining.{first_id}
use Rattle.wcv_core.specs.CoreTable.{joined_to, with_group}
use Rattle.wcv_core.specs.Names.{Place}
use Rattle.wcv_core.specs.Refusal.{error_kind}
use Rattle.wcv_core.specs.declared.core_types.CoreTypeId.{CoreTypeId}
use Rattle.wcv_core.specs.declared.core_types.EntityType.{EntityType}
use Rattle.wcv_core.specs.declared.core_types.EntityType.TheVariants as entity
use Rattle.wcv_core.specs.declared.error.Error.{Error}
use Rattle.wcv_core.specs.declared.error.ErrorKind.{ErrorKind}
use Rattle.wcv_core.specs.declared.error.ErrorKind.TheVariants as error
use Rattle.wcv_core.proofs.Causes.{cause_left, cause_right, free_both}
use Rattle.wcv_core.proofs.Ranges.{total_with}
use Rattle.wcv_core.proofs.TableLaws.{interned}
use Rattle.wcv_syntax.specs.Model.{canon_item, lift}
use Rattle.wcv_syntax.specs.declared.canonical.CanonicalOption.{CanonicalOption}
use Rattle.wcv_syntax.specs.declared.canonical.CanonicalOption.TheVariants as option
use Rattle.wcv_syntax.specs.declared.core_section.ExternalKind.TheVariants as kind
use Rattle.wcv_types.specs.Arena.{Arena}
use Rattle.wcv_types.specs.CoreCalls.{with_core}
use Rattle.wcv_types.specs.Standing.{Stands}
use Rattle.wcv_types.specs.Tree.{Sort, is_func, parts}
use Rattle.wcv_types.specs.Unfold.{Type_tree, tree_at, trees}
use Rattle.wcv_types.specs.declared.ids.ComponentAnyTypeId.TheVariants as any
use Rattle.wcv_types.specs.declared.ids.ComponentFuncTypeId.{ComponentFuncTypeId}
use Rattle.wcv_types.specs.declared.ids.Part.TheVariants as part
use Rattle.wcv_types.proofs.Lists.{some-inj}
use Rattle.wcv_types.proofs.Unfolding.{sort_stands}
use Rattle.wcv_flat.specs.Options.{pointer_size, is_async, callback_of, type_checks}
use Rattle.wcv_flat.specs.Rows.{async_option, callback_option}
use Rattle.wcv_flat.specs.Signature.{core_type}
use Rattle.wcv_flat.specs.declared.options.Abi.TheVariants as abi
use Rattle.wcv_flat.specs.declared.options.CanonicalOptions.{CanonicalOptions}
use Rattle.wcv_flat.specs.declared.options.Concurrency.TheVariants as concurrency
use Rattle.wcv_lower.specs.CanonOptions.{stands, stands_without, first, post_return_in, callback_in, concurrency_of, core_entity_at, options_read, options_checks}
use Rattle.wcv_lower.specs.Canons.{is_async_alone, is_no_post_return, has_other_type, alone, test_both, lifted_form, lift_checks, lifted_asks, canon_checks, func_added}
use Rattle.wcv_lower.specs.Checks.{Checks, Cause, IsFree, if_found, is_none, missing, missing_of, no_room, same_sort}
use Rattle.wcv_lower.specs.Context.{in_types, in_funcs, push, counts}
use Rattle.wcv_lower.specs.CoreInstances.{core_item_at, test_found}
use Rattle.wcv_lower.specs.Given.{none_given}
use Rattle.wcv_lower.specs.Outlines.{is_async_func}
use Rattle.wcv_lower.specs.Readers.{if_sort}
use Rattle.wcv_lower.specs.Step.{Step, apply}
use Rattle.wcv_lower.specs.Trees.{Tree_context, Tree_stack, tree_reader}
use Rattle.wcv_core.specs.Features.{cm_async_stackful}
use Rattle.wcv_lower.specs.Values.{type_of_sort, sort_checks}
use Rattle.wcv_lower.proofs.Appended.{func_appended, lifted_outline, lifted_asks_outline}
use Rattle.wcv_lower.proofs.CanonLaws.{canon_does}
use Rattle.wcv_spaces.specs.Contents.{Contents, StateStands, with_id, context_of, stack_of, id_tree}
use Rattle.wcv_spaces.specs.Looking.{any_sort}
use Rattle.wcv_spaces.specs.Promises.{MemoryOrCausedBy, Keeps, Grew}
use Rattle.wcv_spaces.proofs.Calls.{caused_more}
use Rattle.wcv_spaces.proofs.CoreItems.{item_tree, item_here, missing_mapped}
use Rattle.wcv_spaces.proofs.Found.{get_same, sorts_same, stands_at}
use Rattle.wcv_spaces.proofs.Keeping.{keeps_with_id, with_id_context}
use Rattle.wcv_state.proofs.Stacks.{none_made}
use Rattle.wcv_canon.specs.Lifting.{async_checks, post_checks}
use Rattle.wcv_canon.proofs.CoreJoined.{id_within}
use Rattle.wcv_canon.proofs.Found.{entity_here}

-- ## Options

-- a first one is found where one stands
callback_stands : (os : List CanonicalOption) → is_none (first callback_in os) ≡ not (stands callback_option os)
callback_stands [] = refl
callback_stands (option.Callback i ∷ os) = refl
callback_stands (o ∷ os) = callback_stands os

async_is : (os : List CanonicalOption) → is_async (concurrency_of os) ≡ stands async_option os
async_is os = go (stands async_option os)
  where
    go : (b : Bool) → is_async (cond b (concurrency.Async (first callback_in os)) concurrency.Sync) ≡ b
    go true = refl
    go false = refl

alone_is : (os : List CanonicalOption) → (is_async (concurrency_of os) && is_none (callback_of (concurrency_of os))) ≡ stands_without async_option callback_option os
alone_is os = go (stands async_option os)
  where
    go : (b : Bool) → (is_async (cond b (concurrency.Async (first callback_in os)) concurrency.Sync) && is_none (callback_of (cond b (concurrency.Async (first callback_in os)) concurrency.Sync))) ≡ (b && not (stands callback_option os))
    go true = callback_stands os
    go false = refl

-- ## Checks

module _ (a : Arena) (s : Contents) (h : StateStands a s) (outer : List Tree_context) (k t : ℕ) (os : List CanonicalOption) where
  abbrev Here : Tree_context
  Here = context_of a s

  abbrev Whole : Tree_stack
  Whole = stack_of a s outer

  abbrev read : CanonicalOptions
  read = options_read Here os

  abbrev asked : Checks
  asked = missing (core_item_at Here kind.Func k) ++ []

  abbrev there : Checks
  there = sort_checks is_func Here t

  abbrev listed : Checks
  listed = options_checks s.features Whole os

  abbrev lifts : Checks
  lifts = lift_checks s.features Whole k t os

  abbrev typed : Checks
  typed = if_found (lifted_asks tree_reader read) (type_of_sort is_func Here t)

  abbrev room : Checks
  room = no_room (counts Here) is_func

  abbrev ruled : Checks
  ruled = (lifts ++ []) ++ typed

  abbrev All_causes : Checks
  All_causes = canon_checks s.features Whole (lift k t os)

  -- one after the other
  all_free : IsFree (missing (core_item_at Here kind.Func k)) → IsFree there → IsFree listed → IsFree lifts → IsFree typed → IsFree room → IsFree All_causes
  all_free f g l r x q =
      free_both (asked ++ there) (listed ++ (ruled ++ room)) (free_both asked there (free_both (missing (core_item_at Here kind.Func k)) [] f tt) g)
      (free_both listed (ruled ++ room) l (free_both ruled room (free_both (lifts ++ []) typed (free_both lifts [] r tt) x) q))

  module _ {M : Type 0} (offset : ℕ) (e : Error M) where
    abbrev K : ErrorKind
    K = error_kind e

    behind : Cause (listed ++ (ruled ++ room)) K → Cause All_causes K
    behind c = cause_right (asked ++ there) (listed ++ (ruled ++ room)) K c

    from_rules : Cause ruled K → Cause All_causes K
    from_rules c = behind (cause_right listed (ruled ++ room) K (cause_left ruled room K c))

    from_lifts : Cause lifts K → Cause All_causes K
    from_lifts c = from_rules (cause_left (lifts ++ []) typed K (cause_left lifts [] K c))

    pub func_missing : MemoryOrCausedBy (missing (slice_get s.spaces.core_funcs k)) offset e → MemoryOrCausedBy All_causes offset e
    func_missing m =
        caused_more (missing (slice_get s.spaces.core_funcs k)) All_causes offset e
        (λ c. cause_left (asked ++ there) (listed ++ (ruled ++ room)) K (cause_left asked there K (cause_left (missing (core_item_at Here kind.Func k)) [] K
        (subst (λ cs. Cause cs K) (sym (missing_mapped entity.Func (slice_get s.spaces.core_funcs k)) ∙ sym (missing_mapped item_tree (option_map entity.Func (slice_get s.spaces.core_funcs k))) ∙ ap missing (sym (item_here a s kind.Func k))) c)))) m

    pub type_missing : MemoryOrCausedBy (missing_of is_func (option_map any_sort (slice_get s.spaces.types t))) offset e → MemoryOrCausedBy All_causes offset e
    type_missing m =
        caused_more (missing_of is_func (option_map any_sort (slice_get s.spaces.types t))) All_causes offset e
        (λ c. cause_left (asked ++ there) (listed ++ (ruled ++ room)) K (cause_right asked there K (subst (λ (o : Option Sort). Cause (missing_of is_func o) K) (sym (sorts_same a s h t)) c))) m

    pub options_caused : MemoryOrCausedBy listed offset e → MemoryOrCausedBy All_causes offset e
    options_caused m = caused_more listed All_causes offset e (λ c. behind (cause_left listed (ruled ++ room) K c)) m

    pub room_caused : MemoryOrCausedBy room offset e → MemoryOrCausedBy All_causes offset e
    room_caused m = caused_more room All_causes offset e (λ c. behind (cause_right listed (ruled ++ room) K (cause_right ruled room K c))) m

  module _ (id : ComponentFuncTypeId) (of : slice_get s.spaces.types t ≡ Some (any.Func id)) where
    abbrev tree : Type_tree
    tree = tree_at a (part.Func id)

    pub func_stands : Stands a (part.Func id)
    func_stands = (stands_at a s h in_types t (any.Func id) of).0

    type_is : type_of_sort is_func Here t ≡ Some tree
    type_is =
        ap (λ (o : Option Type_tree). option_and_then (if_sort tree_reader is_func) (option_map tree_reader.referenced o)) (get_same a s h in_types t ∙ ap (option_map (id_tree (trees a.nodes) in_types)) of) ∙
        ap (λ (z : Sort). cond (same_sort is_func z) (Some tree) None) (sort_stands a (part.Func id) func_stands)

    pub lift_grew : (b : Arena) (s' : Contents) → b ≡ a → s' ≡ with_id in_funcs id s → s.spent ≡ false → IsFree All_causes → (p : Place) → Grew a b outer p s s' (canon_item (lift k t os))
    lift_grew b s' eb es live free p =
        let step = canon_does tree_reader Whole s.features (lift k t os) free in
        let top : push in_funcs tree Here ≡ context_of a (with_id in_funcs id s) = sym (with_id_context a in_funcs id s) in
        let applied : apply (func_added tree) Whole ≡ stack_of a (with_id in_funcs id s) outer = λ j. record { top = top j; outer = outer; groups = a.core } in
        record {
          names = none_given;
          given = none_made a b p;
          grown =
              ap (option_map (λ (x : Step tree_reader). apply x Whole)) step.1 ∙
              ap Some (ap (λ (x : Step tree_reader). apply x Whole) (func_appended Whole k t os step.0 tree step.1 type_is) ∙ applied ∙ λ j. stack_of (sym eb j) (sym es j) outer);
          free = free;
          live = ap (λ (z : Contents). z.spent) es ∙ live;
        }

    pub lift_keeps : (b : Arena) (s' : Contents) → b ≡ a → s' ≡ with_id in_funcs id s → Keeps a b s s'
    lift_keeps b s' eb es = subst (λ (c : Arena). Keeps a c s s') (sym eb) (subst (Keeps a a s) (sym es) (keeps_with_id a in_funcs id s h func_stands))

    module _ (core : CoreTypeId) (at : slice_get s.spaces.core_funcs k ≡ Some core) where
      abbrev found : Option EntityType
      found = Some (entity.Func core)

      entity_is : core_entity_at Here kind.Func k ≡ found
      entity_is = entity_here a s kind.Func k ∙ ap (option_map entity.Func) at

      abbrev is_alone : Bool
      is_alone = stands async_option os && not (is_async_func (tree_reader.outline tree))

      abbrev needed : Checks
      needed = needs s.features cm_async_stackful (stands_without async_option callback_option os)

      abbrev post : Bool
      post = test_found (is_no_post_return a.core (entity.Func core)) (option_and_then (core_entity_at Here kind.Func) (first post_return_in os))

      abbrev signed : Bool
      signed = has_other_type a.core (lifted_form tree_reader read tree) (entity.Func core)

      lifts_are : lifts ≡ ((error.Options, is_alone) ∷ needed) ++ ((error.Options, post) ∷ (error.Signature, signed) ∷ [])
      lifts_are = λ j.
          (error.Options, is_async_alone tree_reader os (type_is j))
          ∷ (needed
          ++ ((error.Options, test_both (is_no_post_return a.core) (entity_is j) (option_and_then (core_entity_at Here kind.Func) (first post_return_in os))) ∷ (error.Signature, test_both (λ (y : Type_tree) i. has_other_type a.core (lifted_form tree_reader read y) i) (type_is j) (entity_is j)) ∷ []))

      async_same : (b : Bool) → b ≡ is_async_func (tree_reader.outline tree) → async_checks s.features read.concurrency b ≡ (error.Options, is_alone) ∷ needed
      async_same b e = λ j. (error.Options, async_is os j && not (e j)) ∷ needs s.features cm_async_stackful (alone_is os j)

      post_same : post_checks a.core s.spaces core read.post_return ≡ (error.Options, post) ∷ []
      post_same = λ j. (error.Options, go (first post_return_in os) j) ∷ []
        where
          one : (o : Option CoreTypeId) → test_found (λ (p : CoreTypeId). is_no_post_return a.core (entity.Func core) (entity.Func p)) o ≡ test_found (is_no_post_return a.core (entity.Func core)) (option_map entity.Func o)
          one None = refl
          one (Some p) = refl

          go : (o : Option ℕ) → test_found (λ (p : CoreTypeId). is_no_post_return a.core (entity.Func core) (entity.Func p)) (option_and_then (slice_get s.spaces.core_funcs) o) ≡ test_found (is_no_post_return a.core (entity.Func core)) (option_and_then (core_entity_at Here kind.Func) o)
          go None = refl
          go (Some i) = one (slice_get s.spaces.core_funcs i) ∙ ap (test_found (is_no_post_return a.core (entity.Func core))) (sym (entity_here a s kind.Func i))

      typed_is : typed ≡ type_checks read abi.Lift (parts tree)
      typed_is = ap (if_found (lifted_asks tree_reader read)) type_is ∙ lifted_asks_outline read tree

      signed_is : (w : CompositeForm) → w ≡ core_type (pointer_size read) abi.Lift read.concurrency (parts tree) → has_other_type a.core w (entity.Func core) ≡ signed
      signed_is w e = ap (λ (x : CompositeForm). has_other_type a.core x (entity.Func core)) (e ∙ sym (lifted_outline read tree))

      pub lift_free : (b : Bool) → b ≡ is_async_func (tree_reader.outline tree) → (w : CompositeForm) → w ≡ core_type (pointer_size read) abi.Lift read.concurrency (parts tree) → IsFree listed → IsFree room → IsFree (async_checks s.features read.concurrency b) → IsFree (post_checks a.core s.spaces core read.post_return) → IsFree (type_checks read abi.Lift (parts tree)) → has_other_type a.core w (entity.Func core) ≡ false → IsFree All_causes
      lift_free b eb w ew l q f g x y =
          let post_free : IsFree ((error.Options, post) ∷ []) = subst IsFree post_same g in
          all_free (subst (λ (o : Option Type_tree). IsFree (missing o)) (sym (item_here a s kind.Func k ∙ ap (λ o. option_map item_tree (option_map entity.Func o)) at)) (refl, tt))
          (subst (λ (o : Option Sort). IsFree (missing_of is_func o)) (sym (sorts_same a s h t ∙ ap (option_map any_sort) of)) (refl, (refl, tt))) l
          (subst IsFree (sym lifts_are) (free_both ((error.Options, is_alone) ∷ needed) ((error.Options, post) ∷ (error.Signature, signed) ∷ []) (subst IsFree (async_same b eb) f) (post_free.0, (sym (signed_is w ew) ∙ y, tt))))
          (subst IsFree (sym typed_is) x) q

      module _ {M : Type 0} (offset : ℕ) (e : Error M) where
        lift_cause : Cause (((error.Options, is_alone) ∷ needed) ++ ((error.Options, post) ∷ (error.Signature, signed) ∷ [])) (error_kind e) → Cause All_causes (error_kind e)
        lift_cause c = from_lifts offset e (subst (λ cs. Cause cs (error_kind e)) (sym lifts_are) c)

        pub async_caused : (b : Bool) → b ≡ is_async_func (tree_reader.outline tree) → MemoryOrCausedBy (async_checks s.features read.concurrency b) offset e → MemoryOrCausedBy All_causes offset e
        async_caused b eb m =
            caused_more (async_checks s.features read.concurrency b) All_causes offset e
            (λ c. lift_cause (cause_left ((error.Options, is_alone) ∷ needed) ((error.Options, post) ∷ (error.Signature, signed) ∷ []) (error_kind e) (subst (λ cs. Cause cs (error_kind e)) (async_same b eb) c))) m

        pub post_caused : MemoryOrCausedBy (post_checks a.core s.spaces core read.post_return) offset e → MemoryOrCausedBy All_causes offset e
        post_caused m =
            caused_more (post_checks a.core s.spaces core read.post_return) All_causes offset e
            (λ c. lift_cause (cause_right ((error.Options, is_alone) ∷ needed) ((error.Options, post) ∷ (error.Signature, signed) ∷ []) (error_kind e)
            (cause_left ((error.Options, post) ∷ []) ((error.Signature, signed) ∷ []) (error_kind e) (subst (λ cs. Cause cs (error_kind e)) post_same c)))) m

        pub type_caused : MemoryOrCausedBy (type_checks read abi.Lift (parts tree)) offset e → MemoryOrCausedBy All_causes offset e
        type_caused m =
            caused_more (type_checks read abi.Lift (parts tree)) All_causes offset e
            (λ c. from_rules offset e (cause_right (lifts ++ []) typed (error_kind e) (subst (λ cs. Cause cs (error_kind e)) (sym typed_is) c))) m

        pub signature_caused : (w : CompositeForm) → w ≡ core_type (pointer_size read) abi.Lift read.concurrency (parts tree) → MemoryOrCausedBy ((error.Signature, has_other_type a.core w (entity.Func core)) ∷ []) offset e → MemoryOrCausedBy All_causes offset e
        signature_caused w ew m =
            caused_more ((error.Signature, has_other_type a.core w (entity.Func core)) ∷ []) All_causes offset e
            (λ c. lift_cause (cause_right ((error.Options, is_alone) ∷ needed) ((error.Options, post) ∷ (error.Signature, signed) ∷ []) (error_kind e)
            (cause_right ((error.Options, post) ∷ []) ((error.Signature, signed) ∷ []) (error_kind e) (subst (λ (b : Bool). Cause ((error.Signature, b) ∷ []) (error_kind e)) (signed_is w ew) c)))) m

-- ## The core type of the function

-- the group has the id of the core function where the table had it, and it adds nothing then
module _ (gs : List Group) (w : CompositeForm) (t : CoreTypeId) (i : ℕ) (found : id_of (with_group gs (alone false w)) (alone false w) ≡ Some i) where
  found_first : first_id gs (alone false w) ≡ i
  found_first = some-inj (sym (interned gs (alone false w)) ∙ found)

  pub signature_same : i ≡ t.index → t.index < total gs → (has_other_type gs w (entity.Func t) ≡ false) × (with_group gs (alone false w) ≡ gs)
  signature_same e l = go (id_of gs (alone false w)) (found_first ∙ e)
    where
      go : (o : Option ℕ) → unwrap_or o (total gs) ≡ t.index → (not (test_found (eqb t.index) o) ≡ false) × (joined_to o gs (alone false w) ≡ gs)
      go None q = Prim.absurd (omega (arith, q, l))
      go (Some j) q = (ap not (eq-eqb t.index j (sym q)), refl)

  pub signature_other : (i ≡ t.index → ⊥) → has_other_type gs w (entity.Func t) ≡ true
  signature_other n = go (id_of gs (alone false w)) found_first
    where
      go : (o : Option ℕ) → unwrap_or o (total gs) ≡ i → not (test_found (eqb t.index) o) ≡ true
      go None q = refl
      go (Some j) q = unequal (eqb t.index j) refl
        where
          unequal : (b : Bool) → eqb t.index j ≡ b → not b ≡ true
          unequal true e = absurd (n (sym q ∙ sym (eqb-true t.index j e)))
          unequal false e = refl

-- both ids are of the table that has the group
pub both_within : (a b : Arena) (g : Group) (i t : ℕ) → 0 < length g → b ≡ with_core a (with_group a.core g) → id_of b.core g ≡ Some i → t < total a.core → (i < total b.core) × (t < total b.core)
both_within a b g i t h e found l = (id_within i b.core g h found, subst (λ (c : Arena). t < total c.core) (sym e) (omega (arith, l, total_with a.core g)))
