-- A state grows by an instance that was made, once the values that the item names were used and the instance joined it.
use Rattle.std.proofs.Common.{◌≡◌, ℕ, List, [], ◌∷◌, ◌++◌, refl, sym, ◌∙◌, ap, subst, true, Some, inl, ⊎_elim}
use Rattle.std.specs.Prelude.{Option, slice_get, Result, Ok, Err, IfErr, OnErr}
use Rattle.std.specs.Option.{option_map}
use Rattle.wcv_core.specs.Checks.{Checks, Cause, IsFree, all_checks}
use Rattle.wcv_core.specs.Names.{Place}
use Rattle.wcv_core.specs.Refusal.{error_kind}
use Rattle.wcv_core.specs.declared.error.Error.{Error}
use Rattle.wcv_core.specs.declared.error.ErrorKind.{ErrorKind}
use Rattle.wcv_core.specs.declared.error.ErrorKind.TheVariants as kind
use Rattle.wcv_core.proofs.Causes.{cause_left, cause_right, cause_either, free_both, free_right}
use Rattle.wcv_syntax.specs.Model.{Instance_form, instance_item, instantiate, bag}
use Rattle.wcv_syntax.specs.declared.instance.ComponentExternalKind.{ComponentExternalKind}
use Rattle.wcv_syntax.specs.declared.instance.ComponentExternalKind.TheVariants as external
use Rattle.wcv_syntax.specs.declared.instance.ComponentInstantiationArg.{ComponentInstantiationArg}
use Rattle.wcv_syntax.specs.declared.name.ComponentExport.{ComponentExport}
use Rattle.wcv_types.specs.Arena.{Arena}
use Rattle.wcv_types.specs.Standing.{Extends}
use Rattle.wcv_lower.specs.Checks.{if_found, missing}
use Rattle.wcv_lower.specs.Given.{names_of, none_given}
use Rattle.wcv_lower.specs.Instances.{argument_checks, argument_values, borrow_checks, instance_joins, instance_values, item_at, listed_at, listed_checks, listed_values, made_checks, shape_checks}
use Rattle.wcv_lower.specs.Marks.{uses_each, using, use_checks, value_index}
use Rattle.wcv_lower.specs.Readers.{Brought}
use Rattle.wcv_lower.specs.Step.{Step, apply}
use Rattle.wcv_lower.specs.Trees.{Tree_context, Tree_stack, tree_maker, tree_reader}
use Rattle.wcv_lower.specs.Values.{kind_checks}
use Rattle.wcv_lower.proofs.MarkLaws.{apply-append}
use Rattle.wcv_spaces.specs.Bringing.{AreNewIn}
use Rattle.wcv_spaces.specs.Contents.{Contents, context_of, spent, stack_of, with_uses, StateStands}
use Rattle.wcv_state.specs.Joining.{InstanceJoined}
use Rattle.wcv_instantiate.specs.Instantiations.{brought_of}
use Rattle.wcv_spaces.specs.Promises.{Grew, Keeps, MemoryOrCausedBy, Refuses}
use Rattle.wcv_spaces.specs.Values.{use_id_checks, uses_id_checks}
use Rattle.wcv_instantiate.specs.declared.instances.NewInstance.{NewInstance}
use Rattle.wcv_spaces.proofs.Calls.{caused_more}
use Rattle.wcv_state.proofs.ItemCalls.{later_new}
use Rattle.wcv_state.proofs.ItemsAt.{items_missing}
use Rattle.wcv_spaces.proofs.Keeping.{keeps_grown, keeps_marked, keeps_trans, same_context, state_stands}
use Rattle.wcv_spaces.proofs.UsedValues.{keeps_uses, use_checks_same, uses_stack, uses_stand}
use Rattle.wcv_state.proofs.Stacks.{none_made}
use Rattle.wcv_instances.specs.ComponentInstances.{CausedInstance, MadeInstance}

-- ## Grown

module _ (a b : Arena) (s : Contents) (i : Instance_form) (m : NewInstance) (w : MadeInstance a b s i m) (g : Extends a b) (h : StateStands a s) where
  abbrev ks : List ℕ
  ks = instance_values i

  pub still_stands : StateStands b s
  still_stands = state_stands a b g s h

  pub new_there : AreNewIn s.defined_resources m.resources
  new_there = later_new a s.defined_resources m.resources h.defined w.fresh

  pub kept_so : (s' : Contents) → Keeps b b s s' → Keeps a b s s'
  kept_so s' k = keeps_trans a b b s s s' (keeps_grown a b s g h) k

  used_stack : (outer : List Tree_context) → stack_of b (with_uses ks s) outer ≡ apply (uses_each ks) (stack_of a s outer)
  used_stack outer = uses_stack b ks s outer ∙ ap (apply (uses_each ks)) (λ z. record { top = same_context a b g s h z; outer = outer; groups = w.core z })

  pub instance_grew : (s' : Contents) → InstanceJoined b (with_uses ks s) s' m → IsFree (uses_id_checks s.spaces.values ks) → (outer : List Tree_context) (q : Place) → Grew a b outer q s s' (instance_item i)
  instance_grew s' j free outer q =
      let joins : Step tree_reader = instance_joins (brought_of b m) in
      let from : Tree_stack = stack_of a s outer in
      record {
        names = w.given_names q;
        given = w.given q;
        grown = ap (λ (o : Option (Brought tree_reader)). option_map (λ (x : Step tree_reader). apply x from) (using ks (option_map instance_joins o))) (w.made outer q) ∙
            ap Some (apply-append (uses_each ks) joins from ∙ sym (j.joined outer ∙ ap (apply joins) (used_stack outer)));
        free = free_both (use_checks (context_of a s) ks) (made_checks s.features (tree_maker (names_of (w.given_names q)) q) from i)
            (subst IsFree (sym (use_checks_same a s ks)) (free_right (all_checks (λ k. missing (slice_get s.spaces.values k)) ks) (use_id_checks s.spaces.values ks) free)) (w.free outer q);
        live = j.live;
      }

-- ## Refused

-- what is made has a cause
pub instance_refused : {M : Type 0} (a b : Arena) (s s' : Contents) (i : Instance_form) (offset : ℕ) (e : Error M) → s'.spent ≡ true → CausedInstance a b s i offset e → (outer : List Tree_context) (q : Place) → Refuses a b outer q s s' (instance_item i) offset e
instance_refused a b s s' i offset e gone c outer q =
    let uses : Checks = use_checks (context_of a s) (instance_values i) in
    let own : Checks = made_checks s.features (tree_maker (names_of (c.given_names q)) q) (stack_of a s outer) i in
    (gone, record { names = c.given_names q; given = c.given q; caused = caused_more own (uses ++ own) offset e (cause_right uses own (error_kind e)) (c.caused outer q) })

pub memory_caused : {M : Type 0} (a b : Arena) (s : Contents) (i : Instance_form) (offset : ℕ) (e : Error M) → error_kind e ≡ kind.OutOfMemory → CausedInstance a b s i offset e
memory_caused a b s i offset e m = record { given_names = λ q. none_given; given = λ q. none_made a b q; caused = λ outer q. inl m }

-- ## Values that are used

module _ (a : Arena) (s : Contents) (h : StateStands a s) where
  abbrev absent : List ℕ → Checks
  absent ks = all_checks (λ k. missing (slice_get s.spaces.values k)) ks

  -- no value stands where one is named
  one_absent : (w : ComponentExternalKind) (k : ℕ) (e : ErrorKind) → Cause (absent (value_index w k)) e → Cause (missing (item_at (context_of a s) w k)) e
  one_absent external.Value k e c =
      subst (λ (cs : Checks). Cause cs e) (sym (items_missing a s h external.Value k)) (⊎_elim (λ d. d) (λ d. absurd d) (cause_either (missing (slice_get s.spaces.values k)) [] e c))
  one_absent external.Module k e c = absurd c
  one_absent external.Func k e c = absurd c
  one_absent external.Ty k e c = absurd c
  one_absent external.Instance k e c = absurd c
  one_absent external.Component k e c = absurd c

  absent_both : (ks ls : List ℕ) (e : ErrorKind) (P : Type 0) → (Cause (absent ks) e → P) → (Cause (absent ls) e → P) → Cause (absent (ks ++ ls)) e → P
  absent_both [] ls e P f g c = g c
  absent_both (k ∷ ks) ls e P f g c =
      let one : Checks = missing (slice_get s.spaces.values k) in
      ⊎_elim (λ d. f (cause_left one (absent ks) e d)) (λ d. absent_both ks ls e P (λ x. f (cause_right one (absent ks) e x)) g d) (cause_either one (absent (ks ++ ls)) e c)

  args_absent : (xs : List ComponentInstantiationArg) (e : ErrorKind) → Cause (absent (argument_values xs)) e → Cause (all_checks (argument_checks s.features (context_of a s)) xs) e
  args_absent [] e c = c
  args_absent (x ∷ xs) e c =
      let own : Checks = argument_checks s.features (context_of a s) x in
      let rest : Checks = all_checks (argument_checks s.features (context_of a s)) xs in
      absent_both (value_index x.kind x.index) (argument_values xs) e (Cause (own ++ rest) e)
      (λ d. cause_left own rest e (cause_right (kind_checks s.features x.kind) (missing (item_at (context_of a s) x.kind x.index)) e (one_absent x.kind x.index e d))) (λ d. cause_right own rest e (args_absent xs e d)) c

  items_absent : (xs : List ComponentExport) (e : ErrorKind) → Cause (absent (listed_values xs)) e → Cause (all_checks (listed_checks s.features (context_of a s)) xs) e
  items_absent [] e c = c
  items_absent (x ∷ xs) e c =
      let own : Checks = listed_checks s.features (context_of a s) x in
      let rest : Checks = all_checks (listed_checks s.features (context_of a s)) xs in
      let there : Checks = missing (listed_at (context_of a s) x) in
      let more : Checks = shape_checks s.features (context_of a s) x.ty ++ if_found (borrow_checks tree_reader) (listed_at (context_of a s) x) in
      absent_both (value_index x.kind x.index) (listed_values xs) e (Cause (own ++ rest) e)
      (λ d. cause_left own rest e (cause_right (kind_checks s.features x.kind) (there ++ more) e (cause_left there more e (one_absent x.kind x.index e d)))) (λ d. cause_right own rest e (items_absent xs e d)) c

  -- a cause of uses is one of the item, by whatever names and in whatever contexts further out
  use_refused : (i : Instance_form) (outer : List Tree_context) (q : Place) (e : ErrorKind) → Cause (absent (instance_values i)) e → Cause (made_checks s.features (tree_maker (names_of none_given) q) (stack_of a s outer) i) e
  use_refused (instantiate k args) outer q e c = cause_right (missing _) _ e (cause_left (all_checks (argument_checks s.features (context_of a s)) args) _ e (args_absent args e c))
  use_refused (bag es) outer q e c = cause_left (all_checks (listed_checks s.features (context_of a s)) es) _ e (items_absent es e c)

  pub uses_refused : {M : Type 0} (b : Arena) (i : Instance_form) (s' : Contents) (offset : ℕ) (e : Error M) → s'.spent ≡ true → MemoryOrCausedBy (uses_id_checks s.spaces.values (instance_values i)) offset e → (outer : List Tree_context) (q : Place) →
      Refuses a b outer q s s' (instance_item i) offset e
  uses_refused b i s' offset e gone c outer q = (gone, record { names = none_given; given = none_made a b q; caused = caused_more (uses_id_checks s.spaces.values (instance_values i)) (uses ++ own) offset e go c })
    where
      own : Checks
      own = made_checks s.features (tree_maker (names_of none_given) q) (stack_of a s outer) i

      uses : Checks
      uses = use_checks (context_of a s) (instance_values i)

      go : Cause (uses_id_checks s.spaces.values (instance_values i)) (error_kind e) → Cause (uses ++ own) (error_kind e)
      go x =
          ⊎_elim (λ d. cause_right uses own (error_kind e) (use_refused i outer q (error_kind e) d))
          (λ d. cause_left uses own (error_kind e) (subst (λ (cs : Checks). Cause cs (error_kind e)) (sym (use_checks_same a s (instance_values i))) d))
          (cause_either (absent (instance_values i)) (use_id_checks s.spaces.values (instance_values i)) (error_kind e) x)

-- what is kept where values were used first
module _ (a : Arena) (s : Contents) (h : StateStands a s) (ks : List ℕ) where
  pub then_kept : (t s' : Contents) → t ≡ with_uses ks s → Keeps a a t s' → Keeps a a s s'
  then_kept t s' e k = keeps_trans a a a s t s' (subst (Keeps a a s) (sym e) (keeps_uses a ks s h)) k

  -- and the state is spent
  pub spent_kept : (s' : Contents) → s' ≡ spent (with_uses ks s) → Keeps a a s s'
  spent_kept s' e =
      let t : Contents = with_uses ks s in
      then_kept t s' refl (subst (Keeps a a t) (sym e) (keeps_marked a t t true refl (uses_stand a ks s h)))

-- what two clauses say of an error
pub err_and : {T E : Type 0} (r : Result T E) {P R : E → Type 0} {Q : Type 0} → ((e : E) → P e → Q → R e) → IfErr r P → OnErr r Q → IfErr r R
err_and (Ok x) f p q = tt
err_and (Err e) f p q = f e p q
