-- Outer aliases of values follow those of types: where a context takes the step, so do the lists that agree with it, and both still agree.
use Rattle.std.proofs.Common.{◌≡◌, ◌∙◌, ℕ, zero, suc, List, [], ◌∷◌, ◌++◌, Bool, true, false, cond, Some, sym, ap, subst}
use Rattle.std.specs.Prelude.{slice_get, ◌&&◌}
use Rattle.std.specs.List.{AllZip}
use Rattle.std.specs.Option.{option_map, option_and_then}
use Rattle.wcv_core.specs.CoreForm.{Group}
use Rattle.wcv_core.specs.Names.{Name}
use Rattle.wcv_syntax.specs.declared.instance.ComponentOuterAliasKind.{ComponentOuterAliasKind}
use Rattle.wcv_syntax.specs.declared.instance.ComponentOuterAliasKind.TheVariants as outer
use Rattle.wcv_types.specs.Unfold.{Type_tree}
use Rattle.wcv_lower.specs.Aliases.{outer_items, outer_at, outer_joins, is_charged, concrete_at, charged, outer_alias_step}
use Rattle.wcv_lower.specs.Context.{Stack, in_types, in_components, core_types, core_modules, at_distance}
use Rattle.wcv_lower.specs.Readers.{Reader}
use Rattle.wcv_lower.specs.Step.{Step, charges, apply}
use Rattle.wcv_lower.specs.Trees.{Tree_context, Tree_stack, tree_reader}
use Rattle.wcv_lower.proofs.MarkLaws.{apply-append}
use Rattle.wcv_growth.proofs.Known.{mapped-some, then-some}
use Rattle.wcv_world.specs.Growth.{Tokens}
use Rattle.wcv_world.specs.Reading.{Value_context, Value_stack, value_reader}
use Rattle.wcv_world.specs.Values.{Value}
use Rattle.wcv_safety.specs.Agreeing.{Agrees, AgreesAsType, AgreeContexts, AgreeStacks, AgreeReadings}
use Rattle.wcv_safety.proofs.Agreeing.{AllUnseen, appends-agree, core-appends-agree, both-unseen, quiet-follows}
use Rattle.wcv_safety.proofs.Lists.{zip-get}
use Rattle.wcv_safety.proofs.Quiet.{AllQuiet, quiet-top, quiet-both}

-- ## What is found

-- what may be aliased agrees, and among the core types as types
abbrev OuterAgrees : ComponentOuterAliasKind → List Group → (Name → Name) → Value → Type_tree → Type 0
OuterAgrees outer.CoreType gs g = λ x t. Agrees gs g x t × AgreesAsType gs g x t
OuterAgrees w gs g = λ x t. Agrees gs g x t

module _ (gs : List Group) (ts : Tokens) (g : Name → Name) where
  both-agree : (xs : List Value) (cs : List Type_tree) → AllZip (Agrees gs g) xs cs → AllZip (AgreesAsType gs g) xs cs → AllZip (λ x t. Agrees gs g x t × AgreesAsType gs g x t) xs cs
  both-agree [] [] a b = tt
  both-agree [] (c ∷ cs) a b = absurd a
  both-agree (x ∷ xs) [] a b = absurd a
  both-agree (x ∷ xs) (c ∷ cs) a b = ((a.0, b.0), both-agree xs cs a.1 b.1)

  items-agree : (w : ComponentOuterAliasKind) (v : Value_context) (c : Tree_context) → AgreeContexts gs ts g v c → AllZip (OuterAgrees w gs g) (outer_items w v) (outer_items w c)
  items-agree outer.CoreModule v c a = a.core core_modules
  items-agree outer.CoreType v c a = both-agree (v.core core_types) (c.core core_types) (a.core core_types) a.types
  items-agree outer.Ty v c a = a.space in_types
  items-agree outer.Component v c a = a.space in_components

module _ (ts : Tokens) (g : Name → Name) where
  -- what stands further out
  outer-agrees : (w : ComponentOuterAliasKind) (n i : ℕ) (v : Value_stack) (s : Tree_stack) (t : Type_tree) → AgreeStacks ts g v s → outer_at s w n i ≡ Some t → (x : Value) × (outer_at v w n i ≡ Some x) × OuterAgrees w v.groups g x t
  outer-agrees w n i v s t a e =
      let c = then-some (λ (c : Tree_context). slice_get (outer_items w c) i) (at_distance n s) t e in
      let u = zip-get (AgreeContexts v.groups ts g) (v.top ∷ v.outer) (s.top ∷ s.outer) n c.0 a.all c.1 in
      let x = zip-get (OuterAgrees w v.groups g) (outer_items w u.0) (outer_items w c.0) i t (items-agree v.groups ts g w u.0 c.0 u.2) c.2 in
      (x.0, ap (option_and_then (λ (d : Value_context). slice_get (outer_items w d) i)) u.1 ∙ x.1, x.2)

  -- ## Steps

  joins-outer : (w : ComponentOuterAliasKind) (v : Value_stack) (s : Tree_stack) (x : Value) (t : Type_tree) → AgreeStacks ts g v s → OuterAgrees w v.groups g x t → AgreeStacks ts g (apply (outer_joins w x) v) (apply (outer_joins w t) s)
  joins-outer outer.CoreModule v s x t a r = core-appends-agree ts g core_modules v s x t a r (λ e. absurd (cc))
  joins-outer outer.CoreType v s x t a r = core-appends-agree ts g core_types v s x t a r.0 (λ e. r.1)
  joins-outer outer.Ty v s x t a r = appends-agree ts g in_types v s x t a r
  joins-outer outer.Component v s x t a r = appends-agree ts g in_components v s x t a r

module _ (X : Reader) where
  charge-unseen : (b : Bool) (k n : ℕ) → AllUnseen {X = X} (cond b (charges k n ∷ []) [])
  charge-unseen true k n = (tt, tt)
  charge-unseen false k n = tt

  charge-quiet : (b : Bool) (k n : ℕ) → AllQuiet {X = X} (cond b (charges k n ∷ []) [])
  charge-quiet true k n = (tt, tt)
  charge-quiet false k n = tt

  charged-unseen : (s : Stack X) (w : ComponentOuterAliasKind) (n : ℕ) (x : X.Entry) → AllUnseen {X = X} (charged s w n x)
  charged-unseen s w zero x = tt
  charged-unseen s w (suc n) x = charge-unseen (is_charged w && concrete_at n s) n (X.size x)

  charged-quiet : (s : Stack X) (w : ComponentOuterAliasKind) (n : ℕ) (x : X.Entry) → AllQuiet {X = X} (charged s w n x)
  charged-quiet s w zero x = tt
  charged-quiet s w (suc n) x = charge-quiet (is_charged w && concrete_at n s) n (X.size x)

  quiet-outer : (w : ComponentOuterAliasKind) (x : X.Entry) → AllQuiet {X = X} (outer_joins w x)
  quiet-outer outer.CoreModule x = (tt, tt)
  quiet-outer outer.CoreType x = (tt, tt)
  quiet-outer outer.Ty x = (tt, tt)
  quiet-outer outer.Component x = (tt, tt)

module _ (g : Name → Name) where
  same-groups : (v : Value_stack) (w : ComponentOuterAliasKind) (n : ℕ) (x : Value) → (apply (charged v w n x) v).groups ≡ v.groups
  same-groups v w n x = (quiet-top (charged v w n x) v (charged-quiet value_reader v w n x)).groups

  pub outer-follows : (w : ComponentOuterAliasKind) (n i : ℕ) (v : Value_stack) (s : Tree_stack) (y : Step tree_reader) → AgreeReadings g v s → outer_alias_step s w n i ≡ Some y →
      (x : Step value_reader) × (outer_alias_step v w n i ≡ Some x) × AgreeReadings g (apply x v) (apply y s)
  outer-follows w n i v s y a e =
      let m = mapped-some (λ (t : Type_tree). charged s w n t ++ outer_joins w t) (outer_at s w n i) y e in
      let x = outer-agrees v.top.defined g w n i v s m.0 a.stacks m.1 in
      let one : Step value_reader = charged v w n x.0 ++ outer_joins w x.0 in
      let two : Step tree_reader = charged s w n m.0 ++ outer_joins w m.0 in (
        one,
        ap (option_map (λ (z : Value). charged v w n z ++ outer_joins w z)) x.1,
        subst (λ (z : Step tree_reader). AgreeReadings g (apply one v) (apply z s)) m.2
            (quiet-follows g v s one two a (quiet-both (charged v w n x.0) (outer_joins w x.0) (charged-quiet value_reader v w n x.0) (quiet-outer value_reader w x.0))
            (quiet-both (charged s w n m.0) (outer_joins w m.0) (charged-quiet tree_reader s w n m.0) (quiet-outer tree_reader w m.0))
            (subst (λ (z : Value_stack). AgreeStacks v.top.defined g z (apply two s)) (sym (apply-append (charged v w n x.0) (outer_joins w x.0) v))
            (subst (λ (z : Tree_stack). AgreeStacks v.top.defined g (apply (outer_joins w x.0) (apply (charged v w n x.0) v)) z) (sym (apply-append (charged s w n m.0) (outer_joins w m.0) s))
            (joins-outer v.top.defined g w (apply (charged v w n x.0) v) (apply (charged s w n m.0) s) x.0 m.0
            (both-unseen v.top.defined g (charged v w n x.0) (charged s w n m.0) v s (charged-unseen value_reader v w n x.0) (charged-unseen tree_reader s w n m.0) a.stacks)
            (subst (λ (gs : List Group). OuterAgrees w gs g x.0 m.0) (sym (same-groups v w n x.0)) x.2))))),
      )
