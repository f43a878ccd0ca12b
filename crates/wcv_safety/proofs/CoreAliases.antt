-- Aliases of what a core instance exports: where a context takes the step, so do the lists that agree with it, and both still agree.
use Rattle.std.proofs.Common.{◌≡◌, ◌∙◌, ℕ, List, Bool, true, false, cond, Option, Some, None, refl, ap, subst}
use Rattle.std.specs.Option.{option_map, option_and_then}
use Rattle.wcv_core.specs.CoreForm.{Group}
use Rattle.wcv_core.specs.Names.{Name}
use Rattle.wcv_core.specs.declared.core_types.EntityType.{EntityType}
use Rattle.wcv_core.specs.declared.core_types.EntityType.TheVariants as entity
use Rattle.wcv_syntax.specs.declared.core_section.ExternalKind.{ExternalKind}
use Rattle.wcv_syntax.specs.declared.core_section.ExternalKind.TheVariants as kind
use Rattle.wcv_types.specs.Tree.{Text, Sort, is_core_instance, sort}
use Rattle.wcv_types.specs.Unfold.{Type_tree}
use Rattle.wcv_types.proofs.Lists.{some-inj}
use Rattle.wcv_matching.specs.ModuleItems.{ItemsMatch}
use Rattle.wcv_lower.specs.Context.{core_types, core_instances, same_core_space}
use Rattle.wcv_lower.specs.CoreInstances.{space_of, is_of, if_of, core_instance_at, core_export_of, item_joins, core_alias_step}
use Rattle.wcv_lower.specs.Step.{Step, apply}
use Rattle.wcv_lower.specs.Trees.{Tree_stack, tree_reader}
use Rattle.wcv_growth.proofs.Known.{mapped-some, then-some, all-get}
use Rattle.wcv_world.specs.Reading.{Value_stack, value_reader}
use Rattle.wcv_world.specs.Values.{Value, type_over}
use Rattle.wcv_safety.specs.Agreeing.{Agrees, AgreesAs, AgreeReadings}
use Rattle.wcv_safety.specs.Standing.{BothStand}
use Rattle.wcv_safety.proofs.Agreeing.{core-appends-agree, quiet-follows}
use Rattle.wcv_safety.proofs.Lists.{zip-get}

-- items that match are of one sort
pub same-kind : (gs : List Group) (k : ExternalKind) (x y : EntityType) → ItemsMatch gs x y → is_of k x ≡ is_of k y
same-kind gs kind.Func (entity.Func a) (entity.Func b) m = refl
same-kind gs kind.Table (entity.Func a) (entity.Func b) m = refl
same-kind gs kind.Memory (entity.Func a) (entity.Func b) m = refl
same-kind gs kind.Global (entity.Func a) (entity.Func b) m = refl
same-kind gs kind.Tag (entity.Func a) (entity.Func b) m = refl
same-kind gs k (entity.Func a) (entity.Table b) m = absurd m
same-kind gs k (entity.Func a) (entity.Memory b) m = absurd m
same-kind gs k (entity.Func a) (entity.Global b) m = absurd m
same-kind gs k (entity.Func a) (entity.Tag b) m = absurd m
same-kind gs k (entity.Table a) (entity.Func b) m = absurd m
same-kind gs kind.Func (entity.Table a) (entity.Table b) m = refl
same-kind gs kind.Table (entity.Table a) (entity.Table b) m = refl
same-kind gs kind.Memory (entity.Table a) (entity.Table b) m = refl
same-kind gs kind.Global (entity.Table a) (entity.Table b) m = refl
same-kind gs kind.Tag (entity.Table a) (entity.Table b) m = refl
same-kind gs k (entity.Table a) (entity.Memory b) m = absurd m
same-kind gs k (entity.Table a) (entity.Global b) m = absurd m
same-kind gs k (entity.Table a) (entity.Tag b) m = absurd m
same-kind gs k (entity.Memory a) (entity.Func b) m = absurd m
same-kind gs k (entity.Memory a) (entity.Table b) m = absurd m
same-kind gs kind.Func (entity.Memory a) (entity.Memory b) m = refl
same-kind gs kind.Table (entity.Memory a) (entity.Memory b) m = refl
same-kind gs kind.Memory (entity.Memory a) (entity.Memory b) m = refl
same-kind gs kind.Global (entity.Memory a) (entity.Memory b) m = refl
same-kind gs kind.Tag (entity.Memory a) (entity.Memory b) m = refl
same-kind gs k (entity.Memory a) (entity.Global b) m = absurd m
same-kind gs k (entity.Memory a) (entity.Tag b) m = absurd m
same-kind gs k (entity.Global a) (entity.Func b) m = absurd m
same-kind gs k (entity.Global a) (entity.Table b) m = absurd m
same-kind gs k (entity.Global a) (entity.Memory b) m = absurd m
same-kind gs kind.Func (entity.Global a) (entity.Global b) m = refl
same-kind gs kind.Table (entity.Global a) (entity.Global b) m = refl
same-kind gs kind.Memory (entity.Global a) (entity.Global b) m = refl
same-kind gs kind.Global (entity.Global a) (entity.Global b) m = refl
same-kind gs kind.Tag (entity.Global a) (entity.Global b) m = refl
same-kind gs k (entity.Global a) (entity.Tag b) m = absurd m
same-kind gs k (entity.Tag a) (entity.Func b) m = absurd m
same-kind gs k (entity.Tag a) (entity.Table b) m = absurd m
same-kind gs k (entity.Tag a) (entity.Memory b) m = absurd m
same-kind gs k (entity.Tag a) (entity.Global b) m = absurd m
same-kind gs kind.Func (entity.Tag a) (entity.Tag b) m = refl
same-kind gs kind.Table (entity.Tag a) (entity.Tag b) m = refl
same-kind gs kind.Memory (entity.Tag a) (entity.Tag b) m = refl
same-kind gs kind.Global (entity.Tag a) (entity.Tag b) m = refl
same-kind gs kind.Tag (entity.Tag a) (entity.Tag b) m = refl

-- no core item stands among the core types
pub no-types : (k : ExternalKind) → same_core_space core_types (space_of k) ≡ true → ⊥
no-types kind.Func e = cc
no-types kind.Table e = cc
no-types kind.Memory e = cc
no-types kind.Global e = cc
no-types kind.Tag e = cc

of-kind : (k : ExternalKind) (x y : EntityType) → if_of k x ≡ Some y → (is_of k x ≡ true) × (x ≡ y)
of-kind k x y e = go (is_of k x) e
  where
    go : (b : Bool) → cond b (Some x) None ≡ Some y → (b ≡ true) × (x ≡ y)
    go true e = (refl, some-inj e)
    go false e = cc

is-kind : (k : ExternalKind) (x : EntityType) → is_of k x ≡ true → if_of k x ≡ Some x
is-kind k x e = ap (λ (b : Bool). cond b (Some x) None) e

module _ (g : Name → Name) (v : Value_stack) (s : Tree_stack) (h : BothStand v s) (a : AgreeReadings g v s) where
  pub core-follows : (k : ExternalKind) (i : ℕ) (n : Text) (y : Step tree_reader) → core_alias_step s.top k i n ≡ Some y → (x : Step value_reader) × (core_alias_step v.top k i n ≡ Some x) × AgreeReadings g (apply x v) (apply y s)
  core-follows k i n y e =
      let m = mapped-some (item_joins tree_reader k) (option_and_then (if_of k) (option_and_then (core_export_of tree_reader n) (core_instance_at s.top i))) y e in
      let o = then-some (if_of k) (option_and_then (core_export_of tree_reader n) (core_instance_at s.top i)) m.0 m.1 in
      let j = of-kind k o.0 m.0 o.2 in
      let f = then-some (core_export_of tree_reader n) (core_instance_at s.top i) o.0 o.1 in
      let z = zip-get (Agrees v.groups g) (v.top.core core_instances) (s.top.core core_instances) i f.0 (a.stacks.all.0.core core_instances) f.1 in
      let is : sort f.0 ≡ is_core_instance = all-get (λ (x : Type_tree). sort x ≡ is_core_instance) (s.top.core core_instances) i f.0 (h.types.core_sorted core_instances) f.1 in
      let serves : AgreesAs is_core_instance v.groups g (type_over z.0) f.0 = subst (λ (l : Sort). AgreesAs l v.groups g (type_over z.0) f.0) is z.2 in
      let x = serves.1 n o.0 f.2 in
      let one : Step value_reader = item_joins value_reader k x.0 in
      let two : Step tree_reader = item_joins tree_reader k o.0 in (
        one,
        ap (λ (p : Option Value). option_map (item_joins value_reader k) (option_and_then (if_of k) (option_and_then (core_export_of value_reader n) p))) z.1
            ∙ ap (λ (p : Option EntityType). option_map (item_joins value_reader k) (option_and_then (if_of k) p)) x.1
            ∙ ap (option_map (item_joins value_reader k)) (is-kind k x.0 (same-kind v.groups k x.0 o.0 x.2 ∙ j.0)),
        subst (λ (p : Step tree_reader). AgreeReadings g (apply one v) (apply p s)) (ap (item_joins tree_reader k) j.1 ∙ m.2)
            (quiet-follows g v s one two a (tt, tt) (tt, tt)
            (core-appends-agree v.top.defined g (space_of k) v s (value_reader.core_item x.0) (tree_reader.core_item o.0) a.stacks (x.0, o.0, refl, refl, x.2) (λ e. absurd (no-types k e)))),
      )
