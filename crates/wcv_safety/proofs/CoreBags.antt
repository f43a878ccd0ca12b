-- Core instances that list items: where a context makes one, so do the lists that agree with it, and the one serves as the other.
use Rattle.std.proofs.Common.{◌≡◌, ◌∙◌, ℕ, List, [], ◌∷◌, Bool, true, false, not, cond, Option, Some, None, refl, sym, ap, subst, bytes_eq}
use Rattle.std.specs.List.{AllZip, list_all}
use Rattle.std.specs.Map.{lookup}
use Rattle.std.specs.Option.{option_map, option_and_then}
use Rattle.wcv_core.specs.CoreForm.{Group}
use Rattle.wcv_core.specs.Names.{Name, Place}
use Rattle.wcv_core.specs.declared.core_types.EntityType.{EntityType}
use Rattle.wcv_syntax.specs.Model.{core_bag}
use Rattle.wcv_syntax.specs.ModuleTypes.{Core_export}
use Rattle.wcv_syntax.specs.declared.core_section.Export.{Export}
use Rattle.wcv_syntax.specs.declared.core_section.ExternalKind.{ExternalKind}
use Rattle.wcv_syntax.specs.declared.core_section.ExternalKind.TheVariants as kind
use Rattle.wcv_types.specs.Tree.{Text, Sort, is_core_item, core_exports, none, sort}
use Rattle.wcv_types.specs.Unfold.{Type_tree}
use Rattle.wcv_types.proofs.Lists.{some-inj}
use Rattle.wcv_matching.specs.ModuleItems.{ItemsMatch, before, instance_exports_in}
use Rattle.wcv_lower.specs.Checks.{is_none}
use Rattle.wcv_lower.specs.Context.{core_instances}
use Rattle.wcv_lower.specs.CoreInstances.{space_of, core_item_at, item_listed, items_listed, listed_size, core_instance_made, instance_joins, core_instance_step}
use Rattle.wcv_lower.specs.Names.{Names, introduced}
use Rattle.wcv_lower.specs.Readers.{New_node, core_exports_node}
use Rattle.wcv_lower.specs.Step.{Step, apply}
use Rattle.wcv_lower.specs.Trees.{Tree_stack, tree_reader, tree_maker, of_items}
use Rattle.wcv_growth.proofs.Known.{mapped-some, then-some, all-get}
use Rattle.wcv_world.specs.Reading.{Value_stack, value_reader, value_maker}
use Rattle.wcv_world.specs.Values.{typed, type_over}
use Rattle.wcv_safety.specs.Agreeing.{Agrees, AgreesAs, AgreeReadings}
use Rattle.wcv_safety.specs.Standing.{HasSortIn, BothStand}
use Rattle.wcv_safety.proofs.Agreeing.{core-appends-agree, quiet-follows}
use Rattle.wcv_safety.proofs.Lists.{zip-get}
use Rattle.wcv_safety.proofs.Tests.{if-some, some-there, both-true, and-true}

pub item-sort : (k : ExternalKind) (l : Sort) → HasSortIn (space_of k) l → l ≡ is_core_item
item-sort kind.Func l e = e
item-sort kind.Table l e = e
item-sort kind.Memory l e = e
item-sort kind.Global l e = e
item-sort kind.Tag l e = e

-- under one name, an item that matches
abbrev ItemNamed : List Group → Core_export → Core_export → Type 0
ItemNamed gs x e = (x.0 ≡ e.0) × ItemsMatch gs x.1 e.1

module _ (gs : List Group) where
  named-found : (n : Text) (xs es : List Core_export) (e : EntityType) → AllZip (ItemNamed gs) xs es → lookup (bytes_eq n) es ≡ Some e → (x : EntityType) × (lookup (bytes_eq n) xs ≡ Some x) × ItemsMatch gs x e
  named-found n [] [] e w q = absurd (cc)
  named-found n [] (f ∷ es) e w q = absurd w
  named-found n (x ∷ xs) [] e w q = absurd w
  named-found n (x ∷ xs) (f ∷ es) e w q =
      subst (λ (b : Bool). (y : EntityType) × (cond b (Some x.1) (lookup (bytes_eq n) xs) ≡ Some y) × ItemsMatch gs y e) (ap (bytes_eq n) (sym w.0.0)) (go (bytes_eq n f.0) q (named-found n xs es e w.1))
    where
      go : (b : Bool) → cond b (Some f.1) (lookup (bytes_eq n) es) ≡ Some e → (lookup (bytes_eq n) es ≡ Some e → (y : EntityType) × (lookup (bytes_eq n) xs ≡ Some y) × ItemsMatch gs y e) →
          (y : EntityType) × (cond b (Some x.1) (lookup (bytes_eq n) xs) ≡ Some y) × ItemsMatch gs y e
      go true q later = (x.1, refl, subst (λ (z : EntityType). ItemsMatch gs x.1 z) (some-inj q) w.0.1)
      go false q later = later q

exports-listed : (es : List Core_export) → instance_exports_in {R = Name} {I = Name} (core_exports es none) ≡ es
exports-listed [] = refl
exports-listed (e ∷ es) = ap (λ xs. e ∷ xs) (exports-listed es)

-- the instance of the one list agrees with that of the other
listed-agrees : (gs : List Group) (g : Name → Name) (i j : Name) (m n : ℕ) (xs es : List Core_export) → AllZip (ItemNamed gs) xs es → Agrees gs g (typed (of_items i m xs)) (of_items j n es)
listed-agrees gs g i j m n xs es w = (
  refl,
  λ k e q.
      let f = named-found gs k xs es e w (ap (lookup (bytes_eq k)) (sym (exports-listed es)) ∙ q) in
      (f.0, ap (lookup (bytes_eq k)) (exports-listed xs) ∙ f.1, f.2),
)

module _ (g : Name → Name) (v : Value_stack) (s : Tree_stack) (h : BothStand v s) (a : AgreeReadings g v s) where
  item-agrees : (e : Export) (y : EntityType) → item_listed s.top e ≡ Some y → (x : EntityType) × (item_listed v.top e ≡ Some x) × ItemsMatch v.groups x y
  item-agrees e y q =
      let t = then-some tree_reader.item (core_item_at s.top e.kind e.index) y q in
      let z = zip-get (Agrees v.groups g) (v.top.core (space_of e.kind)) (s.top.core (space_of e.kind)) e.index t.0 (a.stacks.all.0.core (space_of e.kind)) t.1 in
      let k : sort t.0 ≡ is_core_item = item-sort e.kind (sort t.0) (all-get (λ (x : Type_tree). HasSortIn (space_of e.kind) (sort x)) (s.top.core (space_of e.kind)) e.index t.0 (h.types.core_sorted (space_of e.kind)) t.1) in
      let f : AgreesAs is_core_item v.groups g (type_over z.0) t.0 = subst (λ (l : Sort). AgreesAs l v.groups g (type_over z.0) t.0) k z.2 in
      (f.0, ap (option_and_then value_reader.item) z.1 ∙ f.2, subst (λ (w : EntityType). ItemsMatch v.groups f.0 w) (some-inj (sym f.3 ∙ t.2)) f.4)

  list-agrees : (es : List Export) → list_all (λ (e : Export). not (is_none (item_listed s.top e))) es ≡ true →
      (list_all (λ (e : Export). not (is_none (item_listed v.top e))) es ≡ true) × AllZip (ItemNamed v.groups) (items_listed v.top es) (items_listed s.top es)
  list-agrees [] w = (refl, tt)
  list-agrees (e ∷ es) w =
      let b = both-true (not (is_none (item_listed s.top e))) (list_all (λ (e : Export). not (is_none (item_listed s.top e))) es) w in
      let t = some-there (item_listed s.top e) b.0 in
      let x = item-agrees e t.0 t.1 in
      let r = list-agrees es b.1 in (
        and-true (not (is_none (item_listed v.top e))) (list_all (λ (e : Export). not (is_none (item_listed v.top e))) es) (ap (λ (o : Option EntityType). not (is_none o)) x.1) r.0,
        subst (λ (o : Option EntityType). AllZip (ItemNamed v.groups) (before {K = Text} e.name o (items_listed v.top es)) (items_listed s.top (e ∷ es))) (sym x.1)
            (subst (λ (o : Option EntityType). AllZip (ItemNamed v.groups) (before {K = Text} e.name (Some x.0) (items_listed v.top es)) (before {K = Text} e.name o (items_listed s.top es))) (sym t.1) ((refl, x.2), r.1)),
      )

  pub core-bag-follows : (names other : Names) (p q : Place) (es : List Export) (y : Step tree_reader) → core_instance_step (tree_maker names p) s (core_bag es) ≡ Some y →
      (x : Step value_reader) × (core_instance_step (value_maker other q) v (core_bag es) ≡ Some x) × AgreeReadings g (apply x v) (apply y s)
  core-bag-follows names other p q es y e =
      let m = mapped-some (instance_joins (tree_maker names p)) (core_instance_made s (core_bag es)) y e in
      let b = if-some (list_all (λ (e : Export). not (is_none (item_listed s.top e))) es) (Some (core_exports_node (listed_size s.groups (items_listed s.top es)) (items_listed s.top es))) m.0 m.1 in
      let z = list-agrees es b.0 in
      let one : New_node value_reader = core_exports_node (listed_size v.groups (items_listed v.top es)) (items_listed v.top es) in
      let two : New_node tree_reader = core_exports_node (listed_size s.groups (items_listed s.top es)) (items_listed s.top es) in (
        instance_joins (value_maker other q) one,
        ap (λ (c : Bool). option_map (instance_joins (value_maker other q)) (cond c (Some one) None)) z.0,
        subst (λ (w : Step tree_reader). AgreeReadings g (apply (instance_joins (value_maker other q) one) v) (apply w s)) (ap (instance_joins (tree_maker names p)) (some-inj b.1) ∙ m.2)
            (quiet-follows g v s (instance_joins (value_maker other q) one) (instance_joins (tree_maker names p) two) a (tt, tt) (tt, tt)
            (core-appends-agree v.top.defined g core_instances v s (typed (of_items (other.identity (introduced q)) (listed_size v.groups (items_listed v.top es)) (items_listed v.top es)))
            (of_items (names.identity (introduced p)) (listed_size s.groups (items_listed s.top es)) (items_listed s.top es)) a.stacks
            (listed-agrees v.groups g (other.identity (introduced q)) (names.identity (introduced p)) (listed_size v.groups (items_listed v.top es)) (listed_size s.groups (items_listed s.top es)) (items_listed v.top es) (items_listed s.top es) z.1)
            (λ c. absurd (cc)))),
      )
