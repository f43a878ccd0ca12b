-- What is looked up in lists of values that agree with a context: items by their sorts, types by index, and what a written type names.
use Rattle.std.proofs.Common.{◌≡◌, ◌∙◌, ℕ, zero, suc, List, Bool, true, false, cond, Option, Some, None, refl, sym, ap, subst}
use Rattle.std.specs.Prelude.{All, slice_get, is_some}
use Rattle.std.specs.List.{AllZip}
use Rattle.std.specs.Option.{option_map, option_and_then}
use Rattle.wcv_core.specs.CoreForm.{Group}
use Rattle.wcv_core.specs.Names.{Name}
use Rattle.wcv_syntax.specs.declared.component_type.ComponentTypeRef.{ComponentTypeRef}
use Rattle.wcv_syntax.specs.declared.component_type.ComponentTypeRef.TheVariants as ref
use Rattle.wcv_syntax.specs.declared.component_type.ComponentValType.TheVariants as val
use Rattle.wcv_syntax.specs.declared.component_type.TypeBounds.TheVariants as bounds
use Rattle.wcv_syntax.specs.declared.instance.ComponentExternalKind.{ComponentExternalKind}
use Rattle.wcv_syntax.specs.declared.instance.ComponentExternalKind.TheVariants as kind
use Rattle.wcv_types.specs.Tree.{Sort, is_value, is_func, is_instance, is_component, is_type, is_module, sort, referenced}
use Rattle.wcv_types.specs.Unfold.{Type_tree}
use Rattle.wcv_matching.specs.Matching.{Item_rule, Reading, MatchBelow}
use Rattle.wcv_matching.specs.ModuleItems.{ItemsMatch}
use Rattle.wcv_lower.specs.Aliases.{sort_named}
use Rattle.wcv_lower.specs.Checks.{same_sort}
use Rattle.wcv_lower.specs.Context.{in_types, in_funcs, in_values, in_instances, in_components, core_types, core_modules, type_at}
use Rattle.wcv_lower.specs.Entries.{items_of, is_written, module_type_at}
use Rattle.wcv_lower.specs.NewTypes.{type_entry}
use Rattle.wcv_lower.specs.Readers.{if_sort}
use Rattle.wcv_lower.specs.Trees as trees
use Rattle.wcv_lower.specs.Trees.{Tree_context, tree_reader}
use Rattle.wcv_lower.specs.Values.{type_of_sort}
use Rattle.wcv_growth.proofs.Known.{mapped-some, all-get}
use Rattle.wcv_growth.proofs.Looking.{sorted-here}
use Rattle.wcv_world.specs.Growth.{Tokens}
use Rattle.wcv_world.specs.Reading.{Value_context, value_reader}
use Rattle.wcv_world.specs.Values.{Value, type_over}
use Rattle.wcv_world.proofs.ToTypes.{values-commute}
use Rattle.wcv_safety.specs.Agreeing.{Agrees, AgreesAs, AgreesAsType, AgreeContexts}
use Rattle.wcv_safety.specs.Fitting.{MatchesAs, Fits}
use Rattle.wcv_safety.specs.Standing.{StandsInOrder}
use Rattle.wcv_safety.proofs.Lists.{zip-get}
use Rattle.wcv_safety.proofs.Matched.{entry-matches, matched-sort, referenced-is}

-- types that match as entries are of one sort
entry-sort-below : (C : Item_rule) {A : Type 0} (d : ℕ) (f g : Reading A) (a b : Type_tree) → MatchBelow C d A f g (type_entry a) (type_entry b) → sort a ≡ sort b
entry-sort-below C zero f g a b m = absurd m
entry-sort-below C (suc zero) f g a b m = absurd m.1.0
entry-sort-below C (suc (suc d)) f g a b m = m.1.0.0

pub entry-sort : (C : Item_rule) {A : Type 0} (f g : Reading A) (a b : Type_tree) → MatchesAs C f g (type_entry a) (type_entry b) → sort a ≡ sort b
entry-sort C f g a b m = entry-sort-below C m.0 f g a b m.1

pub if-sorted : (k : Sort) (q : Value) → same_sort k (sort (type_over q)) ≡ true → if_sort value_reader k q ≡ Some q
if-sorted k q e = go (same_sort k (sort (type_over q))) e
  where
    go : (b : Bool) → b ≡ true → cond b (Some q) None ≡ Some q
    go true e = refl
    go false e = cc

some-is : {A : Type 0} (o : Option A) → is_some o ≡ true → (x : A) × (o ≡ Some x)
some-is None e = cc
some-is (Some x) e = (x, refl)

module _ (gs : List Group) (ts : Tokens) (g : Name → Name) (v : Value_context) (c : Tree_context) (a : AgreeContexts gs ts g v c) (h : StandsInOrder {X = tree_reader} (λ t. t) gs c) where
  -- ## Items

  items-zip : (k : ComponentExternalKind) → AllZip (Agrees gs g) (items_of v k) (items_of c k)
  items-zip kind.Module = a.core core_modules
  items-zip kind.Func = a.space in_funcs
  items-zip kind.Value = a.space in_values
  items-zip kind.Ty = a.space in_types
  items-zip kind.Instance = a.space in_instances
  items-zip kind.Component = a.space in_components

  items-sorted : (k : ComponentExternalKind) → All (λ (t : Type_tree). sort t ≡ sort_named k) (items_of c k)
  items-sorted kind.Module = h.core_sorted core_modules
  items-sorted kind.Func = h.sorted in_funcs
  items-sorted kind.Value = h.sorted in_values
  items-sorted kind.Ty = h.sorted in_types
  items-sorted kind.Instance = h.sorted in_instances
  items-sorted kind.Component = h.sorted in_components

  as-fits : (k : ComponentExternalKind) (b t : Type_tree) → AgreesAs (sort_named k) gs g b t → Fits gs g b t
  as-fits kind.Module b t m = m
  as-fits kind.Func b t m = m
  as-fits kind.Value b t m = m
  as-fits kind.Ty b t m = m
  as-fits kind.Instance b t m = m
  as-fits kind.Component b t m = m

  -- beside an item stands a value that fits it
  pub item-found : (k : ComponentExternalKind) (i : ℕ) (t : Type_tree) → slice_get (items_of c k) i ≡ Some t → (x : Value) × (slice_get (items_of v k) i ≡ Some x) × Fits gs g (type_over x) t × (sort t ≡ sort_named k)
  item-found k i t e =
      let z = zip-get (Agrees gs g) (items_of v k) (items_of c k) i t (items-zip k) e in
      let s : sort t ≡ sort_named k = all-get (λ (t : Type_tree). sort t ≡ sort_named k) (items_of c k) i t (items-sorted k) e in
      (z.0, z.1, as-fits k (type_over z.0) t (subst (λ (l : Sort). AgreesAs l gs g (type_over z.0) t) s z.2), s)

  -- ## Types

  -- a type at an index
  pub type-found : (k : ℕ) (t : Type_tree) → type_at c k ≡ Some t → (x : Value) × (type_at v k ≡ Some x) × AgreesAsType gs g x t
  type-found k t e =
      let m = mapped-some tree_reader.referenced (slice_get (c.space in_types) k) t e in
      let z = item-found kind.Ty k m.0 m.1 in
      let s : sort (type_over z.0) ≡ is_type = matched-sort (ItemsMatch gs) {A = Name} (λ r. r) g (type_over z.0) m.0 z.2 ∙ z.3 in
      let r : trees.referenced (type_over z.0) ≡ type_over (value_reader.referenced z.0) = values-commute.referenced z.0 in (
        value_reader.referenced z.0,
        ap (option_map value_reader.referenced) z.1,
        subst (λ (x : Type_tree). Fits gs g (type_entry (type_over (value_reader.referenced z.0))) (type_entry x)) (sym (referenced-is m.0 z.3) ∙ m.2)
            (subst (λ (x : Type_tree). Fits gs g (type_entry x) (type_entry (referenced m.0))) (sym (referenced-is (type_over z.0) s) ∙ r)
            (entry-matches (ItemsMatch gs) {A = Name} (λ r. r) g (type_over z.0) m.0 s z.2)),
      )

  -- of a sort
  pub sorted-found : (s : Sort) (k : ℕ) (t : Type_tree) → type_of_sort s c k ≡ Some t → (x : Value) × (type_of_sort s v k ≡ Some x) × AgreesAsType gs g x t
  sorted-found s k t e =
      let o = sorted-here s (type_at c k) t e in
      let x = type-found k t o.0 in
      let l : sort (type_over x.0) ≡ sort t = entry-sort (ItemsMatch gs) {A = Name} (λ r. r) g (type_over x.0) t x.2 in
      (x.0, ap (option_and_then (if_sort value_reader s)) x.1 ∙ if-sorted s x.0 (ap (same_sort s) l ∙ o.1), x.2)

  -- the type of a core module
  pub module-found : (k : ℕ) (t : Type_tree) → module_type_at c k ≡ Some t → (x : Value) × (module_type_at v k ≡ Some x) × AgreesAsType gs g x t
  module-found k t e =
      let o = sorted-here is_module (slice_get (c.core core_types) k) t e in
      let x = zip-get (AgreesAsType gs g) (v.core core_types) (c.core core_types) k t a.types o.0 in
      let l : sort (type_over x.0) ≡ sort t = entry-sort (ItemsMatch gs) {A = Name} (λ r. r) g (type_over x.0) t x.2 in
      (x.0, ap (option_and_then (if_sort value_reader is_module)) x.1 ∙ if-sorted is_module x.0 (ap (same_sort is_module) l ∙ o.1), x.2)

  -- ## Written types

  is-there : (o : Option Value) (x : Value) → o ≡ Some x → is_some o ≡ true
  is-there o x e = ap is_some e

  sorted-there : (s : Sort) (k : ℕ) → is_some (type_of_sort s c k) ≡ true → is_some (type_of_sort s v k) ≡ true
  sorted-there s k e = let t = some-is (type_of_sort s c k) e in let x = sorted-found s k t.0 t.1 in is-there (type_of_sort s v k) x.0 x.1

  -- what a written type names is there over the values too
  pub written-there : (r : ComponentTypeRef) → is_written c r ≡ true → is_written v r ≡ true
  written-there (ref.Module k) e = let t = some-is (module_type_at c k) e in let x = module-found k t.0 t.1 in is-there (module_type_at v k) x.0 x.1
  written-there (ref.Func k) e = sorted-there is_func k e
  written-there (ref.Instance k) e = sorted-there is_instance k e
  written-there (ref.Component k) e = sorted-there is_component k e
  written-there (ref.Ty (bounds.Eq k)) e = let t = some-is (type_at c k) e in let x = type-found k t.0 t.1 in is-there (type_at v k) x.0 x.1
  written-there (ref.Ty bounds.SubResource) e = refl
  written-there (ref.Value (val.Primitive p)) e = refl
  written-there (ref.Value (val.Ty k)) e = sorted-there is_value k e
