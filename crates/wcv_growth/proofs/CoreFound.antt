-- Types that are found in a context by an index name types of the table that the entries there name, and so does what is made of them.
use Rattle.std.proofs.Common.{◌≡◌, ℕ, [], ◌∷◌, subst, Option, Some, None}
use Rattle.std.specs.Prelude.{All, slice_get}
use Rattle.std.proofs.lemmas.List.Elements.{All-nil, All-cons}
use Rattle.wcv_core.specs.Names.{Place}
use Rattle.wcv_syntax.specs.Model.{Type_form, component_type, defined_type, func_type, instance_type, resource_type}
use Rattle.wcv_syntax.specs.declared.component_type.ComponentTypeRef.{ComponentTypeRef}
use Rattle.wcv_syntax.specs.declared.component_type.ComponentTypeRef.TheVariants as ref
use Rattle.wcv_syntax.specs.declared.component_type.ComponentValType.{ComponentValType}
use Rattle.wcv_syntax.specs.declared.component_type.ComponentValType.TheVariants as val
use Rattle.wcv_syntax.specs.declared.component_type.TypeBounds.TheVariants as bounds
use Rattle.wcv_syntax.specs.declared.instance.ComponentExternalKind.{ComponentExternalKind}
use Rattle.wcv_syntax.specs.declared.instance.ComponentExternalKind.TheVariants as kind
use Rattle.wcv_syntax.specs.declared.name.ComponentExport.{ComponentExport}
use Rattle.wcv_types.specs.Tree.{Role, here, Sort, is_value, is_resource, is_func, is_instance, is_component, is_module}
use Rattle.wcv_types.proofs.Lists.{some-inj}
use Rattle.wcv_lower.specs.Context.{in_types, in_funcs, in_values, in_instances, in_components, core_types, core_modules}
use Rattle.wcv_lower.specs.Defined.{made_of, former, handle_index, written_parts}
use Rattle.wcv_lower.specs.Entries.{module_type_at, again_brought, written, items_of, exported_at, exported_as, exported_by}
use Rattle.wcv_lower.specs.Names.{Names}
use Rattle.wcv_lower.specs.NewTypes.{renewed, new_reference}
use Rattle.wcv_lower.specs.Owned.{AllEntries}
use Rattle.wcv_lower.specs.Readers.{Made_parts, New_node, func_node, defined_node}
use Rattle.wcv_lower.specs.Step.{Brought, bare}
use Rattle.wcv_lower.specs.Trees.{Type_tree, referenced, Tree_context, tree_reader, tree_maker, node_tree}
use Rattle.wcv_lower.specs.Types.{func_parts, type_made}
use Rattle.wcv_lower.specs.Values.{type_at, type_of_sort, resource_at, value_entry, Written_parts, option_entry, behind, parts_entries}
use Rattle.wcv_growth.proofs.Known.{mapped-some, then-some, all-get}
use Rattle.wcv_growth.proofs.Looking.{sorted-here}
use Rattle.wcv_growth.proofs.OfTable.{OfTable, both-of, nothing-of, referenced-of, renewed-of, parts-of, instance-of}

module _ (n : ℕ) (c : Tree_context) (y : AllEntries (OfTable n) c) where
  pub type-of : (k : ℕ) (t : Type_tree) → type_at c k ≡ Some t → OfTable n t
  type-of k t e =
      let m = mapped-some referenced (slice_get (c.space in_types) k) t e in
      subst (OfTable n) m.2 (referenced-of n m.0 (all-get (OfTable n) (c.space in_types) k m.0 (y.space in_types) m.1))

  pub sorted-of : (s : Sort) (k : ℕ) (t : Type_tree) → type_of_sort s c k ≡ Some t → OfTable n t
  sorted-of s k t e = type-of k t (sorted-here s (type_at c k) t e).0

  module-here : (k : ℕ) (t : Type_tree) → module_type_at c k ≡ Some t → OfTable n t
  module-here k t e = all-get (OfTable n) (c.core core_types) k t (y.core core_types) (sorted-here is_module (slice_get (c.core core_types) k) t e).0

  value-of : (v : ComponentValType) (t : Type_tree) → value_entry c v ≡ Some t → OfTable n t
  value-of (val.Primitive p) t e = subst (OfTable n) (some-inj e) (tt, tt)
  value-of (val.Ty k) t e = sorted-of is_value k t e

  option-of : (o : Option ComponentValType) (t : Type_tree) → option_entry c o ≡ Some t → OfTable n t
  option-of None t e = subst (OfTable n) (some-inj e) (nothing-of n)
  option-of (Some v) t e = value-of v t e

  abbrev AreOf : Made_parts tree_reader → Type 0
  AreOf qs = All (λ (q : Role × Type_tree). OfTable n q.1) qs

  parts-found : (ps : Written_parts) (qs : Made_parts tree_reader) → parts_entries c ps ≡ Some qs → AreOf qs
  parts-found [] qs e = subst AreOf (some-inj e) (All-nil (λ (q : Role × Type_tree). OfTable n q.1))
  parts-found (p ∷ ps) qs e =
      let m = then-some (behind tree_reader p.0 (parts_entries c ps)) (option_entry c p.1) qs e in
      let r = mapped-some (λ (rest : Made_parts tree_reader). (p.0, m.0) ∷ rest) (parts_entries c ps) qs m.2 in
      subst AreOf r.2 (All-cons (λ (q : Role × Type_tree). OfTable n q.1) (p.0, m.0) r.0 (option-of p.1 m.0 m.1) (parts-found ps r.0 r.1))

  made_of-found : (o : Option ℕ) (ps : Written_parts) (qs : Made_parts tree_reader) → made_of c o ps ≡ Some qs → AreOf qs
  made_of-found None ps qs e = parts-found ps qs e
  made_of-found (Some k) ps qs e =
      let m = mapped-some (λ (t : Type_tree). (here, t) ∷ []) (resource_at c k) qs e in
      subst AreOf m.2 (All-cons (λ (q : Role × Type_tree). OfTable n q.1) (here, m.0) [] (sorted-of is_resource k m.0 m.1) (All-nil (λ (q : Role × Type_tree). OfTable n q.1)))

  -- the node of a type item, under any name
  pub made-of : (t : Type_form) (m : New_node tree_reader) → type_made c t ≡ Some m → (i : _) → OfTable n (node_tree i m)
  made-of (defined_type d) m e i =
      let q = mapped-some (λ (ps : Made_parts tree_reader). defined_node (former d) ps) (made_of c (handle_index d) (written_parts d)) m e in
      subst (λ (k : New_node tree_reader). OfTable n (node_tree i k)) q.2 (tt, parts-of n q.0 (made_of-found (handle_index d) (written_parts d) q.0 q.1))
  made-of (func_type f) m e i =
      let q = mapped-some (λ (ps : Made_parts tree_reader). func_node f.async ps) (parts_entries c (func_parts f)) m e in
      subst (λ (k : New_node tree_reader). OfTable n (node_tree i k)) q.2 (tt, parts-of n q.0 (parts-found (func_parts f) q.0 q.1))
  made-of (component_type ds) m e i = cc
  made-of (instance_type ds) m e i = cc
  made-of (resource_type rep dtor) m e i = cc

  -- ## Imports and exports

  module _ (names : Names) (p : Place) where
    abbrev Of : Brought tree_reader → Type 0
    Of b = OfTable n b.entity

    again-of : (t : Type_tree) → OfTable n t → Of (again_brought (tree_maker names p) t)
    again-of t w = both-of n (renewed names p t) t (renewed-of n names p t w) w

    pub written-of : (x : ComponentTypeRef) (b : Brought tree_reader) → written (tree_maker names p) c x ≡ Some b → Of b
    written-of (ref.Func k) b e =
        let m = mapped-some (bare tree_reader) (type_of_sort is_func c k) b e in
        subst Of m.2 (sorted-of is_func k m.0 m.1)
    written-of (ref.Component k) b e =
        let m = mapped-some (bare tree_reader) (type_of_sort is_component c k) b e in
        subst Of m.2 (sorted-of is_component k m.0 m.1)
    written-of (ref.Instance k) b e =
        let m = mapped-some (tree_maker names p).instance_of (type_of_sort is_instance c k) b e in
        subst Of m.2 (instance-of n names p m.0 (sorted-of is_instance k m.0 m.1))
    written-of (ref.Ty (bounds.Eq k)) b e =
        let m = mapped-some (again_brought (tree_maker names p)) (type_at c k) b e in
        subst Of m.2 (again-of m.0 (type-of k m.0 m.1))
    written-of (ref.Ty bounds.SubResource) b e = subst Of (some-inj e) (both-of n (new_reference names p) (new_reference names p) (tt, tt) (tt, tt))
    written-of (ref.Module k) b e =
        let m = mapped-some (bare tree_reader) (module_type_at c k) b e in
        subst Of m.2 (module-here k m.0 m.1)
    written-of (ref.Value v) b e =
        let m = mapped-some (bare tree_reader) (value_entry c v) b e in
        subst Of m.2 (value-of v m.0 m.1)

    -- what stands in a space has it
    pub item-here : (x : ComponentExternalKind) → All (OfTable n) (items_of c x)
    item-here kind.Module = y.core core_modules
    item-here kind.Func = y.space in_funcs
    item-here kind.Value = y.space in_values
    item-here kind.Ty = y.space in_types
    item-here kind.Instance = y.space in_instances
    item-here kind.Component = y.space in_components

    exported_as-of : (x : ComponentExternalKind) (t : Type_tree) → OfTable n t → Of (exported_as (tree_maker names p) x t)
    exported_as-of kind.Ty t w = again-of (referenced t) (referenced-of n t w)
    exported_as-of kind.Instance t w = instance-of n names p t w
    exported_as-of kind.Module t w = w
    exported_as-of kind.Func t w = w
    exported_as-of kind.Value t w = w
    exported_as-of kind.Component t w = w

    pub exported-of : (x : ComponentExport) (o : Option ComponentTypeRef) (b : Brought tree_reader) → exported_by (tree_maker names p) c x o ≡ Some b → Of b
    exported-of x None b e =
        let m = mapped-some (exported_as (tree_maker names p) x.kind) (exported_at c x) b e in
        subst Of m.2 (exported_as-of x.kind m.0 (all-get (OfTable n) (items_of c x.kind) x.index m.0 (item-here x.kind) m.1))
    exported-of x (Some r) b e =
        let m = then-some (λ (t : Type_tree). written (tree_maker names p) c r) (exported_at c x) b e in
        written-of r b m.2
