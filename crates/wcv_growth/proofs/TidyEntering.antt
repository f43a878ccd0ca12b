-- What an import or an export brings to a context is tidy.
use Rattle.std.proofs.Common.{◌≡◌, ℕ, refl, sym, ◌∙◌, subst, Some, None}
use Rattle.std.specs.Prelude.{slice_get, Option}
use Rattle.std.specs.Option.{option_map}
use Rattle.wcv_core.specs.Names.{Place}
use Rattle.wcv_syntax.specs.declared.component_type.ComponentTypeRef.{ComponentTypeRef}
use Rattle.wcv_syntax.specs.declared.component_type.ComponentTypeRef.TheVariants as ref
use Rattle.wcv_syntax.specs.declared.component_type.TypeBounds.TheVariants as bounds
use Rattle.wcv_syntax.specs.declared.instance.ComponentExternalKind.{ComponentExternalKind}
use Rattle.wcv_syntax.specs.declared.instance.ComponentExternalKind.TheVariants as kind
use Rattle.wcv_syntax.specs.declared.name.ComponentExport.{ComponentExport}
use Rattle.wcv_types.specs.Led.{Led}
use Rattle.wcv_types.specs.Tree.{Extern_name, is_func, is_instance, is_component}
use Rattle.wcv_types.proofs.Lists.{some-inj}
use Rattle.wcv_lower.specs.Context.{Space, in_types, in_funcs, in_values, in_instances, in_components, core_modules, Side}
use Rattle.wcv_lower.specs.Entries.{module_type_at, again_brought, written, items_of, exported_at, exported_as, exported_by}
use Rattle.wcv_lower.specs.Names.{names_by_place}
use Rattle.wcv_lower.specs.NewTypes.{new_reference}
use Rattle.wcv_lower.specs.Owned.{AllEntries}
use Rattle.wcv_lower.specs.Step.{enters, Brought, bare}
use Rattle.wcv_lower.specs.Trees.{Type_tree, type_entry, referenced, Tree_context, tree_reader, tree_maker}
use Rattle.wcv_lower.specs.Values.{type_at, type_of_sort, value_entry}
use Rattle.wcv_growth.proofs.Bare.{bare-instance}
use Rattle.wcv_growth.proofs.Known.{mapped-some, then-some, all-get, enters-bring}
use Rattle.wcv_growth.proofs.Looking.{sorted-here}
use Rattle.wcv_growth.proofs.Tidy.{Known, TidyEntry, NoneKnown, none-at, BringsTidy, entry-bare}
use Rattle.wcv_growth.proofs.TidyInstances.{instance_of-tidy}
use Rattle.wcv_growth.proofs.TidyTypes.{TidyThere, tidy-before, created-tidy, reference-tidy, referenced-tidy, type-tidy, sorted-tidy, plain-tidy, value-tidy, module-tidy, again-tidy}

-- paths lead to what the instance types own that stand at an index
abbrev pub LeadsIn : Tree_context → Type 0
LeadsIn c = (k : ℕ) (t : Type_tree) → type_of_sort is_instance c k ≡ Some t → Led t

module _ (p : Place) (c : Tree_context) (leads : LeadsIn c) (g : Known) (y : AllEntries (TidyEntry g) c) (unknown : NoneKnown p g) where
  abbrev IsTidyBrought : Brought tree_reader → Type 0
  IsTidyBrought b = TidyThere p g b.entity

  pub enters-tidy : (d : Side) (n : Extern_name) (b : Brought tree_reader) → TidyThere p g b.entity → BringsTidy p g (enters d n b)
  enters-tidy d n b w = record { known = w.0; more = w.1; brings = enters-bring (TidyEntry w.0) (created-tidy w.0) d n b w.2 }

  pub written-tidy : (x : ComponentTypeRef) (b : Brought tree_reader) → written (tree_maker names_by_place p) c x ≡ Some b → IsTidyBrought b
  written-tidy (ref.Func k) b e =
      let m = mapped-some (bare tree_reader) (type_of_sort is_func c k) b e in
      subst IsTidyBrought m.2 (tidy-before p g m.0 (plain-tidy g c y is_func k m.0 refl m.1))
  written-tidy (ref.Component k) b e =
      let m = mapped-some (bare tree_reader) (type_of_sort is_component c k) b e in
      subst IsTidyBrought m.2 (tidy-before p g m.0 (plain-tidy g c y is_component k m.0 refl m.1))
  written-tidy (ref.Instance k) b e =
      let m = mapped-some (tree_maker names_by_place p).instance_of (type_of_sort is_instance c k) b e in
      subst IsTidyBrought m.2 (instance_of-tidy p g m.0 (sorted-here is_instance (type_at c k) m.0 m.1).1 (leads k m.0 m.1) (sorted-tidy g c y is_instance k m.0 m.1) unknown)
  written-tidy (ref.Ty (bounds.Eq k)) b e =
      let m = mapped-some (again_brought (tree_maker names_by_place p)) (type_at c k) b e in
      subst IsTidyBrought m.2 (again-tidy p g (none-at p g unknown) m.0 (type-tidy g c y k m.0 m.1))
  written-tidy (ref.Ty bounds.SubResource) b e = subst IsTidyBrought (some-inj e) (tidy-before p g (type_entry (new_reference names_by_place p)) (reference-tidy g p))
  written-tidy (ref.Module k) b e =
      let m = mapped-some (bare tree_reader) (module_type_at c k) b e in
      subst IsTidyBrought m.2 (tidy-before p g m.0 (module-tidy g c y k m.0 m.1))
  written-tidy (ref.Value v) b e =
      let m = mapped-some (bare tree_reader) (value_entry c v) b e in
      subst IsTidyBrought m.2 (tidy-before p g m.0 (value-tidy g c y v m.0 m.1))

  -- ## Exported items

  -- an item of a space is exported as it is
  item-tidy : (k : Space) (i : ℕ) (b : Brought tree_reader) → option_map (bare tree_reader) (slice_get (c.space k) i) ≡ Some b → IsTidyBrought b
  item-tidy k i b e =
      let m = mapped-some (bare tree_reader) (slice_get (c.space k) i) b e in
      subst IsTidyBrought m.2 (tidy-before p g m.0 (all-get (TidyEntry g) (c.space k) i m.0 (y.space k) m.1))

  export-tidy : (x : ComponentExternalKind) (i : ℕ) (b : Brought tree_reader) → option_map (exported_as (tree_maker names_by_place p) x) (slice_get (items_of c x) i) ≡ Some b → IsTidyBrought b
  export-tidy kind.Ty i b e =
      let m = mapped-some (exported_as (tree_maker names_by_place p) kind.Ty) (slice_get (c.space in_types) i) b e in
      subst IsTidyBrought m.2 (again-tidy p g (none-at p g unknown) (referenced m.0) (referenced-tidy g m.0 (all-get (TidyEntry g) (c.space in_types) i m.0 (y.space in_types) m.1)))
  export-tidy kind.Func i b e = item-tidy in_funcs i b e
  export-tidy kind.Value i b e = item-tidy in_values i b e
  export-tidy kind.Instance i b e =
      let m = mapped-some (tree_maker names_by_place p).instance_of (slice_get (c.space in_instances) i) b e in
      let w : TidyEntry g m.0 = all-get (TidyEntry g) (c.space in_instances) i m.0 (y.space in_instances) m.1 in
      subst IsTidyBrought (sym (bare-instance names_by_place p m.0 (entry-bare g m.0 w).0) ∙ m.2) (tidy-before p g m.0 w)
  export-tidy kind.Component i b e = item-tidy in_components i b e
  export-tidy kind.Module i b e =
      let m = mapped-some (bare tree_reader) (slice_get (c.core core_modules) i) b e in
      subst IsTidyBrought m.2 (tidy-before p g m.0 (all-get (TidyEntry g) (c.core core_modules) i m.0 (y.core core_modules) m.1))

  -- an item, with what is written beside it
  pub exported-tidy : (e : ComponentExport) (o : Option ComponentTypeRef) (b : Brought tree_reader) → exported_by (tree_maker names_by_place p) c e o ≡ Some b → IsTidyBrought b
  exported-tidy e None b q = export-tidy e.kind e.index b q
  exported-tidy e (Some r) b q =
      let m = then-some (λ (x : Type_tree). written (tree_maker names_by_place p) c r) (exported_at c e) b q in
      written-tidy r b m.2
