-- A table stands behind declared types, components, and items one after another.
use Rattle.std.proofs.Common.{◌≡◌, ℕ, suc, List, [], ◌∷◌, map, arith, subst, Some}
use Rattle.std.specs.Prelude.{All}
use Rattle.std.specs.Option.{option_map}
use Rattle.std.proofs.lemmas.List.Elements.{All-nil, All-cons, All-tail}
use Rattle.wcv_core.specs.CoreGroups.{total}
use Rattle.wcv_core.specs.CoreWritten.{Core_entry, IsKnown}
use Rattle.wcv_core.specs.Names.{Place, deeper}
use Rattle.wcv_core.specs.declared.features.WasmFeatures.{WasmFeatures}
use Rattle.wcv_syntax.specs.Model.{Form, Items, no_items, next_item, core_type_item, core_module_item, core_instance_item, type_item, import_item, export_item, component_item, instance_item, alias_item, start_item, canon_item, Type_form, defined_type, func_type, component_type, instance_type, resource_type, Decl, core_type_decl, type_decl, alias_decl, export_decl, import_decl, Decls, no_decls, declare}
use Rattle.wcv_types.proofs.Lists.{some-inj}
use Rattle.wcv_closed.proofs.Interning.{no_table}
use Rattle.wcv_lower.specs.Context.{Kind, concrete, declares_instance, declares_component, exporting, empty}
use Rattle.wcv_lower.specs.CoreItems.{core_entries, outer_entries}
use Rattle.wcv_lower.specs.Aliases.{alias_step}
use Rattle.wcv_lower.specs.Declared.{inside, stack_of, around, closed_as, ended, declared_export_step, read_type, read_decl, read_decls}
use Rattle.wcv_lower.specs.Ending.{declared_made}
use Rattle.wcv_lower.specs.Entries.{extern_name, written, new_there}
use Rattle.wcv_lower.specs.Items.{read_item, read_items}
use Rattle.wcv_lower.specs.Names.{Names}
use Rattle.wcv_lower.specs.Readers.{Maker, New_node}
use Rattle.wcv_lower.specs.Step.{apply, enters}
use Rattle.wcv_lower.specs.Tables.{TableStands}
use Rattle.wcv_lower.specs.Trees.{Tree_context, Tree_stack, tree_reader, tree_maker}
use Rattle.wcv_lower.proofs.Bringing.{map-some}
use Rattle.wcv_lower.proofs.DeclaredLaws.{then-some}
use Rattle.wcv_lower.proofs.TableItems.{any_of, enters_quiet, quiet, alias_good, applied_stands, grown_stands}
use Rattle.wcv_lower.proofs.TableSteps.{AllQuiet, quiet_good, step_stands}

-- before the first item
pub stands_at_first : (k : Kind) → TableStands (record { top = empty tree_reader k; outer = []; groups = [] })
stands_at_first k = record { table = no_table; forms = λ i p l e. Prim.absurd (omega (arith, l)); known = All-cons Each [] [] (All-nil (IsKnown 0)) (All-nil Each) }
  where
    Each : List Core_entry → Type 0
    Each es = All (IsKnown 0) es

-- ## A context opens, and closes

pub inside_stands : (k : Kind) (s : Tree_stack) → TableStands s → TableStands (inside k s)
inside_stands k s h = record { table = h.table; forms = h.forms; known = All-cons Each [] (outer_entries s) (All-nil (IsKnown (total s.groups))) h.known }
  where
    Each : List Core_entry → Type 0
    Each es = All (IsKnown (total s.groups)) es

around_stands : (u t : Tree_stack) → TableStands u → around u ≡ Some t → TableStands t
around_stands u t h e = go u.outer (All-tail Each (core_entries u.top) (map core_entries u.outer) h.known) e
  where
    Each : List Core_entry → Type 0
    Each es = All (IsKnown (total u.groups)) es

    go : (cs : List Tree_context) → All Each (map core_entries cs) → stack_of {X = tree_reader} cs u.groups ≡ Some t → TableStands t
    go [] w e = cc
    go (c ∷ cs) w e = subst TableStands (some-inj e) (record { table = h.table; forms = h.forms; known = w })

closed_quiet : (k : Kind) (mk : Maker tree_reader) (n : New_node tree_reader) → AllQuiet (closed_as k mk n)
closed_quiet concrete mk n = (tt, tt)
closed_quiet declares_instance mk n = (tt, tt)
closed_quiet declares_component mk n = (tt, tt)

pub ended_stands : (k : Kind) (mk : Maker tree_reader) (u v : Tree_stack) → TableStands u → ended k mk u ≡ Some v → TableStands v
ended_stands k mk u v h e =
    let t = then-some (λ t. option_map (λ n. apply (closed_as k mk n) t) (declared_made k u.top)) (around u) v e in
    let n = map-some (λ n. apply (closed_as {X = tree_reader} k mk n) t.0) (declared_made k u.top) v t.2 in
    subst TableStands (some-inj n.2) (step_stands (closed_as k mk n.0) t.0 (around_stands u t.0 h t.1) (quiet_good (closed_as k mk n.0) t.0 (closed_quiet k mk n.0)))

-- ## What is read

module _ (fs : WasmFeatures) (n : Names) where
  export_stands : (p : Place) (s t : Tree_stack) (x : _) (r : _) → TableStands s → option_map (λ q. apply q s) (declared_export_step (tree_maker n p) s.top x r) ≡ Some t → TableStands t
  export_stands p s t x r h e =
      applied_stands fs n p s h (declared_export_step (tree_maker n p) s.top x r)
      (quiet fs n p s h (declared_export_step (tree_maker n p) s.top x r) (any_of AllQuiet (enters exporting (extern_name x)) (enters_quiet exporting (extern_name x)) (new_there exporting (extern_name x) s.top (written (tree_maker n p) s.top r)))) t e

  mutual
    pub type_stands : (p : Place) (s t : Tree_stack) (f : Type_form) → TableStands s → read_type fs (tree_maker n) p s f ≡ Some t → TableStands t
    type_stands p s t (component_type ds) h e =
        let u = then-some (ended declares_component (tree_maker n p)) (read_decls fs (tree_maker n) p 0 (inside declares_component s) ds) t e in
        ended_stands declares_component (tree_maker n p) u.0 t (decls_stand p 0 (inside declares_component s) u.0 ds (inside_stands declares_component s h) u.1) u.2
    type_stands p s t (instance_type ds) h e =
        let u = then-some (ended declares_instance (tree_maker n p)) (read_decls fs (tree_maker n) p 0 (inside declares_instance s) ds) t e in
        ended_stands declares_instance (tree_maker n p) u.0 t (decls_stand p 0 (inside declares_instance s) u.0 ds (inside_stands declares_instance s h) u.1) u.2
    type_stands p s t (defined_type d) h e = grown_stands fs n p s h (type_item (defined_type d)) t e
    type_stands p s t (func_type f) h e = grown_stands fs n p s h (type_item (func_type f)) t e
    type_stands p s t (resource_type rep dtor) h e = grown_stands fs n p s h (type_item (resource_type rep dtor)) t e

    decl_stands : (p : Place) (s t : Tree_stack) (d : Decl) → TableStands s → read_decl fs (tree_maker n) p s d ≡ Some t → TableStands t
    decl_stands p s t (core_type_decl f) h e = grown_stands fs n p s h (core_type_item f) t e
    decl_stands p s t (type_decl f) h e = type_stands p s t f h e
    decl_stands p s t (alias_decl a) h e = applied_stands fs n p s h (alias_step s a) (alias_good fs n p s h a) t e
    decl_stands p s t (export_decl x r) h e = export_stands p s t x r h e
    decl_stands p s t (import_decl i) h e = grown_stands fs n p s h (import_item i) t e

    decls_stand : (p : Place) (k : ℕ) (s t : Tree_stack) (ds : Decls) → TableStands s → read_decls fs (tree_maker n) p k s ds ≡ Some t → TableStands t
    decls_stand p k s t no_decls h e = subst TableStands (some-inj e) h
    decls_stand p k s t (declare d ds) h e =
        let u = then-some (λ u. read_decls fs (tree_maker n) p (suc k) u ds) (read_decl fs (tree_maker n) (deeper p k) s d) t e in
        decls_stand p (suc k) u.0 t ds (decl_stands (deeper p k) s u.0 d h u.1) u.2

  mutual
    pub item_stands : (p : Place) (s t : Tree_stack) (f : Form) → TableStands s → read_item fs (tree_maker n) p s f ≡ Some t → TableStands t
    item_stands p s t (type_item f) h e = type_stands p s t f h e
    item_stands p s t (component_item is end) h e =
        let u = then-some (ended concrete (tree_maker n p)) (read_items fs (tree_maker n) p 0 (inside concrete s) is) t e in
        ended_stands concrete (tree_maker n p) u.0 t (items_stand p 0 (inside concrete s) u.0 is (inside_stands concrete s h) u.1) u.2
    item_stands p s t (import_item i) h e = grown_stands fs n p s h (import_item i) t e
    item_stands p s t (export_item x) h e = grown_stands fs n p s h (export_item x) t e
    item_stands p s t (core_type_item x) h e = grown_stands fs n p s h (core_type_item x) t e
    item_stands p s t (core_module_item ds) h e = grown_stands fs n p s h (core_module_item ds) t e
    item_stands p s t (core_instance_item i) h e = grown_stands fs n p s h (core_instance_item i) t e
    item_stands p s t (instance_item i) h e = grown_stands fs n p s h (instance_item i) t e
    item_stands p s t (alias_item a) h e = grown_stands fs n p s h (alias_item a) t e
    item_stands p s t (start_item f args k) h e = grown_stands fs n p s h (start_item f args k) t e
    item_stands p s t (canon_item c) h e = grown_stands fs n p s h (canon_item c) t e

    pub items_stand : (p : Place) (k : ℕ) (s t : Tree_stack) (is : Items) → TableStands s → read_items fs (tree_maker n) p k s is ≡ Some t → TableStands t
    items_stand p k s t no_items h e = subst TableStands (some-inj e) h
    items_stand p k s t (next_item offset f is) h e =
        let u = then-some (λ u. read_items fs (tree_maker n) p (suc k) u is) (read_item fs (tree_maker n) (deeper p k) s f) t e in
        items_stand p (suc k) u.0 t is (item_stands (deeper p k) s u.0 f h u.1) u.2
