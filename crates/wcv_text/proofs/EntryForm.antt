-- The lines of instances, of components and of core modules by ids are those of their trees.
use Rattle.std.proofs.Common.{◌≡◌, ℕ, List, [], ◌∷◌, ◌++◌, map, codes, refl, ◌∙◌, ap}
use Rattle.std.specs.Prelude.{All}
use Rattle.std.proofs.lemmas.List.Elements.{All-head, All-tail}
use Rattle.wcv_core.specs.declared.core_types.EntityType.{EntityType}
use Rattle.wcv_types.specs.Arena.{Arena}
use Rattle.wcv_types.specs.Entities.{entry_name, entity_slot, EntityStands, SlotStands}
use Rattle.wcv_types.specs.Quoting.{quoted, listed}
use Rattle.wcv_types.specs.Standing.{StandsBefore}
use Rattle.wcv_types.specs.Text.{Written, name_text, own_texts, path_texts, path_text, entry_texts}
use Rattle.wcv_types.specs.Tree.{Text, import, export, node}
use Rattle.wcv_types.specs.Unfold.{Type_tree, Slot, leaf, at, both, core, Slots, slot_refs, slot_parts, parts_in, parts_of, slots_of, head_of, trees, entry_slots, resource_names, resource_path, core_import_slots, core_export_slots}
use Rattle.wcv_types.specs.declared.arena.Node.TheVariants as n
use Rattle.wcv_types.specs.declared.component_type.ComponentType.{ComponentType}
use Rattle.wcv_types.specs.declared.core_shapes.ModuleType.{ModuleType}
use Rattle.wcv_types.specs.declared.ids.Part.{Part}
use Rattle.wcv_types.specs.declared.ids.ResourceId.{ResourceId}
use Rattle.wcv_types.specs.declared.instance_type.ComponentInstanceType.{ComponentInstanceType}
use Rattle.wcv_types.specs.declared.item_map.ComponentItem.{ComponentItem}
use Rattle.wcv_types.proofs.Unfolding.{all_left, all_right}
use Rattle.wcv_text.specs.EntryList.{one_entry, entries_said, own_said, paths_said, instance_said, component_said, core_import_said, core_export_said, module_said}
use Rattle.wcv_text.specs.Nodes.{form_of}
use Rattle.wcv_text.specs.Numbers.{name_of}
use Rattle.wcv_text.proofs.EntryLines.{entity_is}

own_are : (w : Written) (rs : List ResourceId) → own_texts w (resource_names rs) ≡ map (own_said w) rs
own_are w [] = refl
own_are w (r ∷ rs) = ap (λ (xs : List Text). own_said w r ∷ xs) (own_are w rs)

paths_are : (w : Written) (word : Text) (ps : List (ResourceId × List ℕ)) → path_texts w word (map resource_path ps) ≡ paths_said w word ps
paths_are w word [] = refl
paths_are w word (p ∷ ps) = ap (λ (xs : List Text). path_text w word (name_of p.0) p.1 ∷ xs) (paths_are w word ps)

-- ## Core modules

module _ (ts : List Type_tree) (w : Written) where
  core_exports_are : (es : List (Text × EntityType)) → entry_texts w (slot_parts ts (core_export_slots es)) ≡ map (core_export_said w) es
  core_exports_are [] = refl
  core_exports_are (e ∷ es) = ap (λ (xs : List Text). core_export_said w e ∷ xs) (core_exports_are es)

  core_imports_are : (is : List ((Text × Text) × EntityType)) (es : List (Text × EntityType)) →
      entry_texts w (slot_parts ts (core_import_slots is ++ core_export_slots es)) ≡ map (core_import_said w) is ++ map (core_export_said w) es
  core_imports_are [] es = core_exports_are es
  core_imports_are (i ∷ is) es = ap (λ (xs : List Text). core_import_said w i ∷ xs) (core_imports_are is es)

  pub module_form : (k : ℕ) (s : ModuleType) (t : Type_tree) → t ≡ node (head_of k (n.Module s)) (slot_parts ts (slots_of (n.Module s))) → form_of w t ≡ module_said w s
  module_form k s t e = ap (form_of w) e ∙ ap (λ (xs : List Text). codes "module {" ++ listed [] xs ++ codes "}") (core_imports_are s.imports s.exports)

-- ## Instances and components

module _ (a : Arena) (bound : ℕ) (w : Written) where
  abbrev S : Part → Type 0
  S q = StandsBefore a bound q

  slot_stands : (s : Slot) → All S (slot_refs s) → SlotStands a s
  slot_stands (leaf o) h = tt
  slot_stands (core e) h = tt
  slot_stands (at q) h = (All-head S q [] h).stands
  slot_stands (both c r) h = ((All-head S c (r ∷ []) h).stands, (All-head S r [] (All-tail S c (r ∷ []) h)).stands)

  exports_are : (es : List (Text × ComponentItem)) → All S (parts_in (entry_slots export es)) → entry_texts w (slot_parts (trees a.nodes) (entry_slots export es)) ≡ entries_said w (codes "export ") es
  exports_are [] h = refl
  exports_are (e ∷ es) h =
      let s : EntityStands a e.1.ty = slot_stands (entity_slot e.1.ty) (all_left S (slot_refs (entity_slot e.1.ty)) (parts_in (entry_slots export es)) h) in
      ap (λ (x : Text). (codes "export " ++ quoted e.0 ++ codes " " ++ x ++ name_text (entry_name e)) ∷ entry_texts w (slot_parts (trees a.nodes) (entry_slots export es))) (entity_is a w e.1.ty s) ∙
      ap (λ (xs : List Text). one_entry w (codes "export ") e ∷ xs) (exports_are es (all_right S (slot_refs (entity_slot e.1.ty)) (parts_in (entry_slots export es)) h))

  both_are : (ins outs : List (Text × ComponentItem)) → All S (parts_in (entry_slots import ins ++ entry_slots export outs)) →
      entry_texts w (slot_parts (trees a.nodes) (entry_slots import ins ++ entry_slots export outs)) ≡ entries_said w (codes "import ") ins ++ entries_said w (codes "export ") outs
  both_are [] outs h = exports_are outs h
  both_are (e ∷ es) outs h =
      let rest : Slots = entry_slots import es ++ entry_slots export outs in
      let s : EntityStands a e.1.ty = slot_stands (entity_slot e.1.ty) (all_left S (slot_refs (entity_slot e.1.ty)) (parts_in rest) h) in
      ap (λ (x : Text). (codes "import " ++ quoted e.0 ++ codes " " ++ x ++ name_text (entry_name e)) ∷ entry_texts w (slot_parts (trees a.nodes) rest)) (entity_is a w e.1.ty s) ∙
      ap (λ (xs : List Text). one_entry w (codes "import ") e ∷ xs) (both_are es outs (all_right S (slot_refs (entity_slot e.1.ty)) (parts_in rest) h))

  pub instance_form : (k : ℕ) (s : ComponentInstanceType) (t : Type_tree) → t ≡ node (head_of k (n.Instance s)) (slot_parts (trees a.nodes) (slots_of (n.Instance s))) → All S (parts_of (n.Instance s)) →
      form_of w t ≡ instance_said w s
  instance_form k s t e h =
      let own : own_texts w (resource_names s.defined_resources) ≡ map (own_said w) s.defined_resources = own_are w s.defined_resources in
      let outs : entry_texts w (slot_parts (trees a.nodes) (entry_slots export s.exports)) ≡ entries_said w (codes "export ") s.exports = exports_are s.exports h in
      ap (form_of w) e ∙ (λ j. codes "instance {" ++ listed [] (own j ++ outs j) ++ codes "}")

  pub component_form : (k : ℕ) (s : ComponentType) (t : Type_tree) → t ≡ node (head_of k (n.Component s)) (slot_parts (trees a.nodes) (slots_of (n.Component s))) → All S (parts_of (n.Component s)) →
      form_of w t ≡ component_said w s
  component_form k s t e h =
      let both = both_are s.imports s.exports h in
      let ins = paths_are w (codes "imported ") s.imported_resources in
      let outs = paths_are w (codes "defined ") s.defined_resources in
      ap (form_of w) e ∙ (λ j. codes "component {" ++ listed [] (both j ++ ins j ++ outs j) ++ codes "}")
