-- The parts of instances, of components and of core modules are their entries.
use Rattle.std.proofs.Common.{◌≡◌, ℕ, List, [], ◌∷◌, ◌++◌, refl, ap, ◌∙◌, append-nil}
use Rattle.wcv_core.specs.declared.core_types.EntityType.{EntityType}
use Rattle.wcv_core.specs.Names.{Name, number}
use Rattle.wcv_types.specs.Tree.{Text, Extern_name, Role, import, export, core_import, core_export, node, core_item, Parts, none, part, Tree, entries, core_imports, core_exports, module_type, exports_in, imports_in}
use Rattle.wcv_types.specs.Entities.{entry_trees}
use Rattle.wcv_types.specs.Unfold.{Type_tree, Slots, entity_slot, entry_name, entry_slots, core_import_slots, core_export_slots, head_of, slots_of, slot_tree, slot_parts}
use Rattle.wcv_types.specs.declared.arena.Node.TheVariants as n
use Rattle.wcv_types.specs.declared.core_shapes.ModuleType.{ModuleType}
use Rattle.wcv_types.specs.declared.item_map.ComponentItem.{ComponentItem}

-- ## Entries

module _ (ts : List Type_tree) (role : Extern_name → Role) where
  -- before other slots
  pub entry_parts-before : (es : List (Text × ComponentItem)) (rest : Slots) → slot_parts ts (entry_slots role es ++ rest) ≡ entries role (entry_trees ts es) (slot_parts ts rest)
  entry_parts-before [] rest = refl
  entry_parts-before (e ∷ es) rest = ap (λ (ps : Parts Name Name). part (role (entry_name e)) (slot_tree ts (entity_slot e.1.ty)) ps) (entry_parts-before es rest)

  pub entry_parts : (es : List (Text × ComponentItem)) → slot_parts ts (entry_slots role es) ≡ entries role (entry_trees ts es) none
  entry_parts [] = refl
  entry_parts (e ∷ es) = ap (λ (ps : Parts Name Name). part (role (entry_name e)) (slot_tree ts (entity_slot e.1.ty)) ps) (entry_parts es)

-- imports, and exports behind them
pub both_parts : (ts : List Type_tree) (ins outs : List (Text × ComponentItem)) →
    slot_parts ts (entry_slots import ins ++ entry_slots export outs) ≡ entries import (entry_trees ts ins) (entries export (entry_trees ts outs) none)
both_parts ts ins outs = entry_parts-before ts import ins (entry_slots export outs) ∙ ap (λ (ps : Parts Name Name). entries import (entry_trees ts ins) ps) (entry_parts ts export outs)

-- ## Views

module _ {R I : Type 0} where
  pub exports_in-exports : (es : List (Extern_name × Tree R I)) → exports_in (entries export es none) ≡ es
  exports_in-exports [] = refl
  exports_in-exports (e ∷ es) = ap (λ xs. e ∷ xs) (exports_in-exports es)

  pub imports_in-exports : (es : List (Extern_name × Tree R I)) → imports_in (entries export es none) ≡ []
  imports_in-exports [] = refl
  imports_in-exports (e ∷ es) = imports_in-exports es

  pub exports_in-imports : (is : List (Extern_name × Tree R I)) (rest : Parts R I) → exports_in (entries import is rest) ≡ exports_in rest
  exports_in-imports [] rest = refl
  exports_in-imports (i ∷ is) rest = exports_in-imports is rest

  pub imports_in-imports : (is : List (Extern_name × Tree R I)) (rest : Parts R I) → imports_in (entries import is rest) ≡ is ++ imports_in rest
  imports_in-imports [] rest = refl
  imports_in-imports (i ∷ is) rest = ap (λ xs. i ∷ xs) (imports_in-imports is rest)

-- so of the slots of nodes
module _ (ts : List Type_tree) where
  pub component_exports : (ins outs : List (Text × ComponentItem)) → exports_in (slot_parts ts (entry_slots import ins ++ entry_slots export outs)) ≡ entry_trees ts outs
  component_exports ins outs =
      ap (λ (ps : Parts Name Name). exports_in ps) (both_parts ts ins outs) ∙ exports_in-imports (entry_trees ts ins) (entries export (entry_trees ts outs) none) ∙
      exports_in-exports (entry_trees ts outs)

  pub component_imports : (ins outs : List (Text × ComponentItem)) → imports_in (slot_parts ts (entry_slots import ins ++ entry_slots export outs)) ≡ entry_trees ts ins
  component_imports ins outs =
      ap (λ (ps : Parts Name Name). imports_in ps) (both_parts ts ins outs) ∙ imports_in-imports (entry_trees ts ins) (entries export (entry_trees ts outs) none) ∙
      ap (λ xs. entry_trees ts ins ++ xs) (imports_in-exports (entry_trees ts outs)) ∙ append-nil (entry_trees ts ins)

-- ## Core items

module _ (ts : List Type_tree) where
  pub core_import_parts : (is : List ((Text × Text) × EntityType)) (rest : Slots) → slot_parts ts (core_import_slots is ++ rest) ≡ core_imports is (slot_parts ts rest)
  core_import_parts [] rest = refl
  core_import_parts (i ∷ is) rest = ap (λ (ps : Parts Name Name). part (core_import i.0.0 i.0.1) (node (core_item i.1) none) ps) (core_import_parts is rest)

  pub core_export_parts : (es : List (Text × EntityType)) → slot_parts ts (core_export_slots es) ≡ core_exports es none
  core_export_parts [] = refl
  core_export_parts (e ∷ es) = ap (λ (ps : Parts Name Name). part (core_export e.0) (node (core_item e.1) none) ps) (core_export_parts es)

  pub core_parts : (is : List ((Text × Text) × EntityType)) (es : List (Text × EntityType)) → slot_parts ts (core_import_slots is ++ core_export_slots es) ≡ core_imports is (core_exports es none)
  core_parts is es = core_import_parts is (core_export_slots es) ∙ ap (λ (ps : Parts Name Name). core_imports is ps) (core_export_parts es)

-- ## Nodes, over the trees of the nodes, at the place k

module _ (ts : List Type_tree) (k : ℕ) where
  pub module_node : (s : ModuleType) → node (head_of k (n.Module s)) (slot_parts ts (slots_of (n.Module s))) ≡ module_type (number k) s.info.size s.imports s.exports
  module_node s = ap (λ (ps : Parts Name Name). node (head_of k (n.Module s)) ps) (core_parts ts s.imports s.exports)
