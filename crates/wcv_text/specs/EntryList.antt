-- The lines of instances, components and core modules, by ids.
use Rattle.std.specs.Prelude.{ℕ, List, [], ◌∷◌, ◌++◌, map, codes}
use Rattle.wcv_core.specs.declared.core_types.EntityType.{EntityType}
use Rattle.wcv_types.specs.CoreText.{item_text, item_ids}
use Rattle.wcv_types.specs.Entities.{entry_name}
use Rattle.wcv_types.specs.Quoting.{quoted, listed}
use Rattle.wcv_types.specs.Text.{Written, resource_number, name_text, path_text, write_groups}
use Rattle.wcv_types.specs.Tree.{Text}
use Rattle.wcv_types.specs.declared.component_type.ComponentType.{ComponentType}
use Rattle.wcv_types.specs.declared.core_shapes.ModuleType.{ModuleType}
use Rattle.wcv_types.specs.declared.ids.ResourceId.{ResourceId}
use Rattle.wcv_types.specs.declared.instance_type.ComponentInstanceType.{ComponentInstanceType}
use Rattle.wcv_types.specs.declared.item_map.ComponentItem.{ComponentItem}
use Rattle.wcv_text.specs.Mentions.{entity_said}
use Rattle.wcv_text.specs.Numbers.{name_of}

-- an entry behind a word
abbrev pub one_entry : Written → Text → Text × ComponentItem → Text
one_entry w word e = word ++ quoted e.0 ++ codes " " ++ entity_said w e.1.ty ++ name_text (entry_name e)

-- each of them
abbrev pub entries_said : Written → Text → List (Text × ComponentItem) → List Text
entries_said w word es = map (one_entry w word) es

abbrev pub own_said : Written → ResourceId → Text
own_said w r = codes "own " ++ resource_number w (name_of r)

-- an instance
abbrev pub instance_said : Written → ComponentInstanceType → Text
instance_said w s = codes "instance {" ++ listed [] (map (own_said w) s.defined_resources ++ entries_said w (codes "export ") s.exports) ++ codes "}"

-- resources and their paths behind a word
abbrev pub paths_said : Written → Text → List (ResourceId × List ℕ) → List Text
paths_said w word ps = map (λ p. path_text w word (name_of p.0) p.1) ps

-- a component
abbrev pub component_said : Written → ComponentType → Text
component_said w s =
    codes "component {"
    ++ listed [] (entries_said w (codes "import ") s.imports ++ entries_said w (codes "export ") s.exports ++ paths_said w (codes "imported ") s.imported_resources ++ paths_said w (codes "defined ") s.defined_resources)
    ++ codes "}"

-- an import of a core module
abbrev pub core_import_said : Written → (Text × Text) × EntityType → Text
core_import_said w i = codes "import " ++ quoted i.0.0 ++ codes " " ++ quoted i.0.1 ++ codes " " ++ item_text w.core w.groups i.1

-- an export
abbrev pub core_export_said : Written → Text × EntityType → Text
core_export_said w e = codes "export " ++ quoted e.0 ++ codes " " ++ item_text w.core w.groups e.1

-- a core module
abbrev pub module_said : Written → ModuleType → Text
module_said w s = codes "module {" ++ listed [] (map (core_import_said w) s.imports ++ map (core_export_said w) s.exports) ++ codes "}"

-- the groups that core items name
abbrev pub write_items : List EntityType → Written → Written
write_items [] w = w
write_items (e ∷ es) w = write_items es (write_groups w (item_ids e))
