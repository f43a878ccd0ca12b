-- What the nodes of an arena export, by ids.
use Rattle.std.specs.Prelude.{List, [], slice_get}
use Rattle.std.specs.Option.{option_map_or}
use Rattle.wcv_core.specs.declared.core_types.EntityType.{EntityType}
use Rattle.wcv_types.specs.Arena.{Arena}
use Rattle.wcv_types.specs.ByName.{texts_in}
use Rattle.wcv_types.specs.Tree.{Text}
use Rattle.wcv_types.specs.declared.arena.Node.{Node}
use Rattle.wcv_types.specs.declared.arena.Node.TheVariants as n
use Rattle.wcv_types.specs.declared.core_shapes.CoreInstanceTypeKind.{CoreInstanceTypeKind}
use Rattle.wcv_types.specs.declared.core_shapes.CoreInstanceTypeKind.TheVariants as kind
use Rattle.wcv_types.specs.declared.ids.ComponentCoreInstanceTypeId.{ComponentCoreInstanceTypeId}
use Rattle.wcv_types.specs.declared.ids.ComponentCoreModuleTypeId.{ComponentCoreModuleTypeId}
use Rattle.wcv_types.specs.declared.ids.ComponentInstanceTypeId.{ComponentInstanceTypeId}
use Rattle.wcv_types.specs.declared.item_map.ComponentItem.{ComponentItem}

-- what an instance type exports
abbrev pub items_of : Node → List (Text × ComponentItem)
items_of (n.Instance s) = s.exports
items_of _ = []

-- what a core instance lists
abbrev pub kind_exports : CoreInstanceTypeKind → List (Text × EntityType)
kind_exports (kind.Instantiated m) = []
kind_exports (kind.Exports es) = es

-- what a core module exports, and what a core instance lists
abbrev pub core_exports_of : Node → List (Text × EntityType)
core_exports_of (n.Module s) = s.exports
core_exports_of (n.CoreInstance s) = kind_exports s.kind
core_exports_of _ = []

-- the names of the core items that a node exports
abbrev pub names_of : Node → List Text
names_of (n.Module s) = texts_in s.exports
names_of (n.CoreInstance s) = texts_in (kind_exports s.kind)
names_of _ = []

-- what the instance exports
abbrev pub exports_at : Arena → ComponentInstanceTypeId → List (Text × ComponentItem)
exports_at a id = option_map_or items_of (slice_get a.nodes id.index) []

-- what the core module exports
abbrev pub module_exports_at : Arena → ComponentCoreModuleTypeId → List (Text × EntityType)
module_exports_at a id = option_map_or core_exports_of (slice_get a.nodes id.index) []

-- what the core instance lists
abbrev pub listed_at : Arena → ComponentCoreInstanceTypeId → List (Text × EntityType)
listed_at a id = option_map_or core_exports_of (slice_get a.nodes id.index) []
