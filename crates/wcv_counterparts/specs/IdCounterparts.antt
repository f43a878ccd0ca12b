-- The counterparts of own resources, by ids.
use Rattle.std.specs.Prelude.{ℕ, List, [], map, Option, None, Some, All, ◌≡◌}
use Rattle.std.specs.BTreeMap.{BTreeMap, get_by}
use Rattle.std.specs.Ordering.{nat_cmp}
use Rattle.wcv_core.specs.Names.{Name}
use Rattle.wcv_types.specs.Arena.{Arena}
use Rattle.wcv_types.specs.Entities.{entity_tree, EntityStands, EntryStands}
use Rattle.wcv_types.specs.Tree.{Text, firsts}
use Rattle.wcv_types.specs.Unfold.{Type_tree, trees}
use Rattle.wcv_types.specs.declared.ids.ResourceId.{ResourceId}
use Rattle.wcv_types.specs.declared.item_map.ComponentItem.{ComponentItem}
use Rattle.wcv_types.specs.declared.shapes.ComponentEntityType.{ComponentEntityType}
use Rattle.wcv_types.specs.declared.shapes.ComponentEntityType.TheVariants as entity
use Rattle.wcv_atoms.specs.IdPasses.{named_trees}
use Rattle.wcv_matching.specs.Matching.{named_exports}
use Rattle.wcv_matching.specs.OnePass.{counterpart}
use Rattle.wcv_atoms.specs.Readings.{resource_name}
use Rattle.wcv_counterparts.specs.declared.counterparts.Exports.{Exports}

-- what a node exports, if it exports something
abbrev pub exports_by_ids : Arena → Option (List (Text × ComponentItem)) → List (Text × Type_tree)
exports_by_ids a None = []
exports_by_ids a (Some es) = named_trees (trees a.nodes) es

-- a resource, and the one that stands for it
abbrev pub lands_on : ResourceId × ResourceId → Name × Name
lands_on p = (resource_name p.0, resource_name p.1)

-- each own resource with its counterpart
abbrev pub counterparts_of : List (Name × List ℕ) → List (Text × Type_tree) → List (Text × Type_tree) → List (Name × Name)
counterparts_of ps es xs = map (λ r. (r, counterpart ps es xs r)) (firsts ps)

-- the place of a node that may export something
abbrev pub exporter : ComponentEntityType → Option ℕ
exporter (entity.Instance i) = Some i.index
exporter (entity.Component i) = Some i.index
exporter x = None

-- each map is of what the node at its place exports
abbrev pub AreExportMaps : Arena → BTreeMap ℕ (List (Text × ComponentItem)) → Type 0
AreExportMaps a m = (x : ComponentEntityType) (k : ℕ) (es : List (Text × ComponentItem)) → EntityStands a x → exporter x ≡ Some k → get_by (λ j. nat_cmp k j) m ≡ Some es →
    (named_exports (entity_tree (trees a.nodes) x) ≡ named_trees (trees a.nodes) es) × All (EntryStands a) es

abbrev pub AreExports : Arena → Exports → Type 0
AreExports a e = AreExportMaps a e.maps
