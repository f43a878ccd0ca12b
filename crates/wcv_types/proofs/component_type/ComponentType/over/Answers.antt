use Rattle.std.proofs.Common.{◌++◌, List, length, map, refl}
use Rattle.wcv_core.specs.Names.{number}
use Rattle.wcv_types.specs.Tree.{import, export, component}
use Rattle.wcv_types.specs.Unfold.{Type_tree, entry_slots, resource_path, slot_parts, trees}
use Rattle.wcv_types.proofs.ComponentsRebuilt.{component_fits}
use Rattle.wcv_types.proofs.component_type.ComponentType.over.Goals as goal

pub returns-clause-fits : goal.returns-clause-fits
returns-clause-fits c =
    let ts : List Type_tree = trees c.args.types.now.nodes in
    let info = c.info.ensures (component (number (length ts)) (map resource_path c.args.imported_resources) (map resource_path c.args.defined_resources))
    (slot_parts ts (entry_slots import c.args.imports ++ entry_slots export c.args.exports)) refl c.component_total.ensures in
    component_fits c.args.types.now (record { info = c.info.result; imports = c.args.imports; exports = c.args.exports; imported_resources = c.args.imported_resources; defined_resources = c.args.defined_resources })
    c.requires.stand c.requires.owned c.requires.led c.requires.apart (record { size = info.size; depth = info.depth })
