use Rattle.std.proofs.Common.{◌∙◌, List, length, ap, sym}
use Rattle.wcv_types.specs.declared.ids.Part.{Part}
use Rattle.wcv_types.proofs.CoreInstancesRebuilt.{core_instance_parts, exports_parts}
use Rattle.wcv_types.proofs.core_instance_sort.ComponentCoreInstanceTypeIdTypeSort.part_count.Goals as goal

pub returns-in-Exports : goal.returns-in-Exports
returns-in-Exports c =
    ap (λ (ps : List Part). length ps)
    (sym (core_instance_parts c.args.types.now c.args.self c.node.result.now c.node.ensures.found ∙ exports_parts c.node.result.now.kind c.in-Exports.field-0 c.in-Exports.is))
