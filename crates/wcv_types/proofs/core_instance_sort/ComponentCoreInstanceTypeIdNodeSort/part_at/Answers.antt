use Rattle.std.proofs.Common.{◌∙◌, ◌<◌, List, length, subst, arith}
use Rattle.wcv_types.specs.declared.ids.Part.{Part}
use Rattle.wcv_types.proofs.CoreInstancesRebuilt.{core_instance_parts, exports_parts}
use Rattle.wcv_types.proofs.core_instance_sort.ComponentCoreInstanceTypeIdNodeSort.part_at.Goals as goal

pub unreachable-requires : goal.unreachable-requires
unreachable-requires c =
    absurd (omega (
      arith,
      subst (λ (ps : List Part). c.args._k < length ps)
          (core_instance_parts c.args.types.now c.args.self c.node.result.now c.node.ensures.found ∙ exports_parts c.node.result.now.kind c.in-Exports.field-0 c.in-Exports.is) c.requires.below,
    ))
