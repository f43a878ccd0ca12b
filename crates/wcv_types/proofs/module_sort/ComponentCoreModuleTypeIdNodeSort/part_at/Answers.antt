use Rattle.std.proofs.Common.{◌<◌, List, length, subst, arith}
use Rattle.wcv_types.specs.declared.ids.Part.{Part}
use Rattle.wcv_types.proofs.ModulesRebuilt.{module_parts}
use Rattle.wcv_types.proofs.module_sort.ComponentCoreModuleTypeIdNodeSort.part_at.Goals as goal

pub unreachable-requires : goal.unreachable-requires
unreachable-requires c = absurd (omega (arith, subst (λ (ps : List Part). c.args._k < length ps) (module_parts c.args._types.now c.args.self c.requires.stands) c.requires.below))
