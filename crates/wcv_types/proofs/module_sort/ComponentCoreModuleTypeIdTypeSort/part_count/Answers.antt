use Rattle.std.proofs.Common.{List, length, ap, sym}
use Rattle.wcv_types.specs.declared.ids.Part.{Part}
use Rattle.wcv_types.proofs.ModulesRebuilt.{module_parts}
use Rattle.wcv_types.proofs.module_sort.ComponentCoreModuleTypeIdTypeSort.part_count.Goals as goal

pub returns : goal.returns
returns c = ap (λ (ps : List Part). length ps) (sym (module_parts c.args._types.now c.args.self c.requires))
