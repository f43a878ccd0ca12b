use Rattle.std.proofs.Common.{◌∙◌, ◌++◌, List, append-nil, ap, sym}
use Rattle.wcv_types.specs.Unfold.{module_slots}
use Rattle.wcv_types.specs.declared.ids.Part.{Part}
use Rattle.wcv_types.proofs.ModulesRebuilt.{module_items, no_parts}
use Rattle.wcv_types.proofs.module_sort.ComponentCoreModuleTypeIdNodeSort.parts_into.Goals as goal

pub returns : goal.returns
returns c = sym (append-nil c.args._parts.now) ∙ ap (λ (ps : List Part). c.args._parts.now ++ ps) (sym (no_parts (module_slots c.args._shape.now) (module_items c.args._shape.now)))
