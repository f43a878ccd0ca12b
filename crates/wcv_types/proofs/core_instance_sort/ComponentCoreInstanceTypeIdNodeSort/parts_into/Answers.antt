use Rattle.std.proofs.Common.{◌∙◌, ◌++◌, List, append-nil, ap, sym}
use Rattle.wcv_types.specs.declared.ids.Part.{Part}
use Rattle.wcv_types.proofs.CoreInstancesRebuilt.{exports_parts}
use Rattle.wcv_types.proofs.core_instance_sort.ComponentCoreInstanceTypeIdNodeSort.parts_into.Goals as goal

pub returns-in-Exports : goal.returns-in-Exports
returns-in-Exports c = sym (append-nil c.args.parts.now) ∙ ap (λ (ps : List Part). c.args.parts.now ++ ps) (sym (exports_parts c.args.shape.now.kind c.in-Exports.field-0 c.in-Exports.is))
