use Rattle.std.proofs.Common.{sym}
use Rattle.wcv_types.specs.Unfold.{trees}
use Rattle.wcv_types.proofs.CoreInstancesRebuilt.{mentions_none}
use Rattle.wcv_types.proofs.core_instance_sort.refers.Goals as goal

pub returns-in-Exports : goal.returns-in-Exports
returns-in-Exports c = sym (mentions_none (trees c.args.types.now.nodes) c.args.shape.now.kind c.in-Exports.field-0 c.in-Exports.is)
