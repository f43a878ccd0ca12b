use Rattle.std.proofs.Common.{length}
use Rattle.wcv_types.specs.Unfold.{trees}
use Rattle.wcv_types.proofs.defined_facts.defined_facts.Goals as goal

pub returns : goal.returns
returns c = c.facts.ensures (trees c.args.types.now.nodes) (length (trees c.args.types.now.nodes)) c.parts_sum.ensures.sum
