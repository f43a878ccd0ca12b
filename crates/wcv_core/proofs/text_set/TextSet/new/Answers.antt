use Rattle.std.proofs.Common.{ap}
use Rattle.wcv_core.specs.TextSet.{texts_of}
use Rattle.wcv_core.proofs.Texts.{none_indexed}
use Rattle.wcv_core.proofs.text_set.TextSet.new.Goals as goal

pub invariant_of-result : goal.invariant_of-result
invariant_of-result c = none_indexed c.new-2.result c.new-3.result (texts_of c.new.result.items) (ap texts_of c.new.ensures.items)
