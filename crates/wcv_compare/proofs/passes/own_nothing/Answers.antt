use Rattle.std.proofs.Common.{arith}
use Rattle.wcv_compare.proofs.Comparing.{empty_over}
use Rattle.wcv_compare.proofs.passes.own_nothing.Goals as goal

pub returns : goal.returns
returns c h = (empty_over c.args.own_left.now (omega arith), empty_over c.args.own_right.now (omega arith))
