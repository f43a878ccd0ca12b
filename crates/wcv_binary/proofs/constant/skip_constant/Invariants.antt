use Rattle.std.proofs.Common.{◌≡◌}
use Rattle.wcv_binary.specs.Constants.{constant_within, constant_at}
use Rattle.wcv_binary.proofs.constant.skip_constant.Given as goal

abbrev pub decreases-loop-most : goal.decreases-loop-most
decreases-loop-most l = l.most

abbrev pub invariant-loop-most : goal.invariant-loop-most
invariant-loop-most l = constant_within l.most l.rest ≡ constant_at l.bytes
