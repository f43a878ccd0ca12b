use Rattle.std.proofs.Common.{length}
use Rattle.wcv_binary.proofs.constant.+skip_signed.Given as goal

abbrev pub decreases-skip_signed : goal.decreases-skip_signed
decreases-skip_signed l = length l.bytes.now
