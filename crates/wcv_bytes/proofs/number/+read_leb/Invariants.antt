use Rattle.std.proofs.Common.{length}
use Rattle.wcv_bytes.proofs.number.+read_leb.Given as goal

abbrev pub decreases-read_leb : goal.decreases-read_leb
decreases-read_leb l = length l.bytes.now
