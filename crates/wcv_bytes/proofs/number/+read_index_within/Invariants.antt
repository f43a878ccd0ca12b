use Rattle.std.proofs.Common.{length}
use Rattle.wcv_bytes.proofs.number.+read_index_within.Given as goal

abbrev pub decreases-read_index_within : goal.decreases-read_index_within
decreases-read_index_within l = length l.bytes.now
