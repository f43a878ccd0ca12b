use Rattle.wcv_remap.proofs.Counting.{reads_reached}
use Rattle.wcv_remap.proofs.a_rebuilding_reads_at_most_what_is_reached.Goals as goal

pub returns : goal.returns
returns c = reads_reached
