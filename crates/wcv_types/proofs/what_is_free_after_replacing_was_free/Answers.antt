use Rattle.wcv_types.proofs.Replace.{free_after}
use Rattle.wcv_types.proofs.what_is_free_after_replacing_was_free.Goals as goal

pub returns : goal.returns
returns c = free_after
