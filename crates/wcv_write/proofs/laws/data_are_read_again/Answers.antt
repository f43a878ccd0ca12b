use Rattle.wcv_write.proofs.ReadAgain.{read-compact_text}
use Rattle.wcv_write.proofs.laws.data_are_read_again.Goals as goal

pub returns : goal.returns
returns c = read-compact_text
