use Rattle.wcv_write.proofs.ItemsAgain.{text_again}
use Rattle.wcv_write.proofs.laws.listing_texts_are_read_again.Goals as goal

pub returns : goal.returns
returns _ = text_again
