use Rattle.wcv_write.proofs.ItemsAgain.{listing_again}
use Rattle.wcv_write.proofs.laws.listings_are_read_again.Goals as goal

pub returns : goal.returns
returns _ = listing_again
