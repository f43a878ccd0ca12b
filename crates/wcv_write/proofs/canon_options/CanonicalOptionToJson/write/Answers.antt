use Rattle.wcv_write.specs.Canons.{option_data}
use Rattle.wcv_write.proofs.canon_options.CanonicalOptionToJson.write.Goals as goal

pub returns-in-PostReturn : goal.returns-in-PostReturn
unfolding option_data
returns-in-PostReturn g c = rw c.in-PostReturn.is c.write_index_under-in-PostReturn.ensures
