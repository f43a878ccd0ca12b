use Rattle.wcv_encode.proofs.AgainPlaces.{same_spelling}
use Rattle.wcv_encode.proofs.laws.places_have_no_bytes.Goals as goal

pub returns : goal.returns
returns _ = same_spelling
