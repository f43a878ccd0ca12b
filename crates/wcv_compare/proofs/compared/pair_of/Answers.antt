use Rattle.std.proofs.Common.{refl, sym}
use Rattle.wcv_compare.proofs.compared.pair_of.Goals as goal

pub returns : goal.returns
returns c = record { level = refl; left = sym c.in-Some.ensures; right = sym c.in-Some-kept_place.ensures }
