use Rattle.wcv_matching.specs.OnePass.{given, enough}
use Rattle.wcv_matching.proofs.SameHeights.{same_height}
use Rattle.wcv_matching.proofs.laws.same_types_have_one_height.Goals as goal

pub returns : goal.returns
returns c gs a b n m u v e = same_height gs (enough a b) 0 given given a b e (n, u) (m, v)
