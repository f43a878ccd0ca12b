use Rattle.wcv_lower.specs.Trees.{tree_maker}
use Rattle.wcv_lower.proofs.Growing.{grow-renamed, checks-renamed}
use Rattle.wcv_lower.proofs.GrowthLaws.{grows}
use Rattle.wcv_lower.proofs.NewNames.{trees_tell}
use Rattle.wcv_lower.proofs.laws.renaming_keeps_growth_and_causes.Goals as goal

pub returns : goal.returns
returns c = record { growth = grow-renamed; causes = checks-renamed; free = λ n p fs s f b h. grows trees_tell fs (tree_maker n p) s f b h }
