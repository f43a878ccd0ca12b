use Rattle.wcv_lower.proofs.Served.{served_told}
use Rattle.wcv_lower.proofs.laws.arguments_are_tested_rightly.Goals as goal

pub returns : goal.returns
returns c = λ gs args is t a w. served_told gs args is t a w
