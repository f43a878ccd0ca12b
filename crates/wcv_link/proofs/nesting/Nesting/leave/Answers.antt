use Rattle.std.proofs.Common.{◌∙◌, sym}
use Rattle.std.proofs.lemmas.List.{same_from_push}
use Rattle.wcv_link.proofs.nesting.Nesting.leave.Goals as goal

pub returns-in-Some-clause-place : goal.returns-in-Some-clause-place
returns-in-Some-clause-place c = λ w k e. (same_from_push _ w _ k (sym c.in-Some.ensures.items ∙ e)).0
