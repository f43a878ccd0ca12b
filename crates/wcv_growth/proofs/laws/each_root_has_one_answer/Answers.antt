use Rattle.wcv_growth.proofs.Decided.{valid_or_refused}
use Rattle.wcv_growth.proofs.Once.{valid_not_refused, valid_once, refused_once}
use Rattle.wcv_growth.proofs.laws.each_root_has_one_answer.Goals as goal

pub returns : goal.returns
returns c = record { some = valid_or_refused; not_both = valid_not_refused; one_context = valid_once; one_place = refused_once }
