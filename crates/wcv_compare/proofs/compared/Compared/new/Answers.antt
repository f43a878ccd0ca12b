use Rattle.wcv_compare.proofs.Comparing.{none_passed}
use Rattle.wcv_compare.proofs.compared.Compared.new.Goals as goal

pub returns : goal.returns
returns c a f g = none_passed a f g _ c.new.ensures c.new-2.ensures c.new-3.ensures c.new-4.ensures
