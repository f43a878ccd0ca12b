use Rattle.wcv_matching.specs.AtomTests.{same_seen}
use Rattle.wcv_matching.proofs.AtomTests.{seen-decides}
use Rattle.wcv_matching.proofs.PassByIds.{matching-by_ids, opening-by_ids}
use Rattle.wcv_matching.proofs.laws.the_tests_by_ids_are_right.Goals as goal

pub returns-clause-matches : goal.returns-clause-matches
returns-clause-matches c gs a b table oa ob i j = matching-by_ids gs same_seen seen-decides table a b oa ob i j

pub returns-clause-opens : goal.returns-clause-opens
returns-clause-opens c gs args x table oa oc i j = opening-by_ids gs same_seen seen-decides table args x oa oc i j
