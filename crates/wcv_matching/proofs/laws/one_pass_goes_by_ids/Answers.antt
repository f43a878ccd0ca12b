use Rattle.wcv_matching.proofs.PassByIds.{matching-by_ids, opening-by_ids}
use Rattle.wcv_matching.proofs.laws.one_pass_goes_by_ids.Goals as goal

pub returns-clause-matches : goal.returns-clause-matches
returns-clause-matches c gs same_seen a b told table oa ob i j = matching-by_ids gs same_seen told table a b oa ob i j

pub returns-clause-opens : goal.returns-clause-opens
returns-clause-opens c gs same_seen args x told table oa oc i j = opening-by_ids gs same_seen told table args x oa oc i j
