use Rattle.wcv_growth.proofs.ReachedLaws.{ascribed-accepted, matched, matching}
use Rattle.wcv_growth.proofs.reached_laws.an_ascribed_item_matches_its_type.Goals as goal

pub returns : goal.returns
returns c = record {
  matching = λ fs w k s e t x b r says there gives own m. matching fs w k s r e t x b says there gives own m;
  matched = λ fs w k s e t x b r says there gives n. matched fs w k s r e t x b says there gives n;
  accepted = λ fs w k s e t r says free. ascribed-accepted fs w k s r e t says free;
}
