use Rattle.wcv_lower.proofs.OwnedOnce.{owned_made, reading_once, growing_once}
use Rattle.wcv_lower.proofs.laws.a_declared_type_owns_what_its_declarations_made.Goals as goal

pub returns : goal.returns
returns c = record {
  owned = λ fs p s u ds all e. owned_made fs p s u ds all e;
  declared = λ fs p s u t all e. reading_once fs p s u t all e;
  grown = λ fs n p s u f all e. growing_once fs n p s u f all e;
}
