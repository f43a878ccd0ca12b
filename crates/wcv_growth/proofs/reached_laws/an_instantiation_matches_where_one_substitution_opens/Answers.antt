use Rattle.std.proofs.Common.{[], sym, ◌∙◌}
use Rattle.wcv_growth.proofs.ReachedLaws.{accepted, argument-is, becomes, opened, then-opened}
use Rattle.wcv_growth.proofs.reached_laws.an_instantiation_matches_where_one_substitution_opens.Goals as goal

pub returns : goal.returns
returns c = record {
  opened = λ fs w p k i s args t u r there x. opened fs w k s r p i args t there u x;
  unopened = λ fs w p k i s args t r there n. then-opened fs w k s r p i args t there n;
  one = λ fs w k i s args t u v q r there x y m. sym (argument-is fs w k s r [] i args t there u q x m) ∙ argument-is fs w k s r [] i args t there v q y m;
  found = λ fs w p k i s args t u q r there x m. (argument-is fs w k s r p i args t there u q x m, becomes fs w k s r p i args t there u q x m);
  accepted = λ fs w p k i s args r free. accepted fs w k s r p i args free;
}
