use Rattle.std.proofs.Common.{List, true, false, sym, subst}
use Rattle.std.specs.Prelude.{All}
use Rattle.wcv_compare.specs.Compared.{IsPassed}
use Rattle.wcv_compare.specs.declared.compared.LevelPair.{LevelPair}
use Rattle.wcv_compare.proofs.compared.Compared.flip.Goals as goal

pub returns : goal.returns
returns c a f g w = record {
  same = subst (λ (ps : List LevelPair). All (IsPassed a true g f) ps) (sym c.swap.ensures.x_after) w.same_flipped;
  matching = subst (λ (ps : List LevelPair). All (IsPassed a false g f) ps) (sym c.swap-2.ensures.x_after) w.matching_flipped;
  same_flipped = subst (λ (ps : List LevelPair). All (IsPassed a true f g) ps) (sym c.swap.ensures.y_after) w.same;
  matching_flipped = subst (λ (ps : List LevelPair). All (IsPassed a false f g) ps) (sym c.swap-2.ensures.y_after) w.matching;
}
