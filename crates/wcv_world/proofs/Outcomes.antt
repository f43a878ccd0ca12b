-- What comes after an outcome.
use Rattle.std.proofs.Common.{◌≡◌, refl}
use Rattle.wcv_world.specs.Machine.{Outcome, ended, out_of_turns, stuck, after}

module _ {A B : Type 0} where
  -- in two parts
  pub after-ended : (k : A → Outcome B) (o : Outcome A) (b : B) → after k o ≡ ended b → (a : A) × (o ≡ ended a) × (k a ≡ ended b)
  after-ended k (ended a) b e = (a, refl, e)
  after-ended k out_of_turns b e = cc
  after-ended k stuck b e = cc

  pub after-same : (k l : A → Outcome B) (o : Outcome A) → ((a : A) → o ≡ ended a → l a ≡ k a) → after l o ≡ after k o
  after-same k l (ended a) h = h a refl
  after-same k l out_of_turns h = refl
  after-same k l stuck h = refl
