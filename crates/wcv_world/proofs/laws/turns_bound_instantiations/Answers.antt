use Rattle.wcv_world.proofs.Turns.{instantiated-falls, bound-free}
use Rattle.wcv_world.proofs.laws.turns_bound_instantiations.Goals as goal

pub returns : goal.returns
returns c = record { falls = λ fs n most. instantiated-falls fs n most; bound = λ fs n k m w v args. bound-free fs n k m w v args }
