use Rattle.wcv_lower.proofs.OptionGrowth.{same_step, no_memory, no_destructor}
use Rattle.wcv_lower.proofs.canon_laws.growth_takes_the_first_memory_and_async.Goals as goal

pub returns : goal.returns
returns c = record { options = λ s f os ps m a. same_step s os ps m a f; memory = no_memory; destructor = no_destructor }
