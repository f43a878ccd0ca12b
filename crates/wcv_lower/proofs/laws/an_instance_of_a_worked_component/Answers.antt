use Rattle.std.proofs.Common.{refl}
use Rattle.wcv_lower.proofs.laws.an_instance_of_a_worked_component.Goals as goal

pub returns : goal.returns
returns c = record { opens = refl; unopened = refl; made = refl; new = refl }
