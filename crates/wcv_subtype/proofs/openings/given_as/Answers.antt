use Rattle.std.proofs.Common.{◌∙◌, ap}
use Rattle.wcv_atoms.specs.Readings.{atoms_of, over}
use Rattle.wcv_subtype.proofs.openings.given_as.Goals as goal

pub returns : goal.returns
returns c = c.in_ok-enter.ensures ∙ (λ j. over ((ap atoms_of c.deref.ensures.value ∙ c.in_ok-read_as.ensures) j) (c.new-readings.ensures j))
