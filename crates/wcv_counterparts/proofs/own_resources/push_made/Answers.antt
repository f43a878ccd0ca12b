use Rattle.std.proofs.Common.{◌++◌, ◌∙◌, ap, map}
use Rattle.wcv_matching.specs.OnePass.{made_in}
use Rattle.wcv_counterparts.specs.IdCounterparts.{lands_on}
use Rattle.wcv_counterparts.specs.OwnResources.{read_as}
use Rattle.wcv_atoms.specs.Readings.{atoms_of}
use Rattle.wcv_counterparts.proofs.own_resources.push_made.Goals as goal

pub returns : goal.returns
returns c =
    c.in_ok-push_own.ensures ∙ ap (λ ps. atoms_of c.args.atoms.now.items ++ read_as (made_in c.args.level) ps) (ap (map lands_on) c.deref.ensures.value ∙ c.in_ok-made.ensures)
