use Rattle.std.proofs.Common.{◌∙◌, ap, map}
use Rattle.wcv_matching.specs.OnePass.{owned_in}
use Rattle.wcv_counterparts.specs.IdCounterparts.{lands_on}
use Rattle.wcv_counterparts.specs.OwnResources.{read_as}
use Rattle.wcv_atoms.specs.Readings.{atoms_of}
use Rattle.wcv_counterparts.proofs.OwnReadings.{first_joined}
use Rattle.wcv_counterparts.proofs.own_resources.imported_atoms.Goals as goal

pub returns : goal.returns
returns c =
    first_joined c.new-atoms.result.items (atoms_of c.push_own.new.atoms.items) (read_as (owned_in c.args.level) (map lands_on c.deref.result.now)) c.new-atoms.ensures.items c.in_ok-push_own.ensures ∙
    ap (read_as (owned_in c.args.level)) (ap (map lands_on) c.deref.ensures.value ∙ c.in_ok-owned.ensures)
