use Rattle.std.proofs.Common.{◌∙◌, ap, map}
use Rattle.wcv_counterparts.specs.IdCounterparts.{lands_on}
use Rattle.wcv_counterparts.specs.OwnResources.{read_as}
use Rattle.wcv_atoms.specs.Readings.{atoms_of, over, reads}
use Rattle.wcv_counterparts.proofs.OwnReadings.{first_joined}
use Rattle.wcv_counterparts.proofs.own_resources.opened_imports.Goals as goal

pub returns-clause-read : goal.returns-clause-read
returns-clause-read g c =
    let f = over (atoms_of c.args.own.now) (reads c.args.readings.now) in
    first_joined c.new-atoms.result.items (atoms_of c.push_read_under.new.atoms.items) (read_as f (map lands_on c.deref.result.now)) c.new-atoms.ensures.items c.in_ok-push_read_under.ensures.joined ∙
    ap (read_as f) (ap (map lands_on) c.deref.ensures.value ∙ c.in_ok-imported.ensures.found)
