use Rattle.std.proofs.Common.{◌++◌, ◌∙◌, ap, map}
use Rattle.wcv_types.specs.Unfold.{tree_at}
use Rattle.wcv_types.specs.declared.ids.Part.TheVariants as p
use Rattle.wcv_matching.specs.OnePass.{owned_in}
use Rattle.wcv_counterparts.specs.IdCounterparts.{lands_on}
use Rattle.wcv_counterparts.specs.OwnResources.{read_as}
use Rattle.wcv_atoms.specs.Readings.{atoms_of, over, reads}
use Rattle.wcv_counterparts.proofs.ComponentIds.{imported_are}
use Rattle.wcv_counterparts.proofs.own_resources.opened_exports.Goals as goal

pub returns-clause-read : goal.returns-clause-read
returns-clause-read g c =
    let f = over (atoms_of c.args.own.now) (reads c.args.readings.now) in
    c.in_ok-push_read_under.ensures.joined ∙
    (λ l. (c.in_ok-atoms.ensures ∙ ap (read_as (owned_in c.args.level)) (imported_are c.args.types.now c.args.a.index c.get-x.result.now (tree_at c.args.types.now (p.Component c.args.a)) c.get-x.ensures.unfolds)) l ++
    read_as f ((ap (map lands_on) c.deref.ensures.value ∙ c.in_ok-defined.ensures.found) l))
