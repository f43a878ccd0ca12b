use Rattle.std.proofs.Common.{◌++◌, ◌∙◌, ap, map}
use Rattle.wcv_counterparts.specs.IdCounterparts.{lands_on}
use Rattle.wcv_counterparts.specs.OwnResources.{read_as}
use Rattle.wcv_atoms.specs.Readings.{atoms_of, over, reads}
use Rattle.wcv_counterparts.proofs.own_resources.push_read_under.Goals as goal

pub returns-clause-joined : goal.returns-clause-joined
returns-clause-joined c = c.in_ok-push_read.ensures ∙ ap (λ f. atoms_of c.args.atoms.now.items ++ read_as f (map lands_on c.args.pairs.now)) c.in_ok-kept.ensures.entered

pub returns-clause-stays : goal.returns-clause-stays
returns-clause-stays c = c.in_ok-enter.ensures ∙ ap (λ es. over (atoms_of es) (reads c.enter_keeping.new.self)) c.deref.ensures.value ∙ c.in_ok-kept.ensures.back
