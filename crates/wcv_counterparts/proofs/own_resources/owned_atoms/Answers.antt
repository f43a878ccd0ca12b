use Rattle.std.proofs.Common.{sym, ap, ◌∙◌}
use Rattle.wcv_atoms.specs.Readings.{atoms_of}
use Rattle.wcv_atoms.proofs.AtomLists.{owned_more}
use Rattle.wcv_counterparts.proofs.own_resources.owned_atoms.Goals as goal

pub loop-k-preserved : goal.loop-k-preserved
loop-k-preserved c = ap (λ es. atoms_of es) c.in_ok-push-in-Some.ensures.items ∙ owned_more c.args.level c.loop-k.atoms.items c.args.owned.now c.loop-k.k c.in-Some.resource.now (sym c.in-Some.ensures) c.loop-k.invariant
