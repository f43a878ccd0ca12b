use Rattle.std.proofs.Common.{◌∙◌, ap, arith, cond}
use Rattle.wcv_matching.specs.OnePass.{made_in, owned_in}
use Rattle.wcv_atoms.specs.Readings.{atoms_of}
use Rattle.wcv_counterparts.proofs.OwnReadings.{made_as, owned_as, read_more}
use Rattle.wcv_counterparts.proofs.own_resources.push_own.Goals as goal
use Rattle.wcv_counterparts.proofs.own_resources.push_own.Goals.{then-made, else-made}

pub loop-pair-preserved : goal.loop-pair-preserved
loop-pair-preserved c =
    ap (λ es. atoms_of es) c.in_ok-push.ensures.items ∙
    read_more (cond c.args.made (made_in c.args.level) (owned_in c.args.level)) c.args.atoms.now.items c.loop-pair.atoms.items c.args.pairs.now c.loop-pair.pair-index _ c.if-made.atom (omega arith)
    (elim c.if-made.branch [
      | then-made w ↦ made_as c.args.made c.args.level c.if-made.atom _ w.if-made.true w.atom-is
      | else-made w ↦ owned_as c.args.made c.args.level c.if-made.atom _ w.if-made.false w.atom-is
    ]) c.loop-pair.invariant
