use Rattle.std.proofs.Common.{◌∙◌, ap, map, sym}
use Rattle.wcv_counterparts.specs.IdCounterparts.{lands_on}
use Rattle.wcv_counterparts.proofs.OwnReadings.{itself_more}
use Rattle.wcv_counterparts.proofs.own_resources.themselves.Goals as goal

pub loop-k-preserved : goal.loop-k-preserved
loop-k-preserved c =
    ap (map lands_on) c.in_ok-push-in-Some.ensures.items ∙
    itself_more c.loop-k.pairs.items c.args.paths.now c.loop-k.k (c.in-Some.resource.now, c.in-Some.field-0-1.now) (sym c.in-Some.ensures) c.loop-k.invariant
