use Rattle.wcv_counterparts.proofs.Exporting.{no_maps}
use Rattle.wcv_counterparts.proofs.counterparts.counterparts_in.Goals as goal

pub push_counterparts-done-requires-clause-seen : goal.push_counterparts-done-requires-clause-seen
push_counterparts-done-requires-clause-seen g c = no_maps c.args.types.now c.new-seen.result.maps c.new-seen.ensures

pub push_counterparts-done-requires-clause-none : goal.push_counterparts-done-requires-clause-none
push_counterparts-done-requires-clause-none g c = c.new-found.ensures.items
