use Rattle.std.proofs.Common.{List, map, arith, ◌∙◌, ap}
use Rattle.wcv_types.specs.Unfold.{trees}
use Rattle.wcv_atoms.specs.IdPasses.{named_trees}
use Rattle.wcv_counterparts.specs.IdCounterparts.{lands_on}
use Rattle.wcv_types.specs.declared.ids.ResourceId.{ResourceId}
use Rattle.wcv_counterparts.proofs.OwnPaths.{none_recorded}
use Rattle.wcv_counterparts.proofs.counterparts.counterparts.Goals as goal

pub returns-then-len-eq0-clause-found : goal.returns-then-len-eq0-clause-found
returns-then-len-eq0-clause-found g c =
    ap (λ (fs : List (ResourceId × ResourceId)). map lands_on fs) c.new.ensures.items ∙
    none_recorded c.args.paths.now (named_trees (trees c.args.types.now.nodes) c.args.entries.now) (named_trees (trees c.args.types.now.nodes) c.args.others.now) (omega (arith, c.len.ensures.value, c.if-len-eq0.true))
