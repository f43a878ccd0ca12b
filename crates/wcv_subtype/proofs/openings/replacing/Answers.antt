use Rattle.std.proofs.Common.{get_or, ◌∙◌, ap}
use Rattle.wcv_types.specs.declared.ids.ResourceId.{ResourceId}
use Rattle.wcv_remap.specs.Map.{Map, resource_to}
use Rattle.wcv_counterparts.proofs.OwnPaths.{absent_before}
use Rattle.wcv_subtype.proofs.openings.replacing.Goals as goal

pub push_resource-requires : goal.push_resource-requires
push_resource-requires c =
    let first : ResourceId = record { index = 0 } in
    ap (λ (m : Map). resource_to m (get_or c.args.found.now c.loop-k.k (first, first)).0) c.loop-k.invariant ∙ absent_before c.args.found.now c.loop-k.k (first, first) c.requires c.loop-k-test.true
