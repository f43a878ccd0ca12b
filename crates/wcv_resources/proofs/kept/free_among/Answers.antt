use Rattle.std.proofs.Common.{List, subst}
use Rattle.wcv_types.specs.Entities.{entry_trees}
use Rattle.wcv_types.specs.Gathering.{Gains, FreeAmong}
use Rattle.wcv_types.specs.Unfold.{trees}
use Rattle.wcv_types.specs.declared.ids.ResourceId.{ResourceId}
use Rattle.wcv_lower.specs.Trees.{Entries}
use Rattle.wcv_resources.proofs.FreeAmong.{gathered_free}
use Rattle.wcv_resources.proofs.kept.free_among.Goals as goal

pub returns : goal.returns
returns c = λ q.
    let es : Entries = entry_trees (trees c.args.types.now.nodes) c.args.items.now in
    gathered_free es c.free_variables_items.new.free q (subst (λ (rs : List ResourceId). Gains (FreeAmong es) rs c.free_variables_items.new.free) c.new-free.ensures c.in_ok-free_variables_items.ensures.ok)
