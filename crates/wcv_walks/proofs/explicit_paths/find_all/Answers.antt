use Rattle.std.proofs.Common.{ℕ, List, [], subst}
use Rattle.std.proofs.lemmas.Result.{on_ok_weaker}
use Rattle.wcv_core.specs.Names.{number}
use Rattle.wcv_types.specs.Entities.{entry_trees}
use Rattle.wcv_walks.specs.ExplicitPaths.{Finds}
use Rattle.wcv_types.specs.FirstPath.{first_path}
use Rattle.wcv_types.specs.Unfold.{trees}
use Rattle.wcv_types.specs.declared.ids.ResourceId.{ResourceId}
use Rattle.wcv_walks.proofs.explicit_paths.find_all.Goals as goal

pub returns : goal.returns
returns c =
    let first = λ (r : ResourceId). first_path (number r.index) (entry_trees (trees c.args.types.now.nodes) c.args.entries.now) in
    on_ok_weaker c.find_among.result
    (λ f. subst (λ (ps : List (ResourceId × List ℕ)). Finds c.args.ids.now [] first ps c.find_among.new.found) c.requires.none
    (subst (λ (way : List ℕ). Finds c.args.ids.now way first c.args.found.now c.find_among.new.found) c.new-path.ensures.items f))
    c.find_among.ensures.found
