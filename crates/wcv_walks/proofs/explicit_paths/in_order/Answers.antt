use Rattle.std.proofs.Common.{◌≡◌, List, [], ◌++◌, refl, sym, ◌∙◌, ap, subst, None}
use Rattle.std.specs.Prelude.{ℕ, Some, Option, slice_get, option_copied}
use Rattle.std.specs.Map.{lookup}
use Rattle.wcv_core.specs.Names.{number}
use Rattle.wcv_types.specs.Entities.{entry_trees}
use Rattle.wcv_walks.specs.ExplicitPaths.{path_to, with_path}
use Rattle.wcv_types.specs.FirstPath.{first_path}
use Rattle.wcv_types.specs.Sets.{same_resource}
use Rattle.wcv_types.specs.Unfold.{trees}
use Rattle.wcv_types.specs.declared.ids.ResourceId.{ResourceId}
use Rattle.wcv_walks.proofs.Finding.{found_first}
use Rattle.wcv_walks.proofs.Leading.{paths_next, not_before}
use Rattle.wcv_walks.proofs.explicit_paths.in_order.Goals as goal

pub loop-k-preserved : goal.loop-k-preserved
loop-k-preserved c =
    let es = entry_trees (trees c.args.types.now.nodes) c.args.entries.now in
    let r : ResourceId = c.in-Some.id.now in
    let at : slice_get c.args.ids.now c.loop-k.k ≡ Some r = sym c.get_index.ensures ∙ ap option_copied c.in-Some.is in
    let first : path_to r c.args.found.now ≡ first_path (number r.index) es =
    found_first c.args.ids.now [] (λ q. first_path (number q.index) es) [] c.args.found.now c.loop-k.k r refl refl c.requires at in
    c.in_ok-push_path-in-Some.ensures ∙ ap (λ (o : Option (List ℕ)). c.loop-k.paths ++ with_path r o) first ∙ ap (λ (ps : List (ResourceId × List ℕ)). ps ++ with_path r (first_path (number r.index) es)) c.loop-k.invariant ∙
    sym (paths_next c.args.ids.now c.loop-k.k r es at)

pub push_path-requires : goal.push_path-requires
push_path-requires c =
    let es = entry_trees (trees c.args.types.now.nodes) c.args.entries.now in
    let r : ResourceId = c.in-Some.id.now in
    let at : slice_get c.args.ids.now c.loop-k.k ≡ Some r = sym c.get_index.ensures ∙ ap option_copied c.in-Some.is in
    subst (λ (ps : List (ResourceId × List ℕ)). lookup (same_resource r) ps ≡ None) (sym c.loop-k.invariant) (not_before c.args.ids.now c.loop-k.k r es c.len-k-end.ensures.unique at)
