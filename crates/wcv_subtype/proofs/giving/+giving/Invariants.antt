use Rattle.std.proofs.Common.{◌≡◌, ◌+◌, ◌*◌, ◌≤◌, List, ◌++◌, drop, take}
use Rattle.wcv_types.specs.Entities.{entity_tree}
use Rattle.wcv_types.specs.Identity.{Identity}
use Rattle.wcv_types.specs.Unfold.{tree_at, trees, Type_tree}
use Rattle.wcv_types.specs.declared.ids.Part.TheVariants as p
use Rattle.wcv_matching.specs.GivenTypes.{given_for}
use Rattle.wcv_matching.specs.Matching.{named_exports}
use Rattle.wcv_matching.specs.Orderly.{height}
use Rattle.wcv_atoms.specs.Extent.{entries_extent}
use Rattle.wcv_counterparts.specs.IdCounterparts.{AreExports}
use Rattle.wcv_atoms.specs.IdPasses.{named_trees}
use Rattle.wcv_subtype.specs.Openings.{Gives}
use Rattle.wcv_subtype.proofs.giving.+giving.Given as goal

abbrev pub decreases-give : goal.decreases-give
decreases-give g l = 3 * height (entity_tree (trees l.types.now.nodes) l.import) + 1

abbrev pub decreases-give_exports : goal.decreases-give_exports
decreases-give_exports g l = 3 * height (tree_at l.types.now (p.Instance l.import))

abbrev pub decreases-give_export : goal.decreases-give_export
decreases-give_export g l = 3 * height (entity_tree (trees l.types.now.nodes) l.export.now.1.ty) + 2

-- what the exports before give was given, and what the others take is left of the steps
abbrev pub invariant-give_exports-loop-k : goal.invariant-give_exports-loop-k
invariant-give_exports-loop-k g l = record {
  seen : AreExports l.types l.seen;
  resources : l.map.resources ≡ l.fn.map.resources;
  given : (given : List (Identity × Type_tree)) → Gives l.types given l.fn.map → Gives l.types (given ++ given_for (named_exports (entity_tree (trees l.types.nodes) l.argument)) (take l.k (named_trees (trees l.types.nodes) l.exports))) l.map;
  counted : l.steps + 2 * entries_extent (drop l.k (named_trees (trees l.types.nodes) l.exports)) ≤ l.fn.steps + (1 + 2 * entries_extent (named_trees (trees l.types.nodes) l.exports));
}
