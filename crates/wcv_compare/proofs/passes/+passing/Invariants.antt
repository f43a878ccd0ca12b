use Rattle.std.proofs.Common.{◌≡◌, ℕ, ◌+◌, ◌*◌, ◌≤◌, drop}
use Rattle.std.specs.List.{list_all}
use Rattle.wcv_types.specs.Entities.{any_part, entity_tree}
use Rattle.wcv_types.specs.Unfold.{tree_at, trees}
use Rattle.wcv_types.specs.declared.ids.Part.TheVariants as p
use Rattle.wcv_matching.specs.AtomTests.{id_tests}
use Rattle.wcv_atoms.specs.IdPasses.{named_trees, pass_below, tallest}
use Rattle.wcv_matching.specs.OnePass.{found_in}
use Rattle.wcv_matching.specs.Orderly.{height}
use Rattle.wcv_compare.specs.Compared.{ArePassed}
use Rattle.wcv_atoms.specs.Extent.{entries_extent, matched_extent}
use Rattle.wcv_atoms.specs.Readings.{reads}
use Rattle.wcv_compare.proofs.passes.+passing.Given as goal

abbrev pub decreases-entries_pass_by_name : goal.decreases-entries_pass_by_name
decreases-entries_pass_by_name g l = 5 * (tallest (named_trees (trees l.types.now.nodes) l.a.now) + tallest (named_trees (trees l.types.now.nodes) l.b.now)) + 4

abbrev pub decreases-entries_pass : goal.decreases-entries_pass
decreases-entries_pass g l = 5 * (tallest (named_trees (trees l.types.now.nodes) l.a.now) + tallest (named_trees (trees l.types.now.nodes) l.b.now)) + 5

abbrev pub decreases-entity_passes : goal.decreases-entity_passes
decreases-entity_passes g l = 5 * (height (entity_tree (trees l.types.now.nodes) l.a) + height (entity_tree (trees l.types.now.nodes) l.b)) + 3

abbrev pub decreases-entity_compared : goal.decreases-entity_compared
decreases-entity_compared g l = 5 * (height (entity_tree (trees l.types.now.nodes) l.a) + height (entity_tree (trees l.types.now.nodes) l.b)) + 2

abbrev pub decreases-types_pass : goal.decreases-types_pass
decreases-types_pass g l = 5 * (height (tree_at l.types.now (any_part l.a)) + height (tree_at l.types.now (any_part l.b))) + 4

abbrev pub decreases-instances_pass : goal.decreases-instances_pass
decreases-instances_pass g l = 5 * (height (tree_at l.types.now (p.Instance l.a)) + height (tree_at l.types.now (p.Instance l.b))) + 1

abbrev pub decreases-entries_pass_under : goal.decreases-entries_pass_under
decreases-entries_pass_under g l = 5 * (tallest (named_trees (trees l.types.now.nodes) l.a.now) + tallest (named_trees (trees l.types.now.nodes) l.b.now)) + 8

abbrev pub decreases-entries_pass_in_scope : goal.decreases-entries_pass_in_scope
decreases-entries_pass_in_scope g l = 5 * (tallest (named_trees (trees l.types.now.nodes) l.a.now) + tallest (named_trees (trees l.types.now.nodes) l.b.now)) + 7

abbrev pub decreases-entries_pass_afresh : goal.decreases-entries_pass_afresh
decreases-entries_pass_afresh g l = 5 * (tallest (named_trees (trees l.types.now.nodes) l.a.now) + tallest (named_trees (trees l.types.now.nodes) l.b.now)) + 6

abbrev pub decreases-same_components : goal.decreases-same_components
decreases-same_components g l = 5 * (height (tree_at l.types.now (p.Component l.a)) + height (tree_at l.types.now (p.Component l.b)))

abbrev pub decreases-component_matches : goal.decreases-component_matches
decreases-component_matches g l = 5 * (height (tree_at l.types.now (p.Component l.a)) + height (tree_at l.types.now (p.Component l.b)))

abbrev pub decreases-components_pass : goal.decreases-components_pass
decreases-components_pass g l = 5 * (height (tree_at l.types.now (p.Component l.a)) + height (tree_at l.types.now (p.Component l.b))) + 1

-- what is left decides, and what it takes is left of the steps. Both sides are read as before, and the pairs that are kept pass
abbrev pub invariant-entries_pass_by_name-loop-k : goal.invariant-entries_pass_by_name-loop-k
invariant-entries_pass_by_name-loop-k g l = record {
  left : (d : ℕ) → tallest (named_trees (trees l.types.nodes) l.a) ≤ d → tallest (named_trees (trees l.types.nodes) l.b) ≤ d → list_all (found_in (pass_below l.exact (id_tests l.types.core) d l.level (reads l.fn.left) (reads l.fn.right)) (named_trees (trees l.types.nodes) l.a)) (named_trees (trees l.types.nodes) l.b) ≡
      list_all (found_in (pass_below l.exact (id_tests l.types.core) d l.level (reads l.fn.left) (reads l.fn.right)) (named_trees (trees l.types.nodes) l.a)) (drop l.k (named_trees (trees l.types.nodes) l.b));
  same_left : reads l.left ≡ reads l.fn.left;
  same_right : reads l.right ≡ reads l.fn.right;
  compared : ArePassed l.types (reads l.left) (reads l.right) l.compared;
  counted : l.steps + (matched_extent (named_trees (trees l.types.nodes) l.a) (drop l.k (named_trees (trees l.types.nodes) l.b)) + entries_extent (drop l.k (named_trees (trees l.types.nodes) l.b))) ≤
      l.fn.steps + (matched_extent (named_trees (trees l.types.nodes) l.a) (named_trees (trees l.types.nodes) l.b) + entries_extent (named_trees (trees l.types.nodes) l.b));
}
