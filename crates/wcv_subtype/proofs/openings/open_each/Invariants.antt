use Rattle.std.proofs.Common.{◌≡◌, ◌+◌, ◌*◌, ◌≤◌, drop, take}
use Rattle.std.specs.List.{list_all}
use Rattle.wcv_types.specs.Unfold.{trees}
use Rattle.wcv_matching.specs.AtomTests.{id_tests}
use Rattle.wcv_matching.specs.GivenTypes.{given_for}
use Rattle.wcv_matching.specs.OnePass.{found_in, given, match_pass}
use Rattle.wcv_compare.specs.Compared.{ArePassed}
use Rattle.wcv_atoms.specs.Extent.{entries_extent, matched_extent}
use Rattle.wcv_counterparts.specs.IdCounterparts.{AreExports}
use Rattle.wcv_atoms.specs.IdPasses.{named_trees}
use Rattle.wcv_subtype.specs.Openings.{Gives}
use Rattle.wcv_atoms.specs.Readings.{reads}
use Rattle.wcv_subtype.proofs.openings.open_each.Given as goal

-- what is left decides, and what it takes is left of the steps; what those before give was given
abbrev pub invariant-loop-k : goal.invariant-loop-k
invariant-loop-k g l = record {
  left : list_all (found_in (match_pass (id_tests l.types.core) 0 given (reads l.fn.right)) (named_trees (trees l.types.nodes) l.args)) (named_trees (trees l.types.nodes) l.imports) ≡
      list_all (found_in (match_pass (id_tests l.types.core) 0 given (reads l.fn.right)) (named_trees (trees l.types.nodes) l.args)) (drop l.k (named_trees (trees l.types.nodes) l.imports));
  right : reads l.right ≡ reads l.fn.right;
  compared : ArePassed l.types given (reads l.right) l.compared;
  seen : AreExports l.types l.seen;
  resources : l.opening.resources ≡ l.fn.opening.resources;
  gives : Gives l.types (given_for (named_trees (trees l.types.nodes) l.args) (take l.k (named_trees (trees l.types.nodes) l.imports))) l.opening;
  counted : l.steps + (matched_extent (named_trees (trees l.types.nodes) l.args) (drop l.k (named_trees (trees l.types.nodes) l.imports)) + 3 * entries_extent (drop l.k (named_trees (trees l.types.nodes) l.imports))) ≤
      l.fn.steps + (matched_extent (named_trees (trees l.types.nodes) l.args) (named_trees (trees l.types.nodes) l.imports) + 3 * entries_extent (named_trees (trees l.types.nodes) l.imports));
}
