use Rattle.std.proofs.Common.{◌≡◌, drop, map}
use Rattle.wcv_types.specs.Text.{with_paths}
use Rattle.wcv_types.specs.Tree.{Text}
use Rattle.wcv_types.specs.Unfold.{resource_path}
use Rattle.wcv_text.specs.Numbers.{so_far}
use Rattle.wcv_text.proofs.entry_list.number_paths.Given as goal

abbrev pub invariant-loop-k : goal.invariant-loop-k
invariant-loop-k l = (t : Text) → with_paths (so_far l.numbers t) (map resource_path (drop l.k l.paths)) ≡ with_paths (so_far l.initial.numbers t) (map resource_path l.paths)
