use Rattle.std.proofs.Common.{◌≡◌, drop}
use Rattle.wcv_types.specs.Text.{with_each}
use Rattle.wcv_types.specs.Tree.{Text}
use Rattle.wcv_types.specs.Unfold.{resource_names}
use Rattle.wcv_text.specs.Numbers.{so_far}
use Rattle.wcv_text.proofs.entry_list.number_owned.Given as goal

abbrev pub invariant-loop-k : goal.invariant-loop-k
invariant-loop-k l = (t : Text) → with_each (so_far l.numbers t) (resource_names (drop l.k l.owned)) ≡ with_each (so_far l.initial.numbers t) (resource_names l.owned)
