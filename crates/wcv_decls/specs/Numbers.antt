-- Numbers of labels, by which they are told apart.
use Rattle.std.specs.Prelude.{ℕ, suc, List, slice_index_or, length, ◌<◌}
use Rattle.wcv_core.specs.Label.{lower_case}
use Rattle.wcv_core.specs.LabelSet.{mixed}
use Rattle.wcv_types.specs.Tree.{Text}

-- labels that differ at most in case have one number
abbrev pub number_of : Text → ℕ
number_of t = mixed (lower_case t)

-- each number is greater than the one before it
abbrev pub Ascend : List ℕ → Type 0
Ascend ns = (k : ℕ) → suc k < length ns → slice_index_or ns k 0 < slice_index_or ns (suc k) 0
