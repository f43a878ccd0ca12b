use Rattle.std.proofs.Common.{ℕ, suc, ◌<◌, slice_index_or}
use Rattle.wcv_decls.proofs.alike.ascend.Given as goal

-- those before the k-th ascend
abbrev pub invariant-loop-k : goal.invariant-loop-k
invariant-loop-k l = (j : ℕ) → suc j < l.k → slice_index_or l.numbers j 0 < slice_index_or l.numbers (suc j) 0
