use Rattle.std.proofs.Common.{◌≡◌, drop, bytes_eq}
use Rattle.std.specs.Cmp.Lexicographic.{pointwise}
use Rattle.wcv_values.proofs.values.same_texts.Given as goal

-- what is left decides
abbrev pub invariant-loop-k : goal.invariant-loop-k
invariant-loop-k l = pointwise bytes_eq l.a l.b ≡ pointwise bytes_eq (drop l.k l.a) (drop l.k l.b)
