-- The size and the depth that a type is kept with are past a limit exactly where those of its tree are.
use Rattle.std.proofs.Common.{◌≡◌, ◌<◌, ℕ, ◌++◌, min, ◌∙◌, ap, arith}
use Rattle.std.specs.Prelude.{nat_lt, [], ◌∷◌}
use Rattle.std.proofs.lemmas.Bool.Decides.{nat_tests}
use Rattle.wcv_core.specs.declared.error.ErrorKind.TheVariants as kind
use Rattle.wcv_core.specs.Limits.{max_depth, max_size}
use Rattle.wcv_types.specs.Measure.{size, depth}
use Rattle.wcv_types.specs.Unfold.{Type_tree, IsInfoOf}
use Rattle.wcv_types.specs.declared.info.TypeInfo.{TypeInfo}
use Rattle.wcv_lower.specs.Checks.{too_many}
use Rattle.wcv_instances.specs.ComponentInstances.{size_checks}

capped_over : (l n k : ℕ) → l < k → nat_lt l (min n k) ≡ nat_lt l n
capped_over l n k h = grind (arith, nat_tests)

pub same_checks : (i : TypeInfo) (t : Type_tree) → IsInfoOf i t → too_many max_size i.size ++ too_many max_depth i.depth ≡ size_checks t
same_checks i t w =
    let a : nat_lt max_size i.size ≡ nat_lt max_size (size t) = ap (nat_lt max_size) w.size ∙ capped_over max_size (size t) 4294967295 (omega arith) in
    let b : nat_lt max_depth i.depth ≡ nat_lt max_depth (depth t) = ap (nat_lt max_depth) w.depth ∙ capped_over max_depth (depth t) 4294967295 (omega arith) in
    λ j. (kind.Limit, a j) ∷ ((kind.Limit, b j) ∷ [])
