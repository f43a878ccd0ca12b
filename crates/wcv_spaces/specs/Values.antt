-- Marks of use, as a state keeps them.
use Rattle.std.specs.Prelude.{ℕ, suc, List, [], ◌∷◌, ◌++◌, Bool, false, ◌||◌, cond, Option, Some, None, slice_get}
use Rattle.std.specs.Option.{option_map, unwrap_or}
use Rattle.wcv_core.specs.declared.error.ErrorKind.TheVariants as error
use Rattle.wcv_types.specs.declared.shapes.ComponentValType.{ComponentValType}
use Rattle.wcv_core.specs.Checks.{all_checks}
use Rattle.wcv_lower.specs.Checks.{Checks, missing}
use Rattle.wcv_spaces.specs.Contents.{used_at}

-- values with their marks
abbrev pub Values : Type 0
Values = List (ComponentValType × Bool)

-- the mark at the index, if a value stands there
abbrev pub is_used_in : Values → ℕ → Bool
is_used_in vs k = unwrap_or (option_map (λ v. v.1) (slice_get vs k)) false

-- one of the values at these indices is used when its turn comes: before, or by an index further left
abbrev pub is_used_again_in : List ℕ → Values → Bool
is_used_again_in [] vs = false
is_used_again_in (k ∷ ks) vs = is_used_in vs k || is_used_again_in ks (used_at (k ∷ []) vs)

-- one of these values is used a second time
abbrev pub use_id_checks : Values → List ℕ → Checks
use_id_checks vs ks = (error.Value, is_used_again_in ks vs) ∷ []

-- one of these values does not stand, or is used a second time
abbrev pub uses_id_checks : Values → List ℕ → Checks
uses_id_checks vs ks = all_checks (λ k. missing (slice_get vs k)) ks ++ use_id_checks vs ks

-- nothing stands at the index, or a value that is used
abbrev pub value_at_checks : Values → ℕ → Checks
value_at_checks vs k = uses_id_checks vs (k ∷ [])

-- the first value from position n on that is not used
abbrev pub first_unused : ℕ → Values → Option ℕ
first_unused n [] = None
first_unused n (v ∷ vs) = cond v.1 (first_unused (suc n) vs) (Some n)
