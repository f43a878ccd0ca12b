-- Marks of use: each value is used once, by an export, as an argument, as an item that an instance lists, or by a start function.
use Rattle.std.specs.Prelude.{ℕ, List, [], ◌∷◌, ◌++◌, map, Bool, true, false, not, ◌||◌, Option, slice_get}
use Rattle.std.specs.List.{list_all}
use Rattle.std.specs.Option.{option_map, unwrap_or}
use Rattle.wcv_core.specs.declared.error.ErrorKind.TheVariants as error
use Rattle.wcv_syntax.specs.declared.instance.ComponentExternalKind.{ComponentExternalKind}
use Rattle.wcv_syntax.specs.declared.instance.ComponentExternalKind.TheVariants as kind
use Rattle.wcv_lower.specs.Checks.{Checks}
use Rattle.wcv_lower.specs.Context.{Context, in_values}
use Rattle.wcv_lower.specs.Readers.{Reader}
use Rattle.wcv_lower.specs.Step.{Step, uses_value, change_at}

abbrev pub value_at : {X : Reader} → Context X → ℕ → Option X.Entry
value_at c k = slice_get (c.space in_values) k

-- the value that an item of that sort at the index is, if it is one
abbrev pub value_index : ComponentExternalKind → ℕ → List ℕ
value_index kind.Value k = k ∷ []
value_index w k = []

-- each of these values is used
abbrev pub uses_each : {X : Reader} → List ℕ → Step X
uses_each ks = map uses_value ks

-- it uses these values first
abbrev pub using : {X : Reader} → List ℕ → Option (Step X) → Option (Step X)
using ks o = option_map (λ p. uses_each ks ++ p) o

-- the marks, where these values are used from here on
abbrev pub marked : List ℕ → List Bool → List Bool
marked [] bs = bs
marked (k ∷ ks) bs = marked ks (change_at k (λ b. true) bs)

abbrev pub use_all : {X : Reader} → List ℕ → Context X → Context X
use_all ks c = record c { used = marked ks c.used }

-- one of the values at these indices is used when its turn comes: before, or by an index further left
abbrev pub is_used_again : List ℕ → List Bool → Bool
is_used_again [] bs = false
is_used_again (k ∷ ks) bs = unwrap_or (slice_get bs k) false || is_used_again ks (change_at k (λ b. true) bs)

-- one of these values is used a second time
abbrev pub use_checks : {X : Reader} → Context X → List ℕ → Checks
use_checks c ks = (error.Value, is_used_again ks c.used) ∷ []

-- some value is not used
abbrev pub unused_checks : {X : Reader} → Context X → Checks
unused_checks c = (error.Value, not (list_all (λ b. b) c.used)) ∷ []
