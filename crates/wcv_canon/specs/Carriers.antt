-- Streams, futures and what they carry, by ids.
use Rattle.std.specs.Prelude.{ℕ, Bool, true, false, not, is_some, Option, None, ◌≡◌}
use Rattle.wcv_types.specs.Abi.{pointer, contains, any_contains}
use Rattle.wcv_types.specs.Arena.{Arena}
use Rattle.wcv_types.specs.Entities.{SlotStands}
use Rattle.wcv_types.specs.Unfold.{option_slot, slot_tree, trees}
use Rattle.wcv_types.specs.declared.shapes.ComponentDefinedType.{ComponentDefinedType}
use Rattle.wcv_types.specs.declared.shapes.ComponentDefinedType.TheVariants as d
use Rattle.wcv_types.specs.declared.shapes.ComponentValType.{ComponentValType}
use Rattle.wcv_flat.specs.Rows.{Carrier_sort, of_stream, of_future}
use Rattle.wcv_lower.specs.Checks.{is_none}
use Rattle.wcv_lower.specs.CoreInstances.{test_found}
use Rattle.wcv_lower.specs.Outlines.{Outline, outline, is_stream, is_future, carried, has_value}
use Rattle.wcv_lower.specs.Trees.{Type_tree, Tree_context}
use Rattle.wcv_lower.specs.Values.{type_at}
use Rattle.wcv_canon.specs.declared.ask_types.Carrier.{Carrier}
use Rattle.wcv_canon.specs.declared.ask_types.Carrier.TheVariants as carrier

abbrev pub carrier_of : ComponentDefinedType → Carrier
carrier_of (d.Stream o) = carrier.Stream o
carrier_of (d.Future o) = carrier.Future o
carrier_of x = carrier.Other

abbrev pub is_of_stream : Carrier → Bool
is_of_stream (carrier.Stream o) = true
is_of_stream x = false

abbrev pub is_of_future : Carrier → Bool
is_of_future (carrier.Future o) = true
is_of_future x = false

-- what it carries, where it is a stream, or a future
abbrev pub value_of : Carrier → Carrier_sort → Option ComponentValType
value_of (carrier.Stream o) of_stream = o
value_of (carrier.Future o) of_future = o
value_of x k = None

-- the test holds of the outline of the type at the index
abbrev pub tested_at : Tree_context → ℕ → (Outline → Bool) → Bool
tested_at c k test = test_found (λ (t : Type_tree). test (outline t)) (type_at c k)

-- the value type is what the stream, or the future, at the index carries, if one stands there and carries something
pub record IsPayload (a : Arena) (c : Tree_context) (k : ℕ) (sort : Carrier_sort) (o : Option ComponentValType) : Type 0 where
  pub value : tested_at c k (λ t. has_value (carried t sort)) ≡ is_some o
  pub points : tested_at c k (λ t. any_contains pointer (carried t sort)) ≡ contains pointer (slot_tree (trees a.nodes) (option_slot o))
  pub stands : SlotStands a (option_slot o)

-- the tree is of that stream or future, or of neither
pub record Shows (a : Arena) (t : Type_tree) (x : Carrier) : Type 0 where
  pub stream : not (is_stream (outline t)) ≡ not (is_of_stream x)
  pub future : not (is_future (outline t)) ≡ not (is_of_future x)
  pub value : (k : Carrier_sort) → has_value (carried (outline t) k) ≡ is_some (value_of x k)
  pub points : (k : Carrier_sort) → any_contains pointer (carried (outline t) k) ≡ contains pointer (slot_tree (trees a.nodes) (option_slot (value_of x k)))
  pub stands : (k : Carrier_sort) → SlotStands a (option_slot (value_of x k))

-- the type at the index is that
pub record Carries (a : Arena) (c : Tree_context) (k : ℕ) (x : Carrier) : Type 0 where
  pub there : is_none (type_at c k) ≡ false
  pub stream : tested_at c k (λ t. not (is_stream t)) ≡ not (is_of_stream x)
  pub future : tested_at c k (λ t. not (is_future t)) ≡ not (is_of_future x)
  pub payload : (sort : Carrier_sort) → IsPayload a c k sort (value_of x sort)
