-- The room for one more entity.
use Rattle.std.proofs.Common.{◌≡◌, ℕ, ◌≤◌, ◌<◌, [], ◌∷◌, length, get_or, refl, sym, ◌∙◌, ap, arith, min}
use Rattle.std.proofs.lemmas.List.Elements.{All-weaker}
use Rattle.std.specs.Prelude.{All, nat_le}
use Rattle.std.proofs.lemmas.Bool.Decides.{nat_tests}
use Rattle.wcv_core.specs.declared.error.ErrorKind.TheVariants as kind
use Rattle.wcv_types.specs.Arena.{Arena}
use Rattle.wcv_types.specs.Standing.{Stands, StandsBefore}
use Rattle.wcv_types.specs.Tree.{Text, here, sort}
use Rattle.wcv_types.specs.Unfold.{trees, parts_of, option_slot, value_slot}
use Rattle.wcv_types.specs.declared.arena.Node.TheVariants as n
use Rattle.wcv_types.specs.declared.shapes.ComponentEntityType.{ComponentEntityType}
use Rattle.wcv_types.specs.declared.shapes.ComponentEntityType.TheVariants as entity
use Rattle.wcv_types.specs.declared.shapes.ComponentFuncType.{ComponentFuncType}
use Rattle.wcv_types.specs.declared.shapes.ComponentValType.{ComponentValType}
use Rattle.wcv_types.proofs.Knowing.{given_stands}
use Rattle.wcv_lower.specs.Checks.{full, no_room}
use Rattle.wcv_types.specs.Entities.{entity_tree, SlotStands, EntityStands}
use Rattle.wcv_spaces.specs.Contents.{SpaceLists}
use Rattle.wcv_spaces.specs.Looking.{entity_count, entity_limit, entity_sort}
use Rattle.wcv_spaces.specs.Entering.{room_counts}
use Rattle.wcv_spaces.proofs.Brought.{entity_sorted}

-- a count that ends at a greater number is as good
capped : (m n k : ℕ) → m ≤ k → nat_le m (min n k) ≡ nat_le m n
capped m n k h = grind (arith, nat_tests)

limit_small : (x : ComponentEntityType) → entity_limit x ≤ 18446744073709551615
limit_small (entity.Module i) = omega arith
limit_small (entity.Func i) = omega arith
limit_small (entity.Value v) = omega arith
limit_small (entity.Ty c r) = omega arith
limit_small (entity.Instance i) = omega arith
limit_small (entity.Component i) = omega arith

-- the count and the limit are those that the sort of the entity tells
pub room_same : (a : Arena) (s : SpaceLists) (x : ComponentEntityType) (l n : ℕ) → EntityStands a x → l ≡ entity_limit x → n ≡ min (entity_count s x) 18446744073709551615 → full l n ≡ no_room (room_counts s) (sort (entity_tree (trees a.nodes) x))
room_same a s x l n h f c =
    let k : nat_le l n ≡ nat_le (entity_limit x) (entity_count s x) = (λ j. nat_le (f j) (c j)) ∙ capped (entity_limit x) (entity_count s x) 18446744073709551615 (limit_small x) in
    (λ j. (kind.Limit, k j) ∷ []) ∙ go x ∙ sym (ap (no_room (room_counts s)) (entity_sorted a x h))
  where
    go : (x : ComponentEntityType) → full (entity_limit x) (entity_count s x) ≡ no_room (room_counts s) (entity_sort x)
    go (entity.Func i) = refl
    go (entity.Module i) = refl
    go (entity.Value v) = refl
    go (entity.Ty c r) = refl
    go (entity.Instance i) = refl
    go (entity.Component i) = refl

-- the type of a parameter stands where the function type does
pub param_stands : (a : Arena) (bound : ℕ) (s : ComponentFuncType) (k : ℕ) (f : Text × ComponentValType) → All (StandsBefore a bound) (parts_of (n.Func s)) → k < length s.params.items → f ≡ get_or s.params.items k f → SlotStands a (value_slot f.1)
param_stands a bound s k f h w e = given_stands a s.params.items (here, option_slot s.result) k f (All-weaker (StandsBefore a bound) (Stands a) (λ q t. t.stands) (parts_of (n.Func s)) h) w e
