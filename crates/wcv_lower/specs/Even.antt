-- Types whose heights go by names: nodes of one identity are of one height, and so are owners of one resource.
use Rattle.std.specs.Prelude.{ℕ, suc, true, Some, ◌≡◌}
use Rattle.wcv_core.specs.Names.{Name}
use Rattle.wcv_types.specs.Identity.{Identity, identity_at}
use Rattle.wcv_types.specs.Resources.{owns}
use Rattle.wcv_types.specs.Tree.{Head, type_entity, Parts, none, part}
use Rattle.wcv_types.specs.Unfold.{Type_tree}
use Rattle.wcv_matching.specs.Formed.{IsFormed, Formed}
use Rattle.wcv_matching.specs.Orderly.{EachNode, AllNamesDiffer, height, heights}

-- a node of that identity, and an owner of that resource
pub record Heights : Type 0 where
  pub node_of : Identity → ℕ
  pub owner_of : Name → ℕ

abbrev pub GoesBy : Heights → Head Name Name → Parts Name Name → Type 0
GoesBy w h ps = ((i : Identity) → identity_at h ≡ Some i → suc (heights ps) ≡ w.node_of i) × ((r : Name) → owns h r ≡ true → suc (heights ps) ≡ w.owner_of r)

-- each node of the type is of the heights that go with its names; names differ in it, and it is formed
abbrev pub IsEven : Heights → Type_tree → Type 0
IsEven w t = AllNamesDiffer t × Formed t × EachNode (GoesBy w) t

-- ## What items keep of types

-- both types of a type entity are of one height
abbrev pub IsLevel : Head Name Name → Parts Name Name → Type 0
IsLevel type_entity (part k t (part l u none)) = height t ≡ height u
IsLevel h ps = Unit {0}

-- and a node is of the height that goes with each resource that it owns
abbrev pub OwnsAt : (Name → ℕ) → Head Name Name → Parts Name Name → Type 0
OwnsAt v h ps = IsLevel h ps × ((r : Name) → owns h r ≡ true → suc (heights ps) ≡ v r)

-- each node of the type is of the heights that go with what it owns
abbrev pub IsBalanced : (Name → ℕ) → Type_tree → Type 0
IsBalanced v t = EachNode (OwnsAt v) t

-- ## What an arena gives

-- a node is of the height that goes with its identity, and formed but for the heights in a type entity
abbrev pub HasHeight : (Identity → ℕ) → Head Name Name → Parts Name Name → Type 0
HasHeight n h ps = (IsLevel h ps → IsFormed h ps) × ((i : Identity) → identity_at h ≡ Some i → suc (heights ps) ≡ n i)

-- each node of the type is of the height that goes with its identity, and names differ in it: what is balanced too is even
abbrev pub IsRegular : (Identity → ℕ) → Type_tree → Type 0
IsRegular n t = AllNamesDiffer t × EachNode (HasHeight n) t
