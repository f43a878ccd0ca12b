-- Names that the code gives: numbers that stood nowhere before.
use Rattle.std.specs.Prelude.{ℕ, suc, ◌≤◌, ◌<◌, List, [], ◌∷◌, ◌++◌, Bool, false, ◌||◌, cond, Option, Some, None, ◌≡◌}
use Rattle.wcv_core.specs.Names.{Name, Place, number, stamp, base, at, stamped, aside, same}
use Rattle.wcv_lower.specs.Names.{Origin, introduced, again, stamp_at, place_of, same_origin, by_place, Names}

-- ## Names that are given

-- the names that some origins are given
abbrev pub Given : Type 0
Given = List (Origin × Name)

-- the name that the origin is given, if it is
abbrev pub find : Given → Origin → Option Name
find [] o = None
find (g ∷ gs) o = cond (same_origin o g.0) (Some g.1) (find gs o)

abbrev pub or_by_place : Origin → Option Name → Name
or_by_place o None = by_place o
or_by_place o (Some x) = x

-- the name of an origin: the given one, or the one by place
abbrev pub named : Given → Origin → Name
named gs o = or_by_place o (find gs o)

-- those of resources, and those of nodes and references
pub record GivenNames : Type 0 where
  pub resources : Given
  pub identities : Given

abbrev pub names_of : GivenNames → Names
names_of n = record { resource = named n.resources; identity = named n.identities }

abbrev pub none_given : GivenNames
none_given = record { resources = []; identities = [] }

-- those of two calls
abbrev pub both_given : GivenNames → GivenNames → GivenNames
both_given n m = record { resources = n.resources ++ m.resources; identities = n.identities ++ m.identities }

-- ## New names

-- how many resources, nodes and stamps an arena has given
pub record Numbers : Type 0 where
  pub resources : ℕ
  pub nodes : ℕ
  pub stamps : ℕ

abbrev pub no_numbers : Numbers
no_numbers = record { resources = 0; nodes = 0; stamps = 0 }

-- none of them fell
pub record AtMost (a b : Numbers) : Type 0 where
  pub resources : a.resources ≤ b.resources
  pub nodes : a.nodes ≤ b.nodes
  pub stamps : a.stamps ≤ b.stamps

-- a resource that was given from the first numbers to the second
abbrev pub IsNewResource : Numbers → Numbers → Name → Type 0
IsNewResource a b (number k) = (a.resources ≤ k) × (k < b.resources)
IsNewResource a b x = ⊥

-- a node or a reference that was given from the first numbers to the second
abbrev pub IsNewIdentity : Numbers → Numbers → Name → Type 0
IsNewIdentity a b (number k) = (a.nodes ≤ k) × (k < b.nodes)
IsNewIdentity a b (stamp k) = (a.stamps ≤ k) × (k < b.stamps)
IsNewIdentity a b x = ⊥

-- what is made again is younger than what it is made from
abbrev pub age : Name → ℕ
age (number k) = k
age (stamp k) = k
age (base p) = 0
age (at p x) = suc (age x)
age (stamped p) = 0
age (aside x) = 0

abbrev pub IsYounger : Origin → Name → Type 0
IsYounger (introduced p) x = Unit {0}
IsYounger (again p y) x = age y < age x
IsYounger (stamp_at p) x = Unit {0}

-- the origin is given a name
abbrev pub has_origin : Origin → Given → Bool
has_origin o [] = false
has_origin o (g ∷ gs) = same_origin o g.0 || has_origin o gs

-- the name is given
abbrev pub has_name : Name → Given → Bool
has_name x [] = false
has_name x (g ∷ gs) = same x g.1 || has_name x gs

-- each of the names is new and is given at one of those places, and none is given twice
abbrev pub AreGiven : (Name → Type 0) → (Place → Type 0) → Given → Type 0
AreGiven New In [] = Unit {0}
AreGiven New In (g ∷ gs) = New g.1 × In (place_of g.0) × IsYounger g.0 g.1 × (has_origin g.0 gs ≡ false) × (has_name g.1 gs ≡ false) × AreGiven New In gs

-- names are given at those places, from the first numbers to the second
pub record GivesAt (In : Place → Type 0) (a b : Numbers) (n : GivenNames) : Type 0 where
  pub resources : AreGiven (IsNewResource a b) In n.resources
  pub identities : AreGiven (IsNewIdentity a b) In n.identities
