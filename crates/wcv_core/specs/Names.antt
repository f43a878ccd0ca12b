-- Names of resources, identities of nodes and stamps of resource references.
use Rattle.std.specs.Prelude.{ℕ, List, [], ◌∷◌, ◌++◌, Bool, true, false, ◌&&◌, ◌||◌, eqb}

-- a place leads from the root's items to an item or a declaration
abbrev pub Place : Type 0
Place = List ℕ

-- a name of a resource, an identity or a stamp
pub data Name : Type 0 where
  -- the n-th number that an arena gave
  number : ℕ → Name
  -- the n-th stamp that an arena gave
  stamp : ℕ → Name
  -- introduced at that place
  base : Place → Name
  -- made at that place from an older name
  at : Place → Name → Name
  -- the stamp of the reference that is made at that place
  stamped : Place → Name
  -- put aside by a renaming; it stands nowhere
  aside : Name → Name

-- two places are one
abbrev pub same_place : Place → Place → Bool
same_place [] [] = true
same_place (m ∷ p) (n ∷ q) = eqb m n && same_place p q
same_place _ _ = false

-- the k-th item or declaration of the list at that place
abbrev pub deeper : Place → ℕ → Place
deeper p k = p ++ k ∷ []

-- the first place or one inside it
abbrev pub under : Place → Place → Bool
under [] q = true
under (m ∷ p) [] = false
under (m ∷ p) (n ∷ q) = eqb m n && under p q

-- two names are one
abbrev pub same : Name → Name → Bool
same (number m) (number n) = eqb m n
same (stamp m) (stamp n) = eqb m n
same (base p) (base q) = same_place p q
same (at p a) (at q b) = same_place p q && same a b
same (stamped p) (stamped q) = same_place p q
same (aside a) (aside b) = same a b
same _ _ = false

-- whether the name stands in the list
abbrev pub member : Name → List Name → Bool
member a [] = false
member a (b ∷ bs) = same a b || member a bs
