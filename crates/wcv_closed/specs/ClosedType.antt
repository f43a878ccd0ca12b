-- Core types in closed form: the same type has one closed form, whichever table names it.
use Rattle.std.specs.Prelude.{ℕ, zero, suc, List, [], ◌∷◌, ◌++◌, length, map, get_or, Option, Some, None}
use Rattle.std.specs.List.{range_with_len}
use Rattle.wcv_core.specs.CoreForm.{Group}
use Rattle.wcv_core.specs.CoreIds.{ids_in_group}
use Rattle.wcv_closed.specs.NumberedIds.{numbered_from}

mutual
  -- a group, the types of other groups that it names, in order, and the position of the type in the group.
  -- In the group an index stands for an own type, and the id n for the n-th of those types, counted from 0
  pub data Closed : Type 0 where
    closed_type : Group → Closeds → ℕ → Closed

  pub data Closeds : Type 0 where
    none : Closeds
    and_then : Closed → Closeds → Closeds

-- the n-th of them, counted from 0
abbrev pub nth : Closeds → ℕ → Option Closed
nth none n = None
nth (and_then c cs) zero = Some c
nth (and_then c cs) (suc n) = nth cs n

-- ## Unfolding of a table

-- what an id unfolds to that is not in the table
abbrev pub no_closed : Closed
no_closed = closed_type [] none 0

-- the types with these ids, where cs are all types by their ids
abbrev pub named : List Closed → List ℕ → Closeds
named cs [] = none
named cs (i ∷ is) = and_then (get_or cs i no_closed) (named cs is)

-- the type at a position of a group
abbrev pub closed_in : List Closed → Group → ℕ → Closed
closed_in cs g k = closed_type (numbered_from 0 g) (named cs (ids_in_group g)) k

abbrev pub types_in : List Closed → Group → List Closed
types_in cs g = map (closed_in cs g) (range_with_len 0 (length g))

-- all types, once groups come behind those that gave cs
abbrev pub closed_after : List Closed → List Group → List Closed
closed_after cs [] = cs
closed_after cs (g ∷ gs) = closed_after (cs ++ types_in cs g) gs

-- the closed forms of all types of a table, by their ids
abbrev pub all_closed : List Group → List Closed
all_closed gs = closed_after [] gs

-- the closed form of the type with this id
unfoldable pub closed : List Group → ℕ → Closed
closed gs i = get_or (all_closed gs) i no_closed

-- the closed form of the type at a position of a group that names types of the table
unfoldable pub closed_at : List Group → Group → ℕ → Closed
closed_at gs g k = closed_in (all_closed gs) g k
