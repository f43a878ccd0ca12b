-- The names that an arena gave.
use Rattle.std.specs.Prelude.{◌<◌, length}
use Rattle.wcv_core.specs.Names.{Name, number, stamp}
use Rattle.wcv_types.specs.Arena.{Arena}
use Rattle.wcv_types.specs.Rename.{EachName}
pub use Rattle.wcv_types.specs.Standing.{GaveResource}
use Rattle.wcv_types.specs.Standing.{Stands}
use Rattle.wcv_types.specs.Unfold.{Type_tree, tree_at}
use Rattle.wcv_types.specs.declared.ids.Part.{Part}

-- to a node, or as a stamp
abbrev pub GaveIdentity : Arena → Name → Type 0
GaveIdentity a (number k) = k < length a.nodes
GaveIdentity a (stamp k) = k < a.stamps
GaveIdentity a _ = ⊥

-- all names of the tree are of these
abbrev pub NamesGiven : Arena → Type_tree → Type 0
NamesGiven a t = EachName (GaveResource a) (GaveIdentity a) t

-- so of each type that stands: names that are given later stand nowhere yet
abbrev pub AllNamesGiven : Arena → Type 0
AllNamesGiven a = (q : Part) → Stands a q → NamesGiven a (tree_at a q)
