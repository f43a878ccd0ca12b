-- The parts of a node from slots.
use Rattle.std.proofs.Common.{◌≡◌, List, [], ◌∷◌, refl, ap}
use Rattle.wcv_types.specs.Tree.{part}
use Rattle.wcv_types.specs.Unfold.{Type_tree, Slots, slot_tree, slot_parts}
use Rattle.wcv_lower.specs.Mapped.{map_parts}
use Rattle.wcv_lower.specs.Trees.{tree_parts}

pub slot_parts_are : (ts : List Type_tree) (ss : Slots) → tree_parts (map_parts (slot_tree ts) ss) ≡ slot_parts ts ss
slot_parts_are ts [] = refl
slot_parts_are ts (s ∷ ss) = ap (part s.0 (slot_tree ts s.1)) (slot_parts_are ts ss)
