-- What is kept apart in a box, where there is any.
use Rattle.std.specs.Prelude.{List, [], Option, Some, None}
use Rattle.std.specs.Global.{Box}
use Rattle.std.specs.HashSet.{HashSet}

-- the list in the box
abbrev pub in_box : {X : Type 0} → Option (Box (List X)) → List X
in_box None = []
in_box (Some b) = b.value

-- the keys of the set in the box
abbrev pub keys_in_box : {T S : Type 0} → Option (Box (HashSet T S)) → List T
keys_in_box None = []
keys_in_box (Some b) = b.value.keys
