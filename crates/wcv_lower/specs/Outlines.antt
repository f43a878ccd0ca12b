-- Types without the names of resources and nodes, and what canonical functions read of one.
use Rattle.std.specs.Prelude.{Bool, true, false, ◌||◌}
use Rattle.wcv_types.specs.Rename.{rename, no_identity}
use Rattle.wcv_types.specs.Tree.{Head, defined, func, stream_of, future_of, Tree, node, Parts, none, part, head, is_value, sort}
use Rattle.wcv_flat.specs.Rows.{Carrier_sort, of_stream, of_future}
use Rattle.wcv_lower.specs.Checks.{same_sort}

abbrev pub Outline : Type 0
Outline = Tree (Unit {0}) (Unit {0})

-- the type without its names
abbrev pub outline : {R I : Type 0} → Tree R I → Outline
outline t = rename no_identity no_identity t

-- ## What is read

-- a function that is async
abbrev pub is_async_at : {R I : Type 0} → Head R I → Bool
is_async_at (func i async) = async
is_async_at h = false

abbrev pub is_async_func : Outline → Bool
is_async_func t = is_async_at (head t)

abbrev pub is_stream : Outline → Bool
is_stream (node (defined i stream_of) ps) = true
is_stream t = false

abbrev pub is_future : Outline → Bool
is_future (node (defined i future_of) ps) = true
is_future t = false

-- what a stream, or a future, carries; nothing where the type is no such one
abbrev pub carried : Outline → Carrier_sort → Parts (Unit {0}) (Unit {0})
carried (node (defined i stream_of) ps) of_stream = ps
carried (node (defined i future_of) ps) of_future = ps
carried t k = none

-- it is not left out
abbrev pub has_value : {R I : Type 0} → Parts R I → Bool
has_value none = false
has_value (part r t ps) = same_sort is_value (sort t) || has_value ps
