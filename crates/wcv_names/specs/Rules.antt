-- What a function looks like that a name speaks of: constructors, methods, static functions, getters and setters.
use Rattle.std.specs.Prelude.{List, [], ◌∷◌, map, Bool, true, false, not, ◌&&◌, Option, Some, None, bytes_eq, codes}
use Rattle.std.specs.Map.{lookup}
use Rattle.wcv_core.specs.Names.{Name}
use Rattle.wcv_core.specs.Label.{is_among}
use Rattle.wcv_syntax.specs.ExternName.{Access, call, get, set, Form, item, constructor, method, static, interface, access_of, getter_of, spelled}
use Rattle.wcv_types.specs.Tree.{Text, Extern_name, nothing, defined, func, own_of, borrow_of, result_of, label, node, Parts, none, part, first_part}
use Rattle.wcv_types.specs.Unfold.{Type_tree, left_out}
use Rattle.wcv_names.specs.ResourceNames.{Resource_names, is_named_so}
use Rattle.wcv_types.specs.SameSeen.{alike}

-- ## Types of values

-- a handle that owns, or one that borrows, what has that name
abbrev pub is_own : Resource_names → Text → Type_tree → Bool
is_own ns r (node (defined i own_of) ps) = is_named_so ns r (first_part ps)
is_own ns r t = false

abbrev pub is_borrow : Resource_names → Text → Type_tree → Bool
is_borrow ns r (node (defined i borrow_of) ps) = is_named_so ns r (first_part ps)
is_borrow ns r t = false

-- of a `result` what it holds where it is ok, of other types themselves
abbrev pub if_ok : Type_tree → Type_tree
if_ok (node (defined i result_of) ps) = first_part ps
if_ok t = t

abbrev pub is_left_out : Type_tree → Bool
is_left_out (node nothing ps) = true
is_left_out t = false

-- ## Functions

abbrev pub Params : Type 0
Params = List (Text × Type_tree)

abbrev pub params : Parts Name Name → Params
params none = []
params (part (label l) t ps) = (l, t) ∷ params ps
params (part r t ps) = params ps

-- what it gives
abbrev pub gives : Parts Name Name → Type_tree
gives none = left_out
gives (part (label l) t ps) = gives ps
gives (part r t ps) = t

-- the first parameter is `self`, a borrow of what has that name
abbrev pub takes_self : Resource_names → Text → Params → Bool
takes_self ns r [] = false
takes_self ns r (p ∷ ps) = bytes_eq p.0 (codes "self") && is_borrow ns r p.1

abbrev pub rest : Params → Params
rest [] = []
rest (p ∷ ps) = ps

abbrev pub is_empty : Params → Bool
is_empty [] = true
is_empty (p ∷ ps) = false

abbrev pub is_single : Params → Bool
is_single [] = false
is_single (p ∷ ps) = is_empty ps

-- a getter takes nothing and gives something; a setter takes one value and gives nothing. Both may fail
abbrev pub is_used_so : Access → Bool → Params → Type_tree → Bool
is_used_so call async ps g = true
is_used_so get async ps g = not async && (is_empty ps && not (is_left_out (if_ok g)))
is_used_so set async ps g = not async && (is_single ps && is_left_out (if_ok g))

abbrev pub function_fits : Resource_names → Form → Bool → Params → Type_tree → Bool
function_fits ns (item a l) async ps g = is_used_so a async ps g
function_fits ns (constructor r) async ps g = not async && is_own ns r (if_ok g)
function_fits ns (method a r f) async ps g = takes_self ns r ps && is_used_so a async (rest ps) g
function_fits ns (static a r f) async ps g = is_among r ns.names && is_used_so a async ps g
function_fits ns (interface n p i v) async ps g = true

-- an item of any sort may have the name
abbrev pub is_for_any_sort : Form → Bool
is_for_any_sort (item call l) = true
is_for_any_sort (interface n p i v) = true
is_for_any_sort f = false

-- what has the name looks as the name says
abbrev pub fits : Resource_names → Form → Type_tree → Bool
fits ns f (node (func i async) ps) = function_fits ns f async (params ps) (gives ps)
fits ns f t = is_for_any_sort f

-- ## Getters and setters

abbrev pub Entries : Type 0
Entries = List (Extern_name × Type_tree)

-- entries by their names alone
abbrev pub by_name : Entries → List (Text × Type_tree)
by_name es = map (λ e. (e.0.name, e.1)) es

-- the first entry with the name of the getter of the same spelling
abbrev pub getter_in : Form → Entries → Option Type_tree
getter_in f es = lookup (bytes_eq (spelled (getter_of f))) (by_name es)

-- the value that a getter gives
abbrev pub gotten : Type_tree → Type_tree
gotten (node (func i async) ps) = if_ok (gives ps)
gotten t = left_out

abbrev pub first_type : Params → Type_tree
first_type [] = left_out
first_type (p ∷ ps) = p.1

-- the value that a setter takes
abbrev pub taken : Form → Params → Type_tree
taken (method a r f) ps = first_type (rest ps)
taken f ps = first_type ps

abbrev pub is_given : Type_tree → Option Type_tree → Bool
is_given t None = false
is_given t (Some g) = alike t (gotten g)

abbrev pub is_paired_by : Access → Type_tree → Option Type_tree → Bool
is_paired_by call t o = true
is_paired_by get t o = true
is_paired_by set t o = is_given t o

-- a setter takes what the getter of the same spelling gives that stands before it
abbrev pub is_paired : Entries → Form → Type_tree → Bool
is_paired es f (node (func i async) ps) = is_paired_by (access_of f) (taken f (params ps)) (getter_in f es)
is_paired es f t = true

-- what has the name looks as the name says, also beside the getter before it
abbrev pub follows : Resource_names → Entries → Form → Type_tree → Bool
follows ns es f t = fits ns f t && is_paired es f t
