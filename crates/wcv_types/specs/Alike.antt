-- Value types that are the same, identities aside: a named primitive is the primitive.
use Rattle.std.specs.Prelude.{ℕ, List, [], Option, Some, None, ◌≡◌}
use Rattle.wcv_core.specs.Names.{Name}
use Rattle.wcv_core.specs.declared.primitive.PrimitiveValType.{PrimitiveValType}
use Rattle.wcv_types.specs.Seen.{outer, seen}
use Rattle.wcv_types.specs.Tree.{Text, Former, named, record_of, variant_of, list_of, map_of, tuple_of, option_of, result_of, own_of, borrow_of, future_of, stream_of, fixed_list_of, flags_of, enum_of, Role, here, label, Tree}

-- they look alike, where each resource is an atom
abbrev pub Alike : Tree Name Name → Tree Name Name → Type 0
Alike s t = seen outer s ≡ seen outer t

-- ## Forms

-- the forms, as numbers
abbrev pub form_number : Former → ℕ
form_number (named p) = 0
form_number record_of = 1
form_number variant_of = 2
form_number list_of = 3
form_number map_of = 4
form_number tuple_of = 5
form_number option_of = 6
form_number result_of = 7
form_number own_of = 8
form_number borrow_of = 9
form_number future_of = 10
form_number stream_of = 11
form_number (fixed_list_of n) = 12
form_number (flags_of ns) = 13
form_number (enum_of ns) = 14

abbrev pub form_primitive : Former → Option PrimitiveValType
form_primitive (named p) = Some p
form_primitive k = None

abbrev pub form_length : Former → ℕ
form_length (fixed_list_of n) = n
form_length k = 0

abbrev pub form_names : Former → List Text
form_names (flags_of ns) = ns
form_names (enum_of ns) = ns
form_names k = []

-- the role of a part that has a label or not
abbrev pub role_of : Option Text → Role
role_of None = here
role_of (Some l) = label l
