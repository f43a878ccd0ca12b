-- Core types that join the table of an arena.
use Rattle.std.specs.Prelude.{List, [], ◌∷◌, true, false, None}
use Rattle.wcv_core.specs.CoreForm.{func_form, sub_form, Group}
use Rattle.wcv_core.specs.declared.core_types.FuncType.{FuncType}
use Rattle.wcv_core.specs.declared.core_types.SubType.{SubType}
use Rattle.wcv_types.specs.Arena.{Arena}

-- the arena with another table
abbrev pub with_core : Arena → List Group → Arena
with_core a gs = record a { core = gs }

-- the group of a type alone
abbrev pub sole_group : SubType → Group
sole_group s = sub_form s ∷ []

-- the group of a function type alone, which is final, has no supertype, and is not shared
abbrev pub func_group : FuncType → Group
func_group f = record { is_final = true; supertype = None; shared = false; inner = func_form f.params.items f.results.items } ∷ []
