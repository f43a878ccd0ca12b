-- Core instances.
use Rattle.std.specs.Prelude.{ℕ, List, Result, if◌then◌else◌}
use Rattle.wcv_bytes.specs.declared.fault.Fault.{Fault}
use Rattle.wcv_bytes.specs.declared.fault.Why.TheVariants.{NotCoreInstance}
use Rattle.wcv_bytes.specs.Reading.{◌>>=◌, of_one, of_two, flag_at, expected_at, u32_at, vec_at, text_at}
use Rattle.wcv_binary.specs.Sorts.{core_sort_at}
use Rattle.wcv_syntax.specs.declared.core_section.Export.{Export}
use Rattle.wcv_syntax.specs.declared.core_section.InstantiationArg.{InstantiationArg}
use Rattle.wcv_syntax.specs.Model.{Core_instance_form, core_instantiate, core_bag}

-- the index of a core instance behind 12
unfoldable pub passed_at : List ℕ → Result (ℕ × List ℕ) Fault
passed_at bytes = expected_at 0x12 NotCoreInstance bytes >>= u32_at

-- a name and the core instance that is passed
unfoldable pub core_arg_at : List ℕ → Result (InstantiationArg × List ℕ) Fault
core_arg_at bytes = of_two text_at passed_at (λ name index. record { name = name; index = index }) bytes

-- a name, a core sort and an index
unfoldable pub core_listed_at : List ℕ → Result (Export × List ℕ) Fault
core_listed_at bytes = do
  name ← text_at bytes
  of_two core_sort_at u32_at (λ kind index. record { name = name.0; kind = kind; index = index }) name.1

-- 00, the index of a module and its arguments, or 01 and items by their names
unfoldable pub core_instance_at : List ℕ → Result (Core_instance_form × List ℕ) Fault
core_instance_at bytes = do
  listed ← flag_at bytes
  if listed.0 then of_one (vec_at core_listed_at) core_bag listed.1 else of_two u32_at (vec_at core_arg_at) core_instantiate listed.1
