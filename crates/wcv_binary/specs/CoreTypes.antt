-- Core types and groups of them.
use Rattle.std.specs.Prelude.{ℕ, List, [], ◌∷◌, Bool, true, false, ◌==◌, ◌||◌, if◌then◌else◌, Option, Some, None, Result, Ok, Err}
use Rattle.wcv_binary.specs.CoreValues.{core_val_at, field_at}
use Rattle.wcv_bytes.specs.declared.fault.Fault.{Fault}
use Rattle.wcv_bytes.specs.declared.fault.Why.TheVariants.{NotCoreType, ManySupertypes, UnsupportedContinuation, UnsupportedDescriptor}
use Rattle.wcv_bytes.specs.Reading.{◌>>=◌, fault, of_one, of_two, byte_at, u32_at, vec_at}
use Rattle.wcv_core.specs.CoreForm.{CompositeForm, func_form, struct_form, array_form, SubForm, Group}
use Rattle.wcv_core.specs.declared.core_types.SuperType.{SuperType}
use Rattle.wcv_core.specs.declared.core_types.SuperType.TheVariants as parent

-- ## Forms

-- the parameters and the results
unfoldable pub core_func_at : List ℕ → Result (CompositeForm × List ℕ) Fault
core_func_at bytes = of_two (vec_at core_val_at) (vec_at core_val_at) func_form bytes

-- 60 function, 5F struct, 5E array
unfoldable pub inner_at : List ℕ → Result (CompositeForm × List ℕ) Fault
inner_at bytes = do
  b ← byte_at bytes
  if b.0 == 0x60 then core_func_at b.1
      else if b.0 == 0x5F then of_one (vec_at field_at) struct_form b.1
      else if b.0 == 0x5E then of_one field_at array_form b.1
      else if b.0 == 0x5D then Err (fault UnsupportedContinuation bytes)
      else if b.0 == 0x4C || b.0 == 0x4D then Err (fault UnsupportedDescriptor bytes)
      else Err (fault NotCoreType bytes)

-- whether it is shared, behind 65, and the form
unfoldable pub composite_at : List ℕ → Result ((Bool × CompositeForm) × List ℕ) Fault
composite_at bytes = do
  b ← byte_at bytes
  if b.0 == 0x65 then of_one inner_at (λ form. (true, form)) b.1 else of_one inner_at (λ form. (false, form)) bytes

-- ## Subtypes and groups

-- a list of supertypes, which has at most one
unfoldable pub super_at : List ℕ → Result (Option SuperType × List ℕ) Fault
super_at bytes = do
  n ← u32_at bytes
  if n.0 == 0 then Ok (None, n.1)
      else if n.0 == 1 then of_one u32_at (λ index. Some (parent.Index index)) n.1
      else Err (fault ManySupertypes bytes)

-- whether it is final, and its supertype: 50 open, 4F final, or a form alone, which is final and has no supertype
unfoldable pub place_at : List ℕ → Result ((Bool × Option SuperType) × List ℕ) Fault
place_at bytes = do
  b ← byte_at bytes
  if b.0 == 0x50 then of_one super_at (λ above. (false, above)) b.1
      else if b.0 == 0x4F then of_one super_at (λ above. (true, above)) b.1
      else Ok ((true, None), bytes)

unfoldable pub sub_at : List ℕ → Result (SubForm × List ℕ) Fault
sub_at bytes = of_two place_at composite_at (λ place ty. record { is_final = place.0; supertype = place.1; shared = ty.0; inner = ty.1 }) bytes

-- 4E and a list of types, or one type alone
unfoldable pub group_at : List ℕ → Result (Group × List ℕ) Fault
group_at bytes = do
  b ← byte_at bytes
  if b.0 == 0x4E then vec_at sub_at b.1 else of_one sub_at (λ ty. ty ∷ []) bytes
