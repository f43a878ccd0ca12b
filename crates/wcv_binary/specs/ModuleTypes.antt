-- The types of core modules, and core type items.
use Rattle.std.specs.Prelude.{ℕ, List, Result, Err, ◌==◌, if◌then◌else◌}
use Rattle.wcv_binary.specs.CoreTypes.{group_at}
use Rattle.wcv_bytes.specs.declared.fault.Fault.{Fault}
use Rattle.wcv_bytes.specs.declared.fault.Why.TheVariants.{NotAlias, NotDeclaration, NotOpenType, NotOuter}
use Rattle.wcv_binary.specs.Entities.{entity_at, core_import_at}
use Rattle.wcv_bytes.specs.Reading.{◌>>=◌, fault, of_one, of_two, byte_at, expected_at, u32_at, vec_at, text_at}
use Rattle.wcv_core.specs.CoreForm.{Group}
use Rattle.wcv_syntax.specs.Model.{Module_decl, module_type, module_import, module_export, module_outer, Core_type_form, core_rec, core_module_type}

-- ## Declarations

-- a name and what is exported
unfoldable pub module_export_at : List ℕ → Result (Module_decl × List ℕ) Fault
module_export_at bytes = of_two text_at entity_at module_export bytes

-- a core type from further out: 10 01, how many steps out, and the index there
unfoldable pub module_outer_at : List ℕ → Result (Module_decl × List ℕ) Fault
module_outer_at bytes = do
  target ← expected_at 0x10 NotOuter bytes
  rest ← expected_at 0x01 NotAlias target
  of_two u32_at u32_at module_outer rest

-- 00 import, 01 core types, 02 outer alias, 03 export
unfoldable pub module_decl_at : List ℕ → Result (Module_decl × List ℕ) Fault
module_decl_at bytes = do
  b ← byte_at bytes
  if b.0 == 0x00 then of_one core_import_at module_import b.1
      else if b.0 == 0x01 then of_one group_at module_type b.1
      else if b.0 == 0x02 then module_outer_at b.1
      else if b.0 == 0x03 then module_export_at b.1
      else Err (fault NotDeclaration bytes)

-- ## Core type items

-- core types; before an open type, whose byte is also that of a module type, stands 00
unfoldable pub marked_group_at : List ℕ → Result (Group × List ℕ) Fault
marked_group_at bytes = do
  b ← byte_at bytes
  if b.0 == 0x00 then (expected_at 0x50 NotOpenType b.1 >>= λ after. group_at b.1) else group_at bytes

-- 50 and the declarations of a module type, or core types
unfoldable pub core_type_at : List ℕ → Result (Core_type_form × List ℕ) Fault
core_type_at bytes = do
  b ← byte_at bytes
  if b.0 == 0x50 then of_one (vec_at module_decl_at) core_module_type b.1 else of_one marked_group_at core_rec bytes
