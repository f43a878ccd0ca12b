-- Types, and the declarations of component types and instance types, which nest.
use Rattle.std.specs.Prelude.{ℕ, zero, suc, List, Option, Some, None, ◌==◌, if◌then◌else◌, true, false, Result, Ok, Err}
use Rattle.wcv_syntax.specs.Model.{Type_form, defined_type, func_type, component_type, instance_type, resource_type, Decl, core_type_decl, type_decl, alias_decl, export_decl, import_decl}
use Rattle.wcv_syntax.specs.View.{decls_of}
use Rattle.wcv_bytes.specs.declared.fault.Fault.{Fault}
use Rattle.wcv_bytes.specs.declared.fault.Why.TheVariants.{NotDeclaration, TooDeep}
use Rattle.wcv_binary.specs.Aliases.{alias_at}
use Rattle.wcv_binary.specs.CoreValues.{core_val_at}
use Rattle.wcv_binary.specs.Defined.{defined_at}
use Rattle.wcv_binary.specs.Funcs.{func_at}
use Rattle.wcv_binary.specs.ModuleTypes.{core_type_at}
use Rattle.wcv_binary.specs.Names.{name_at, ref_at, import_at}
use Rattle.wcv_bytes.specs.Reading.{◌>>=◌, fault, byte_at, flag_at, u32_at, vec_at, of_one, of_two}

-- ## Types without declarations

-- 0 for none, or 1 and the index of a destructor
unfoldable pub destructor_at : List ℕ → Result (Option ℕ × List ℕ) Fault
destructor_at bytes = do
  there ← flag_at bytes
  if there.0 then of_one u32_at Some there.1 else Ok (None, there.1)

-- one without declarations
unfoldable pub plain_type_at : List ℕ → Result (Type_form × List ℕ) Fault
plain_type_at bytes = do
  b ← byte_at bytes
  if b.0 == 0x40 then of_one (func_at false) func_type b.1
      else if b.0 == 0x43 then of_one (func_at true) func_type b.1
      else if b.0 == 0x3F then of_two core_val_at destructor_at resource_type b.1
      else of_one defined_at defined_type bytes

-- ## Declarations

-- one that is no type of a component
unfoldable pub plain_decl_at : List ℕ → Result (Decl × List ℕ) Fault
plain_decl_at bytes = do
  b ← byte_at bytes
  if b.0 == 0x00 then of_one core_type_at core_type_decl b.1
      else if b.0 == 0x02 then of_one alias_at alias_decl b.1
      else if b.0 == 0x04 then of_two name_at ref_at export_decl b.1
      else Err (fault NotDeclaration bytes)

-- one of an instance type; `inner` says which types may stand in it
unfoldable pub instance_decl_at : (List ℕ → Result (Type_form × List ℕ) Fault) → List ℕ → Result (Decl × List ℕ) Fault
instance_decl_at inner bytes = do
  b ← byte_at bytes
  if b.0 == 0x01 then of_one inner type_decl b.1 else plain_decl_at bytes

-- such a one, or an import, in a component type
unfoldable pub component_decl_at : (List ℕ → Result (Type_form × List ℕ) Fault) → List ℕ → Result (Decl × List ℕ) Fault
component_decl_at inner bytes = do
  b ← byte_at bytes
  if b.0 == 0x03 then of_one import_at import_decl b.1 else instance_decl_at inner bytes

-- ## Types

-- one over types that may stand in it
unfoldable pub type_over : (List ℕ → Result (Type_form × List ℕ) Fault) → List ℕ → Result (Type_form × List ℕ) Fault
type_over inner bytes = do
  b ← byte_at bytes
  if b.0 == 0x41 then of_one (vec_at (component_decl_at inner)) (λ ds. component_type (decls_of ds)) b.1
      else if b.0 == 0x42 then of_one (vec_at (instance_decl_at inner)) (λ ds. instance_type (decls_of ds)) b.1
      else plain_type_at bytes

-- one with types nested in it, itself among them, at most so deep
unfoldable pub type_within : ℕ → List ℕ → Result (Type_form × List ℕ) Fault
type_within zero bytes = Err (fault TooDeep bytes)
type_within (suc n) bytes = type_over (type_within n) bytes
