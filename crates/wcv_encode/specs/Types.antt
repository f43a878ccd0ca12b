-- Types and their declarations as bytes.
use Rattle.std.specs.Prelude.{ℕ, zero, suc, [], Bool, true, false, Some, None}
use Rattle.wcv_syntax.specs.Model.{Type_form, defined_type, func_type, component_type, instance_type, resource_type, Decl, core_type_decl, type_decl, alias_decl, export_decl, import_decl, Decls, no_decls, declare}
use Rattle.wcv_encode.specs.Bytes.{Bytes, ◌⧺◌, byte, u32_bytes, maybe}
use Rattle.wcv_encode.specs.CoreTypes.{val_bytes}
use Rattle.wcv_encode.specs.Entries.{name_bytes, ref_of, import_bytes, alias_bytes}
use Rattle.wcv_encode.specs.Modules.{core_type_bytes}
use Rattle.wcv_encode.specs.Values.{defined_bytes, func_bytes}

abbrev pub decl_count : Decls → ℕ
decl_count no_decls = zero
decl_count (declare d ds) = suc (decl_count ds)

-- declarations of a component type, or of an instance type, which has no imports
unfoldable mutual
  pub type_bytes : Type_form → Bytes
  type_bytes (defined_type d) = defined_bytes d
  type_bytes (func_type f) = func_bytes f
  type_bytes (component_type ds) = byte 0x41 ⧺ u32_bytes (decl_count ds) ⧺ decls_bytes true ds
  type_bytes (instance_type ds) = byte 0x42 ⧺ u32_bytes (decl_count ds) ⧺ decls_bytes false ds
  type_bytes (resource_type rep dtor) = byte 0x3F ⧺ val_bytes rep ⧺ maybe u32_bytes dtor

  pub decl_bytes : Bool → Decl → Bytes
  decl_bytes imports (core_type_decl t) = byte 0x00 ⧺ core_type_bytes t
  decl_bytes imports (type_decl t) = byte 0x01 ⧺ type_bytes t
  decl_bytes imports (alias_decl a) = byte 0x02 ⧺ alias_bytes a
  decl_bytes imports (export_decl n t) = byte 0x04 ⧺ name_bytes n ⧺ ref_of t
  decl_bytes true (import_decl i) = byte 0x03 ⧺ import_bytes i
  decl_bytes false (import_decl i) = None

  pub decls_bytes : Bool → Decls → Bytes
  decls_bytes imports no_decls = Some []
  decls_bytes imports (declare d ds) = decl_bytes imports d ⧺ decls_bytes imports ds
