-- Core type items and core modules as bytes.
use Rattle.std.specs.Prelude.{ℕ, ◌+◌, List, [], ◌∷◌, replicate, ◌++◌, Bool, true, false, nat_lt, if◌then◌else◌, Option, Some, None, filter_map}
use Rattle.std.specs.List.{cons_option}
use Rattle.wcv_core.specs.CoreForm.{Group}
use Rattle.wcv_core.specs.declared.core_types.ValType.{ValType}
use Rattle.wcv_core.specs.declared.core_types.ValType.TheVariants as val
use Rattle.wcv_syntax.specs.declared.core_section.Export.{Export}
use Rattle.wcv_syntax.specs.declared.core_section.ExternalKind.{ExternalKind}
use Rattle.wcv_syntax.specs.declared.core_section.ExternalKind.TheVariants as kind
use Rattle.wcv_syntax.specs.declared.core_section.Import.{Import}
use Rattle.wcv_syntax.specs.declared.core_section.TypeRef.{TypeRef}
use Rattle.wcv_syntax.specs.declared.core_section.TypeRef.TheVariants as ty
use Rattle.wcv_syntax.specs.Model.{Module_decl, module_type, module_import, module_export, module_outer, Core_type_form, core_rec, core_module_type}
use Rattle.wcv_encode.specs.Bytes.{Bytes, ◌⧺◌, byte, u32_bytes, text, each, vec, section}
use Rattle.wcv_encode.specs.CoreTypes.{heap_bytes, group_bytes, table_bytes, memory_bytes, global_bytes}
use Rattle.wcv_encode.specs.Entries.{core_export}
use Rattle.wcv_encode.specs.declared.part.Part.{Part}
use Rattle.wcv_encode.specs.declared.part.Part.TheVariants as part
use Rattle.wcv_encode.specs.declared.counts.Counts.{Counts}

-- ## Core types

unfoldable pub entity_bytes : TypeRef → Bytes
entity_bytes (ty.Func t) = byte 0x00 ⧺ u32_bytes t
entity_bytes (ty.Table t) = byte 0x01 ⧺ table_bytes t
entity_bytes (ty.Memory t) = byte 0x02 ⧺ memory_bytes t
entity_bytes (ty.Global t) = byte 0x03 ⧺ global_bytes t
entity_bytes (ty.Tag t) = byte 0x04 ⧺ byte 0x00 ⧺ u32_bytes t

unfoldable pub core_import_bytes : Import → Bytes
core_import_bytes i = text i.module ⧺ text i.name ⧺ entity_bytes i.ty

unfoldable pub module_decl_bytes : Module_decl → Bytes
module_decl_bytes (module_import i) = byte 0x00 ⧺ core_import_bytes i
module_decl_bytes (module_type g) = byte 0x01 ⧺ group_bytes g
module_decl_bytes (module_outer n i) = Some (0x02 ∷ 0x10 ∷ 0x01 ∷ []) ⧺ u32_bytes n ⧺ u32_bytes i
module_decl_bytes (module_export n t) = byte 0x03 ⧺ text n ⧺ entity_bytes t

-- a 0 stands before the byte of an open type, which alone would begin a module type
unfoldable pub open_mark : Group → Bytes
open_mark (s ∷ []) = if s.is_final then Some [] else byte 0x00
open_mark g = Some []

unfoldable pub core_type_bytes : Core_type_form → Bytes
core_type_bytes (core_rec g) = open_mark g ⧺ group_bytes g
core_type_bytes (core_module_type ds) = byte 0x50 ⧺ vec module_decl_bytes ds

-- ## Core modules

-- The constant of a global: 0 or null of its type, or none at all where no such constant is.
unfoldable pub constant : ValType → Bytes
constant val.I32 = Some (0x41 ∷ 0x00 ∷ 0x0B ∷ [])
constant val.I64 = Some (0x42 ∷ 0x00 ∷ 0x0B ∷ [])
constant val.F32 = Some (0x43 ∷ replicate 4 0 ++ 0x0B ∷ [])
constant val.F64 = Some (0x44 ∷ replicate 8 0 ++ 0x0B ∷ [])
constant val.V128 = Some (0xFD ∷ 0x0C ∷ replicate 16 0 ++ 0x0B ∷ [])
constant (val.Ref r) = if r.nullable then byte 0xD0 ⧺ heap_bytes r.shared r.heap ⧺ byte 0x0B else byte 0x0B

-- what an export of a type adds to a section: the item is one of the module's own
unfoldable pub own_entry : Part → TypeRef → Option Bytes
own_entry part.Functions (ty.Func t) = Some (u32_bytes t)
-- a body has no locals, and one instruction that is never reached
own_entry part.Bodies (ty.Func t) = Some (Some (0x03 ∷ 0x00 ∷ 0x00 ∷ 0x0B ∷ []))
own_entry part.Tables (ty.Table t) = Some (table_bytes t)
own_entry part.Memories (ty.Memory t) = Some (memory_bytes t)
own_entry part.Globals (ty.Global t) = Some (global_bytes t ⧺ constant t.content_type)
own_entry part.Tags (ty.Tag t) = Some (byte 0x00 ⧺ u32_bytes t)
own_entry p t = None

-- what a declaration adds to a section
unfoldable pub entry : Part → Module_decl → Option Bytes
entry part.Types (module_type g) = Some (group_bytes g)
entry part.Imports (module_import i) = Some (core_import_bytes i)
entry p (module_export n t) = own_entry p t
entry p d = None

abbrev pub part_id : Part → ℕ
part_id part.Types = 1
part_id part.Imports = 2
part_id part.Functions = 3
part_id part.Tables = 4
part_id part.Memories = 5
part_id part.Globals = 6
part_id part.Bodies = 10
part_id part.Tags = 13

-- nothing where there is none
abbrev pub or_nothing : Option Bytes → Bytes
or_nothing None = Some []
or_nothing (Some b) = b

-- bytes that stand as they are
abbrev pub as_they_are : Bytes → Bytes
as_they_are b = b

-- a section of a list, or no section where the list is empty
unfoldable pub section_of : {A : Type 0} → ℕ → (A → Bytes) → List A → Bytes
section_of id w [] = Some []
section_of id w (x ∷ xs) = section id (vec w (x ∷ xs))

unfoldable pub part_bytes : Part → List Module_decl → Bytes
part_bytes p ds = section_of (part_id p) as_they_are (filter_map (entry p) ds)

-- ## Exports

abbrev pub kind_of : TypeRef → ExternalKind
kind_of (ty.Func t) = kind.Func
kind_of (ty.Table t) = kind.Table
kind_of (ty.Memory t) = kind.Memory
kind_of (ty.Global t) = kind.Global
kind_of (ty.Tag t) = kind.Tag

unfoldable pub count_of : Counts → ExternalKind → ℕ
count_of c kind.Func = c.funcs
count_of c kind.Table = c.tables
count_of c kind.Memory = c.memories
count_of c kind.Global = c.globals
count_of c kind.Tag = c.tags

unfoldable pub one_more : ExternalKind → Counts → Counts
one_more kind.Func c = record c { funcs = c.funcs + 1 }
one_more kind.Table c = record c { tables = c.tables + 1 }
one_more kind.Memory c = record c { memories = c.memories + 1 }
one_more kind.Global c = record c { globals = c.globals + 1 }
one_more kind.Tag c = record c { tags = c.tags + 1 }

abbrev pub no_items : Counts
no_items = record { funcs = 0; tables = 0; memories = 0; globals = 0; tags = 0 }

-- behind a declaration
unfoldable pub next : Counts → Module_decl → Counts
next c (module_import i) = one_more (kind_of i.ty) c
next c (module_export n t) = one_more (kind_of t) c
next c d = c

-- what a declaration exports: the next of its sort
unfoldable pub export_at : Counts → Module_decl → Option Export
export_at c (module_export n t) = Some (record { name = n; kind = kind_of t; index = count_of c (kind_of t) })
export_at c d = None

-- what is exported behind so many items
unfoldable pub exports_from : Counts → List Module_decl → List Export
exports_from c [] = []
exports_from c (d ∷ ds) = cons_option (export_at c d) (exports_from (next c d) ds)

abbrev pub is_export_of : Module_decl → Bool
is_export_of (module_export n t) = true
is_export_of d = false

-- ## All of a module

-- the place of a declaration: types, then imports, then exports
unfoldable pub rank : Module_decl → ℕ
rank (module_import i) = 1
rank (module_export n t) = 2
rank d = 0

-- no declaration has a lower rank than one before it, and none is an alias
unfoldable pub is_ordered : ℕ → List Module_decl → Bool
is_ordered least [] = true
is_ordered least (module_outer n i ∷ ds) = false
is_ordered least (d ∷ ds) = if nat_lt (rank d) least then false else is_ordered (rank d) ds

unfoldable pub module_header : Bytes
module_header = Some (0x00 ∷ 0x61 ∷ 0x73 ∷ 0x6D ∷ 0x01 ∷ 0x00 ∷ 0x00 ∷ 0x00 ∷ [])

-- the sections before that of the exports
abbrev pub parts : List Part
parts = part.Types ∷ part.Imports ∷ part.Functions ∷ part.Tables ∷ part.Memories ∷ part.Tags ∷ part.Globals ∷ []

abbrev pub parts_bytes : List Module_decl → List Part → Bytes
parts_bytes ds ps = each (λ p. part_bytes p ds) ps

unfoldable pub module_bytes : List Module_decl → Bytes
module_bytes ds = if is_ordered 0 ds then module_header ⧺ parts_bytes ds parts ⧺ section_of 7 core_export (exports_from no_items ds) ⧺ part_bytes part.Bodies ds else None
