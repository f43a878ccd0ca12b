-- What a core module declares: its tables, memories, tags and globals, and what its exports name.
use Rattle.std.specs.Prelude.{ℕ, List, [], ◌∷◌, ◌++◌, Option, Some, None, Result, Ok, Err, option_map, slice_get, ◌==◌, if◌then◌else◌}
use Rattle.std.specs.List.{filter_map}
use Rattle.wcv_core.specs.CoreForm.{Group}
use Rattle.wcv_core.specs.declared.core_types.GlobalType.{GlobalType}
use Rattle.wcv_core.specs.declared.core_types.MemoryType.{MemoryType}
use Rattle.wcv_core.specs.declared.core_types.TableType.{TableType}
use Rattle.wcv_syntax.specs.declared.core_section.ExternalKind.{ExternalKind}
use Rattle.wcv_syntax.specs.declared.core_section.ExternalKind.TheVariants as sort
use Rattle.wcv_syntax.specs.declared.core_section.Import.{Import}
use Rattle.wcv_syntax.specs.declared.core_section.TypeRef.{TypeRef}
use Rattle.wcv_syntax.specs.declared.core_section.TypeRef.TheVariants as ref
use Rattle.wcv_syntax.specs.Model.{Text}
use Rattle.wcv_bytes.specs.declared.fault.Fault.{Fault}
use Rattle.wcv_bytes.specs.declared.fault.Why.TheVariants.{Short, UnknownIndex}
use Rattle.wcv_binary.specs.declared.module_item.Tag.{Tag}
use Rattle.wcv_binary.specs.Constants.{constant_at}
use Rattle.wcv_binary.specs.Entities.{table_type_at, global_type_at}
use Rattle.wcv_bytes.specs.Reading.{◌>>=◌, fault, zero_at, u32_at, text_at, vec_at}
use Rattle.wcv_binary.specs.Sorts.{core_sort_at}

-- ## Tables, globals and tags of a core module

-- a table behind the byte 40: 00, a type, and the value of its elements
unfoldable pub filled_table_at : List ℕ → Result (TableType × List ℕ) Fault
filled_table_at bytes = do
  rest ← zero_at bytes
  ty ← table_type_at rest
  end ← constant_at ty.1
  Ok (ty.0, end)

-- a table: a type, or 40 and a type with the value of its elements
unfoldable pub table_at : List ℕ → Result (TableType × List ℕ) Fault
table_at [] = Err (fault Short [])
table_at (b ∷ rest) = if b == 0x40 then filled_table_at rest else table_type_at (b ∷ rest)

-- a global: a type and its value
unfoldable pub global_at : List ℕ → Result (GlobalType × List ℕ) Fault
global_at bytes = do
  ty ← global_type_at bytes
  end ← constant_at ty.1
  Ok (ty.0, end)

-- a tag: 00 and the index of a function type
unfoldable pub tag_at : List ℕ → Result (Tag × List ℕ) Fault
tag_at bytes = do
  rest ← zero_at bytes
  func ← u32_at rest
  Ok (record { func = func.0 }, func.1)

-- ## Core modules

-- What the sections of a core module say that were read: groups of types, imports, what it has itself by sort, and
-- exports. Functions are the indices of their types. A section that is yet to come stands at a place from `next` on, and
-- `bodies` is how many functions have a body.
pub record Module_form : Type 0 where
  pub next : ℕ
  pub bodies : ℕ
  pub groups : List Group
  pub imports : List Import
  pub functions : List ℕ
  pub tables : List TableType
  pub memories : List MemoryType
  pub tags : List Tag
  pub globals : List GlobalType
  pub exports : List (Text × TypeRef)

-- ## What exports name

abbrev pub imported_function : Import → Option ℕ
imported_function i = elim i.ty [ ref.Func f ↦ Some f | _ ↦ None ]

abbrev pub imported_table : Import → Option TableType
imported_table i = elim i.ty [ ref.Table t ↦ Some t | _ ↦ None ]

abbrev pub imported_memory : Import → Option MemoryType
imported_memory i = elim i.ty [ ref.Memory m ↦ Some m | _ ↦ None ]

abbrev pub imported_global : Import → Option GlobalType
imported_global i = elim i.ty [ ref.Global g ↦ Some g | _ ↦ None ]

abbrev pub imported_tag : Import → Option Tag
imported_tag i = elim i.ty [ ref.Tag f ↦ Some (record { func = f }) | _ ↦ None ]

-- the items of each sort by their indices: those that are imported stand first
pub record Spaces_form : Type 0 where
  pub functions : List ℕ
  pub tables : List TableType
  pub memories : List MemoryType
  pub globals : List GlobalType
  pub tags : List Tag

abbrev pub spaces_of : Module_form → Spaces_form
spaces_of m = record {
  functions = filter_map imported_function m.imports ++ m.functions;
  tables = filter_map imported_table m.imports ++ m.tables;
  memories = filter_map imported_memory m.imports ++ m.memories;
  globals = filter_map imported_global m.imports ++ m.globals;
  tags = filter_map imported_tag m.imports ++ m.tags;
}

-- the item of a sort at an index
abbrev pub item_of : Spaces_form → ExternalKind → ℕ → Option TypeRef
item_of s sort.Func i = option_map ref.Func (slice_get s.functions i)
item_of s sort.Table i = option_map ref.Table (slice_get s.tables i)
item_of s sort.Memory i = option_map ref.Memory (slice_get s.memories i)
item_of s sort.Global i = option_map ref.Global (slice_get s.globals i)
item_of s sort.Tag i = option_map (λ t. ref.Tag t.func) (slice_get s.tags i)

-- what stands at an index, which the bytes begin with
abbrev pub item_at : Option TypeRef → List ℕ → Result TypeRef Fault
item_at None bytes = Err (fault UnknownIndex bytes)
item_at (Some item) bytes = Ok item

-- an export: a name, a sort and an index
unfoldable pub export_at : Spaces_form → List ℕ → Result ((Text × TypeRef) × List ℕ) Fault
export_at s bytes = do
  name ← text_at bytes
  kind ← core_sort_at name.1
  index ← u32_at kind.1
  item ← item_at (item_of s kind.0 index.0) kind.1
  Ok ((name.0, item), index.1)

-- the exports of a core module
abbrev pub exports_at : Module_form → List ℕ → Result (List (Text × TypeRef) × List ℕ) Fault
exports_at m bytes = vec_at (export_at (spaces_of m)) bytes
