-- What core modules import and export: limits, the types of tables, memories and globals, and imports.
use Rattle.std.specs.Prelude.{ℕ, List, [], ◌∷◌, Bool, false, not, ◌==◌, ◌||◌, ◌&&◌, length, if◌then◌else◌, nat_lt, bit_and, Option, Some, None, Result, Ok, Err}
use Rattle.wcv_binary.specs.CoreValues.{core_val_at, ref_type_at}
use Rattle.wcv_bytes.specs.declared.fault.Fault.{Fault}
use Rattle.wcv_bytes.specs.declared.fault.Why.TheVariants.{NotCoreSort, UnknownMark, UnsupportedExact, UnsupportedImports}
use Rattle.wcv_bytes.specs.Reading.{◌>>=◌, fault, of_one, of_two, byte_at, zero_at, u32_at, u64_at, text_at}
use Rattle.wcv_core.specs.declared.core_types.GlobalType.{GlobalType}
use Rattle.wcv_core.specs.declared.core_types.MemoryType.{MemoryType}
use Rattle.wcv_core.specs.declared.core_types.TableType.{TableType}
use Rattle.wcv_syntax.specs.declared.core_section.Import.{Import}
use Rattle.wcv_syntax.specs.declared.core_section.TypeRef.{TypeRef}
use Rattle.wcv_syntax.specs.declared.core_section.TypeRef.TheVariants as ref

-- ## Limits

-- a bit of a byte, by its value
abbrev pub has_bit : ℕ → ℕ → Bool
has_bit b bit = not (bit_and b bit == 0)

-- a byte of marks, of which the largest that is known has all of them
unfoldable pub marks_at : ℕ → List ℕ → Result (ℕ × List ℕ) Fault
marks_at most bytes = do
  marks ← byte_at bytes
  if nat_lt most marks.0 then Err (fault UnknownMark bytes) else Ok marks

-- the least size, and the greatest where there is one
unfoldable pub sizes_at : Bool → List ℕ → Result ((ℕ × Option ℕ) × List ℕ) Fault
sizes_at bounded bytes = do
  least ← u64_at bytes
  if bounded then of_one u64_at (λ greatest. (least.0, Some greatest)) least.1 else Ok ((least.0, None), least.1)

-- ## Tables, memories and globals

-- the type of the elements, and limits: bit 0 for a greatest size, 1 for a shared table, 2 for indices of 64 bits
unfoldable pub table_type_at : List ℕ → Result (TableType × List ℕ) Fault
table_type_at bytes = do
  element ← ref_type_at bytes
  marks ← marks_at 7 element.1
  sizes ← sizes_at (has_bit marks.0 1) marks.1
  Ok (record { element_type = element.0; initial = sizes.0.0; maximum = sizes.0.1; table64 = has_bit marks.0 4; shared = has_bit marks.0 2 }, sizes.1)

-- the exponent of the size of a page, which is 16 where it is not written
unfoldable pub page_at : Bool → List ℕ → Result (ℕ × List ℕ) Fault
page_at written bytes = if written then u32_at bytes else Ok (16, bytes)

-- limits with one bit more, 3, for the size of a page
unfoldable pub memory_type_at : List ℕ → Result (MemoryType × List ℕ) Fault
memory_type_at bytes = do
  marks ← marks_at 15 bytes
  sizes ← sizes_at (has_bit marks.0 1) marks.1
  page ← page_at (has_bit marks.0 8) sizes.1
  Ok (record { initial = sizes.0.0; maximum = sizes.0.1; memory64 = has_bit marks.0 4; shared = has_bit marks.0 2; page_size_log2 = page.0 }, page.1)

-- the type of the content, bit 0 for one that can be changed and bit 1 for one that is shared
unfoldable pub global_type_at : List ℕ → Result (GlobalType × List ℕ) Fault
global_type_at bytes = of_two core_val_at (marks_at 3) (λ content marks. record { content_type = content; mutable = has_bit marks 1; shared = has_bit marks 2 }) bytes

-- ## Imports and exports

-- 00 and the index of a function type, 01 table, 02 memory, 03 global, 04 00 and the index of a function type: a tag
unfoldable pub entity_at : List ℕ → Result (TypeRef × List ℕ) Fault
entity_at bytes = do
  sort ← byte_at bytes
  if sort.0 == 0 then of_one u32_at ref.Func sort.1
      else if sort.0 == 1 then of_one table_type_at ref.Table sort.1
      else if sort.0 == 2 then of_one memory_type_at ref.Memory sort.1
      else if sort.0 == 3 then of_one global_type_at ref.Global sort.1
      else if sort.0 == 4 then (zero_at sort.1 >>= of_one u32_at ref.Tag)
      else if sort.0 == 0x20 then Err (fault UnsupportedExact bytes)
      else Err (fault NotCoreSort bytes)

-- the name of a module, a name in it, and what is imported
unfoldable pub core_import_at : List ℕ → Result (Import × List ℕ) Fault
core_import_at bytes = do
  from ← text_at bytes
  name ← text_at from.1
  ty ← entity_at name.1
  Ok (record { «module» = from.0; name = name.0; ty = ty.0 }, ty.1)

-- the bytes of imports that are written together
abbrev pub opens_many : List ℕ → Bool
opens_many [] = false
opens_many (b ∷ bytes) = b == 0x7F || b == 0x7E

-- the same in a core module, where behind an empty name many may be written together
unfoldable pub module_import_at : List ℕ → Result (Import × List ℕ) Fault
module_import_at bytes = do
  from ← text_at bytes
  name ← text_at from.1
  if length name.0 == 0 && opens_many name.1 then Err (fault UnsupportedImports name.1)
      else of_one entity_at (λ ty. record { «module» = from.0; name = name.0; ty = ty }) name.1
