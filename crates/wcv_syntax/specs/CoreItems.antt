-- The types of core imports and exports: what they come to in closed form, and why they are refused.
use Rattle.std.specs.Prelude.{ℕ, ◌*◌, ◌^◌, List, [], ◌∷◌, ◌++◌, map, Bool, true, false, ◌&&◌, ◌||◌, not, eqb, nat_lt, Option, Some, None, slice_get}
use Rattle.std.specs.Option.{option_map}
use Rattle.wcv_core.specs.Checks.{Checks, is_none, missing}
use Rattle.wcv_core.specs.Features.{threads, exceptions, memory64, custom_page_sizes, shared_everything_threads}
use Rattle.wcv_core.specs.CoreFeatures.{needs, ref_needs, val_needs}
use Rattle.wcv_core.specs.CoreForm.{CompositeForm, func_form, struct_form, array_form, Group}
use Rattle.wcv_core.specs.CoreGroups.{total}
use Rattle.wcv_core.specs.CoreJoining.{then_checks}
use Rattle.wcv_core.specs.CoreMatching.{type_at, ref_shared}
-- what they count in the type of a module
pub use Rattle.wcv_core.specs.CoreSizes.{form_size, entity_size}
use Rattle.wcv_core.specs.CoreWritten.{Core_entry, sub_entry, heap_checks, val_checks, closed_mark, closed_heap, closed_val}
use Rattle.wcv_core.specs.declared.core_types.CoreTypeId.{CoreTypeId}
use Rattle.wcv_core.specs.declared.core_types.EntityType.{EntityType}
use Rattle.wcv_core.specs.declared.core_types.EntityType.TheVariants as entity
use Rattle.wcv_core.specs.declared.core_types.GlobalType.{GlobalType}
use Rattle.wcv_core.specs.declared.core_types.MemoryType.{MemoryType}
use Rattle.wcv_core.specs.declared.core_types.RefType.{RefType}
use Rattle.wcv_core.specs.declared.core_types.TableType.{TableType}
use Rattle.wcv_core.specs.declared.error.ErrorKind.TheVariants as kind
use Rattle.wcv_core.specs.declared.features.WasmFeatures.{WasmFeatures}
use Rattle.wcv_syntax.specs.declared.core_section.TypeRef.{TypeRef}
use Rattle.wcv_syntax.specs.declared.core_section.TypeRef.TheVariants as ref

-- ## Functions and tags

-- what the indices of the types of a module stand for
abbrev pub type_entry : CoreTypeId → Core_entry
type_entry t = sub_entry t.index

abbrev pub type_entries : List CoreTypeId → List Core_entry
type_entries ts = map type_entry ts

abbrev pub is_func_form : CompositeForm → Bool
is_func_form (func_form ps rs) = true
is_func_form (struct_form fs) = false
is_func_form (array_form f) = false

-- the type is a struct or an array
abbrev pub is_no_func : List Group → Option CoreTypeId → Bool
is_no_func gs None = false
is_no_func gs (Some t) = not (is_func_form (type_at gs t.index).inner)

-- the type at the index of a function
abbrev pub func_checks : List Group → Option CoreTypeId → Checks
func_checks gs o = missing o ++ (kind.WrongSort, is_no_func gs o) ∷ []

abbrev pub form_gives : CompositeForm → Bool
form_gives (func_form ps []) = false
form_gives (func_form ps (r ∷ rs)) = true
form_gives (struct_form fs) = false
form_gives (array_form f) = false

-- the type is a function with results
abbrev pub gives : List Group → Option CoreTypeId → Bool
gives gs None = false
gives gs (Some t) = form_gives (type_at gs t.index).inner

abbrev pub tag_checks : WasmFeatures → List Group → Option CoreTypeId → Checks
tag_checks fs gs o = needs fs exceptions true ++ (func_checks gs o ++ (kind.CoreType, gives gs o) ∷ [])

-- ## Sizes of tables and memories

-- the least number is above the greatest, where there is one
abbrev pub is_above : ℕ → Option ℕ → Bool
is_above least None = false
is_above least (Some greatest) = nat_lt greatest least

-- the greatest number, where there is one, passes a limit
abbrev pub greatest_passes : ℕ → Option ℕ → Bool
greatest_passes limit None = false
greatest_passes limit (Some greatest) = nat_lt limit greatest

-- the most elements of a table whose indices have 32 bits
abbrev pub max_table32 : ℕ
max_table32 = 4294967295

abbrev pub table_sizes : TableType → Checks
table_sizes t =
    (kind.CoreType, is_above t.initial t.maximum) ∷ (kind.CoreType, not t.table64 && nat_lt max_table32 t.initial)
    ∷ (kind.CoreType, not t.table64 && greatest_passes max_table32 t.maximum) ∷ []

-- the most bytes of a memory
abbrev pub max_bytes : Bool → ℕ
max_bytes false = 4294967296
max_bytes true = 18446744073709551616

-- so many pages have more bytes than that. A page has two to the power of its exponent
abbrev pub passes_bytes : MemoryType → ℕ → Bool
passes_bytes m pages = nat_lt (max_bytes m.memory64) (pages * 2 ^ m.page_size_log2)

abbrev pub greatest_passes_bytes : MemoryType → Option ℕ → Bool
greatest_passes_bytes m None = false
greatest_passes_bytes m (Some greatest) = passes_bytes m greatest

-- the exponent of pages of 64 KiB, which is usual
abbrev pub usual_page : ℕ
usual_page = 16

abbrev pub memory_sizes : MemoryType → Checks
memory_sizes m =
    (kind.CoreType, not (eqb m.page_size_log2 0 || eqb m.page_size_log2 usual_page)) ∷ (kind.CoreType, is_above m.initial m.maximum)
    ∷ (kind.CoreType, passes_bytes m m.initial) ∷ (kind.CoreType, greatest_passes_bytes m m.maximum) ∷ (kind.CoreType, m.shared && is_none m.maximum) ∷ []

abbrev pub memory_checks : WasmFeatures → MemoryType → Checks
memory_checks fs m = needs fs memory64 m.memory64 ++ (needs fs threads m.shared ++ (needs fs custom_page_sizes (not (eqb m.page_size_log2 usual_page)) ++ memory_sizes m))

-- ## Tables and globals, over the types of a module and a table of core types

abbrev pub closed_ref : List Core_entry → RefType → RefType
closed_ref es r = record { nullable = r.nullable; shared = closed_mark r.heap r.shared; heap = closed_heap es r.heap }

abbrev pub element_checks : WasmFeatures → List Group → List Core_entry → RefType → Checks
element_checks fs gs es r = ref_needs fs r ++ heap_checks (total gs) es 0 r.heap

-- a shared table has elements that are not
abbrev pub sharing_checks : List Group → List Core_entry → TableType → Checks
sharing_checks gs es t = (kind.CoreType, t.shared && not (ref_shared gs (closed_ref es t.element_type))) ∷ []

abbrev pub table_checks : WasmFeatures → List Group → List Core_entry → TableType → Checks
table_checks fs gs es t =
    needs fs memory64 t.table64 ++ (needs fs shared_everything_threads t.shared ++ (table_sizes t ++ then_checks (element_checks fs gs es t.element_type) (sharing_checks gs es t)))

abbrev pub global_checks : WasmFeatures → List Group → List Core_entry → GlobalType → Checks
global_checks fs gs es g = needs fs shared_everything_threads g.shared ++ (val_needs fs g.content_type ++ val_checks (total gs) es 0 g.content_type)

-- ## All sorts

-- why a written type is refused
abbrev pub ref_checks : WasmFeatures → List Group → List CoreTypeId → TypeRef → Checks
ref_checks fs gs ts (ref.Func i) = func_checks gs (slice_get ts i)
ref_checks fs gs ts (ref.Tag i) = tag_checks fs gs (slice_get ts i)
ref_checks fs gs ts (ref.Table t) = table_checks fs gs (type_entries ts) t
ref_checks fs gs ts (ref.Memory m) = memory_checks fs m
ref_checks fs gs ts (ref.Global g) = global_checks fs gs (type_entries ts) g

abbrev pub closed_table : List Core_entry → TableType → TableType
closed_table es t = record { element_type = closed_ref es t.element_type; initial = t.initial; maximum = t.maximum; table64 = t.table64; shared = t.shared }

abbrev pub closed_global : List Core_entry → GlobalType → GlobalType
closed_global es g = record { content_type = closed_val es g.content_type; mutable = g.mutable; shared = g.shared }

-- what a written type comes to. There is nothing where the index of a function or tag names no type
abbrev pub entity_of : List CoreTypeId → TypeRef → Option EntityType
entity_of ts (ref.Func i) = option_map entity.Func (slice_get ts i)
entity_of ts (ref.Tag i) = option_map entity.Tag (slice_get ts i)
entity_of ts (ref.Table t) = Some (entity.Table (closed_table (type_entries ts) t))
entity_of ts (ref.Memory m) = Some (entity.Memory m)
entity_of ts (ref.Global g) = Some (entity.Global (closed_global (type_entries ts) g))
