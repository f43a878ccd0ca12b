-- Limits, the types of tables, memories and globals, and what core modules import and export are read again.
use Rattle.std.proofs.Common.{◌≡◌, ℕ, ◌+◌, ◌==◌, nat_eq, ◌&&◌, Bool, true, false, not, cond, is_some, Option, Some, None, Result, Ok, Err, List, [], ◌∷◌, ◌++◌, length, refl, ap, ◌∙◌, arith}
use Rattle.std.proofs.lemmas.Bool.Decides.{nat_tests}
use Rattle.wcv_core.specs.declared.core_types.GlobalType.{GlobalType}
use Rattle.wcv_core.specs.declared.core_types.MemoryType.{MemoryType}
use Rattle.wcv_core.specs.declared.core_types.RefType.{RefType}
use Rattle.wcv_core.specs.declared.core_types.TableType.{TableType}
use Rattle.wcv_core.specs.declared.core_types.ValType.{ValType}
use Rattle.wcv_syntax.specs.declared.core_section.TypeRef.{TypeRef}
use Rattle.wcv_syntax.specs.declared.core_section.TypeRef.TheVariants as ty
use Rattle.wcv_bytes.specs.declared.fault.Fault.{Fault}
use Rattle.wcv_bytes.specs.declared.fault.Why.TheVariants.{UnsupportedImports}
use Rattle.wcv_bytes.specs.Reading.{◌>>=◌, fault, byte_at, zero_at, of_one, of_two, u32_at, u64_at, text_at}
use Rattle.wcv_binary.specs.CoreValues.{core_val_at, ref_type_at}
use Rattle.wcv_binary.specs.Entities.{has_bit, marks_at, sizes_at, table_type_at, page_at, memory_type_at, global_type_at, entity_at, core_import_at, opens_many, module_import_at}
use Rattle.wcv_encode.specs.Bytes.{◌⧺◌, byte, u32_bytes, u64_bytes, text, if_some}
use Rattle.wcv_encode.specs.CoreTypes.{ref_bytes, val_bytes, mark, limits, table_bytes, page, memory_bytes, global_bytes}
use Rattle.wcv_encode.specs.Modules.{entity_bytes, core_import_bytes}
use Rattle.wcv_encode.specs.Laws.{Reads, IsReadAgain}
use Rattle.wcv_encode.proofs.Again.{behind, made, made_of_two, led, known, begun}
use Rattle.wcv_encode.proofs.Joins.{join_assoc}
use Rattle.wcv_encode.proofs.AgainNumbers.{u32_again, u64_again}
use Rattle.wcv_encode.proofs.AgainLists.{text_again}
use Rattle.wcv_encode.proofs.AgainCore.{ref_again, val_again}

-- ## Limits

sizes_again : (least : ℕ) (most : Option ℕ) → Reads (sizes_at (is_some most)) (u64_bytes least ⧺ if_some u64_bytes most) (least, most)
unfolding sizes_at if_some
sizes_again n None = behind u64_at (λ least. Ok ((least.0, None), least.1)) (u64_bytes n) (Some []) n (n, None) (u64_again n) (known [] (λ rest. Ok ((n, None), rest)) (n, None) (λ rest. refl))
sizes_again n (Some m) = behind u64_at (λ least. of_one u64_at (λ greatest. (least.0, Some greatest)) least.1) (u64_bytes n) (u64_bytes m) n (n, Some m) (u64_again n) (made u64_at (λ greatest. (n, Some greatest)) (u64_bytes m) m (u64_again m))

-- ## Tables

-- what is read behind the type of the elements
abbrev marked_table : RefType → List ℕ → Result (TableType × List ℕ) Fault
marked_table e bytes =
    marks_at 7 bytes >>= λ marks. sizes_at (has_bit marks.0 1) marks.1 >>= λ sizes.
    Ok (record { element_type = e; initial = sizes.0.0; maximum = sizes.0.1; table64 = has_bit marks.0 4; shared = has_bit marks.0 2 }, sizes.1)

-- so behind the marks
abbrev sized_table : RefType → (bounded shared wide : Bool) → List ℕ → Result (TableType × List ℕ) Fault
sized_table e bounded shared wide = of_one (sizes_at bounded) (λ sizes. record { element_type = e; initial = sizes.0; maximum = sizes.1; table64 = wide; shared = shared })

table_marks : (e : RefType) (bounded shared wide : Bool) (rest : List ℕ) → marked_table e ((mark bounded 1 + (mark shared 2 + mark wide 4)) ∷ rest) ≡ sized_table e bounded shared wide rest
unfolding marks_at byte_at
table_marks e false false false rest = refl
table_marks e false false true rest = refl
table_marks e false true false rest = refl
table_marks e false true true rest = refl
table_marks e true false false rest = refl
table_marks e true false true rest = refl
table_marks e true true false rest = refl
table_marks e true true true rest = refl

pub table_again : IsReadAgain table_type_at table_bytes
unfolding table_type_at table_bytes limits
table_again t =
    behind ref_type_at (λ e. marked_table e.0 e.1) (ref_bytes t.element_type) (limits (mark t.shared 2 + mark t.table64 4) t.initial t.maximum) t.element_type t (ref_again t.element_type)
    (led (mark (is_some t.maximum) 1 + (mark t.shared 2 + mark t.table64 4)) (marked_table t.element_type) (sized_table t.element_type (is_some t.maximum) t.shared t.table64) (u64_bytes t.initial ⧺ if_some u64_bytes t.maximum) t (table_marks t.element_type (is_some t.maximum) t.shared t.table64)
    (made (sizes_at (is_some t.maximum)) (λ sizes. record { element_type = t.element_type; initial = sizes.0; maximum = sizes.1; table64 = t.table64; shared = t.shared }) (u64_bytes t.initial ⧺ if_some u64_bytes t.maximum) (t.initial, t.maximum) (sizes_again t.initial t.maximum)))

-- ## Memories

-- the exponent of a page that is written where it is not 16
page_of : (e : ℕ) (t : Bool) → nat_eq e 16 ≡ t → Reads (page_at (not t)) (cond t (Some []) (u32_bytes e)) e
unfolding page_at
page_of e true h = known [] (λ rest. Ok (16, rest)) e (λ rest. ap (λ (n : ℕ). Ok (n, rest)) (grind (arith, nat_tests)))
page_of e false h = u32_again e

-- what is read behind the marks
abbrev sized_memory : (bounded shared wide paged : Bool) → List ℕ → Result (MemoryType × List ℕ) Fault
sized_memory bounded shared wide paged = of_two (sizes_at bounded) (page_at paged) (λ sizes page. record { initial = sizes.0; maximum = sizes.1; memory64 = wide; shared = shared; page_size_log2 = page })

memory_marks : (bounded shared wide paged : Bool) (rest : List ℕ) → memory_type_at ((mark bounded 1 + (mark shared 2 + mark wide 4 + mark paged 8)) ∷ rest) ≡ sized_memory bounded shared wide paged rest
unfolding memory_type_at marks_at byte_at
memory_marks false false false false rest = refl
memory_marks false false false true rest = refl
memory_marks false false true false rest = refl
memory_marks false false true true rest = refl
memory_marks false true false false rest = refl
memory_marks false true false true rest = refl
memory_marks false true true false rest = refl
memory_marks false true true true rest = refl
memory_marks true false false false rest = refl
memory_marks true false false true rest = refl
memory_marks true false true false rest = refl
memory_marks true false true true rest = refl
memory_marks true true false false rest = refl
memory_marks true true false true rest = refl
memory_marks true true true false rest = refl
memory_marks true true true true rest = refl

pub memory_again : IsReadAgain memory_type_at memory_bytes
unfolding memory_bytes limits page
memory_again m = λ b rest h.
    let paged = not (m.page_size_log2 == 16) in
    let sizes = u64_bytes m.initial ⧺ if_some u64_bytes m.maximum in
    let marks = mark (is_some m.maximum) 1 + (mark m.shared 2 + mark m.memory64 4 + mark paged 8) in
    led marks memory_type_at (sized_memory (is_some m.maximum) m.shared m.memory64 paged) (sizes ⧺ page m.page_size_log2) m (memory_marks (is_some m.maximum) m.shared m.memory64 paged)
    (made_of_two (sizes_at (is_some m.maximum)) (page_at paged) (λ sizes page. record { initial = sizes.0; maximum = sizes.1; memory64 = m.memory64; shared = m.shared; page_size_log2 = page }) sizes (page m.page_size_log2) (m.initial, m.maximum) m.page_size_log2 (sizes_again m.initial m.maximum) (page_of m.page_size_log2 (m.page_size_log2 == 16) refl))
    b rest (join_assoc (byte marks) sizes (page m.page_size_log2) ∙ h)

-- ## Globals

abbrev global_with : ValType → ℕ → GlobalType
global_with t marks = record { content_type = t; mutable = has_bit marks 1; shared = has_bit marks 2 }

global_of : (t : ValType) (mutable shared : Bool) → Reads global_type_at (val_bytes t ⧺ byte (mark mutable 1 + mark shared 2)) (record { content_type = t; mutable = mutable; shared = shared })
unfolding global_type_at marks_at byte_at
global_of t false false = made_of_two core_val_at (marks_at 3) global_with (val_bytes t) (byte 0) t 0 (val_again t) (known (0 ∷ []) (marks_at 3) 0 (λ rest. refl))
global_of t true false = made_of_two core_val_at (marks_at 3) global_with (val_bytes t) (byte 1) t 1 (val_again t) (known (1 ∷ []) (marks_at 3) 1 (λ rest. refl))
global_of t false true = made_of_two core_val_at (marks_at 3) global_with (val_bytes t) (byte 2) t 2 (val_again t) (known (2 ∷ []) (marks_at 3) 2 (λ rest. refl))
global_of t true true = made_of_two core_val_at (marks_at 3) global_with (val_bytes t) (byte 3) t 3 (val_again t) (known (3 ∷ []) (marks_at 3) 3 (λ rest. refl))

pub global_again : IsReadAgain global_type_at global_bytes
unfolding global_bytes
global_again g = global_of g.content_type g.mutable g.shared

-- ## Entities and imports

pub entity_again : IsReadAgain entity_at entity_bytes
unfolding entity_at byte_at zero_at entity_bytes
entity_again (ty.Func i) = led 0 entity_at (of_one u32_at ty.Func) (u32_bytes i) (ty.Func i) (λ rest. refl) (made u32_at ty.Func (u32_bytes i) i (u32_again i))
entity_again (ty.Table t) = led 1 entity_at (of_one table_type_at ty.Table) (table_bytes t) (ty.Table t) (λ rest. refl) (made table_type_at ty.Table (table_bytes t) t (table_again t))
entity_again (ty.Memory m) = led 2 entity_at (of_one memory_type_at ty.Memory) (memory_bytes m) (ty.Memory m) (λ rest. refl) (made memory_type_at ty.Memory (memory_bytes m) m (memory_again m))
entity_again (ty.Global g) = led 3 entity_at (of_one global_type_at ty.Global) (global_bytes g) (ty.Global g) (λ rest. refl) (made global_type_at ty.Global (global_bytes g) g (global_again g))
entity_again (ty.Tag i) =
    led 4 entity_at (λ rest. zero_at rest >>= of_one u32_at ty.Tag) (byte 0 ⧺ u32_bytes i) (ty.Tag i) (λ rest. refl)
    (led 0 (λ rest. zero_at rest >>= of_one u32_at ty.Tag) (of_one u32_at ty.Tag) (u32_bytes i) (ty.Tag i) (λ rest. refl) (made u32_at ty.Tag (u32_bytes i) i (u32_again i)))

pub core_import_again : IsReadAgain core_import_at core_import_bytes
unfolding core_import_at core_import_bytes
core_import_again i =
    behind text_at (λ from. text_at from.1 >>= λ name. entity_at name.1 >>= λ t. Ok (record { «module» = from.0; name = name.0; ty = t.0 }, t.1)) (text i.«module») (text i.name ⧺ entity_bytes i.ty) i.«module» i (text_again i.«module»)
    (made_of_two text_at entity_at (λ name t. record { «module» = i.«module»; name = name; ty = t }) (text i.name) (entity_bytes i.ty) i.name i.ty (text_again i.name) (entity_again i.ty))

-- what is imported does not begin as many imports do
opens_one : (t : TypeRef) (b rest : List ℕ) → entity_bytes t ≡ Some b → opens_many (b ++ rest) ≡ false
unfolding entity_bytes
opens_one (ty.Func i) b rest e = begun 0 (λ c. opens_many (c ++ rest) ≡ false) (u32_bytes i) (λ c. refl) b e
opens_one (ty.Table t) b rest e = begun 1 (λ c. opens_many (c ++ rest) ≡ false) (table_bytes t) (λ c. refl) b e
opens_one (ty.Memory m) b rest e = begun 2 (λ c. opens_many (c ++ rest) ≡ false) (memory_bytes m) (λ c. refl) b e
opens_one (ty.Global g) b rest e = begun 3 (λ c. opens_many (c ++ rest) ≡ false) (global_bytes g) (λ c. refl) b e
opens_one (ty.Tag i) b rest e = begun 4 (λ c. opens_many (c ++ rest) ≡ false) (byte 0 ⧺ u32_bytes i) (λ c. refl) b e

and_false : (t : Bool) → t && false ≡ false
and_false true = refl
and_false false = refl

pub module_import_again : IsReadAgain module_import_at core_import_bytes
unfolding module_import_at core_import_bytes
module_import_again i =
    behind text_at (λ from. text_at from.1 >>= λ name. cond (length name.0 == 0 && opens_many name.1) (Err (fault UnsupportedImports name.1)) (of_one entity_at (λ t. record { «module» = from.0; name = name.0; ty = t }) name.1)) (text i.«module») (text i.name ⧺ entity_bytes i.ty) i.«module» i (text_again i.«module»)
    (behind text_at (λ name. cond (length name.0 == 0 && opens_many name.1) (Err (fault UnsupportedImports name.1)) (of_one entity_at (λ t. record { «module» = i.«module»; name = name.0; ty = t }) name.1)) (text i.name) (entity_bytes i.ty) i.name i (text_again i.name)
    (λ b rest e. rw (opens_one i.ty b rest e, and_false (length i.name == 0)) (made entity_at (λ t. record { «module» = i.«module»; name = i.name; ty = t }) (entity_bytes i.ty) i.ty (entity_again i.ty) b rest e)))
