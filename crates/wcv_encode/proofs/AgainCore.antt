-- Core value types and fields are read again.
use Rattle.std.proofs.Common.{◌≡◌, ℕ, ◌+◌, ◌/◌, ◌%◌, ◌^◌, ◌<◌, ◌≤◌, ◌⊎◌, inl, inr, Bool, true, false, cond, nat_lt, nat_eq, None, Ok, List, [], ◌∷◌, ◌++◌, refl, sym, ap, ◌∙◌, arith}
use Rattle.std.proofs.lemmas.Bool.Decides.{nat_tests}
use Rattle.wcv_core.specs.declared.core_types.AbstractHeap.{AbstractHeap}
use Rattle.wcv_core.specs.declared.core_types.AbstractHeap.TheVariants as abstract
use Rattle.wcv_core.specs.declared.core_types.HeapType.{HeapType}
use Rattle.wcv_core.specs.declared.core_types.HeapType.TheVariants as heap
use Rattle.wcv_core.specs.declared.core_types.RefType.{RefType}
use Rattle.wcv_core.specs.declared.core_types.StorageType.TheVariants as storage
use Rattle.wcv_core.specs.declared.core_types.ValType.TheVariants as val
use Rattle.wcv_bytes.specs.Reading.{byte_at, flag_at, under_byte, of_one, index_at}
use Rattle.wcv_binary.specs.CoreValues.{heap_bytes as heaps, named_heap_at, heap_at, full_ref_at, ref_type_at, core_val_at, storage_at, field_at}
use Rattle.wcv_encode.specs.Bytes.{byte, flag, leb128, s33_bytes}
use Rattle.wcv_encode.specs.CoreTypes.{abstract_byte, heap_bytes, ref_form, ref_bytes, val_bytes, storage_bytes, field_bytes}
use Rattle.wcv_encode.specs.Laws.{Reads, IsReadAgain}
use Rattle.wcv_encode.proofs.Again.{made, made_of_two, led, known}
use Rattle.wcv_encode.proofs.AgainNumbers.{guarded, below, s33_again}
use Rattle.wcv_encode.proofs.AgainLists.{flag_again}

-- ## Heap types

named_heap_again : (a : AbstractHeap) → Reads named_heap_at (byte (abstract_byte a)) a
unfolding named_heap_at byte_at abstract_byte
named_heap_again abstract.NoExn = known (0x74 ∷ []) named_heap_at abstract.NoExn (λ rest. refl)
named_heap_again abstract.NoFunc = known (0x73 ∷ []) named_heap_at abstract.NoFunc (λ rest. refl)
named_heap_again abstract.NoExtern = known (0x72 ∷ []) named_heap_at abstract.NoExtern (λ rest. refl)
named_heap_again abstract.None = known (0x71 ∷ []) named_heap_at abstract.None (λ rest. refl)
named_heap_again abstract.Func = known (0x70 ∷ []) named_heap_at abstract.Func (λ rest. refl)
named_heap_again abstract.Extern = known (0x6F ∷ []) named_heap_at abstract.Extern (λ rest. refl)
named_heap_again abstract.Any = known (0x6E ∷ []) named_heap_at abstract.Any (λ rest. refl)
named_heap_again abstract.Eq = known (0x6D ∷ []) named_heap_at abstract.Eq (λ rest. refl)
named_heap_again abstract.I31 = known (0x6C ∷ []) named_heap_at abstract.I31 (λ rest. refl)
named_heap_again abstract.Struct = known (0x6B ∷ []) named_heap_at abstract.Struct (λ rest. refl)
named_heap_again abstract.Array = known (0x6A ∷ []) named_heap_at abstract.Array (λ rest. refl)
named_heap_again abstract.Exn = known (0x69 ∷ []) named_heap_at abstract.Exn (λ rest. refl)

-- no heap has a byte that may begin an index
no_heap : (x : ℕ) → (x < 64) ⊎ (128 ≤ x) → under_byte heaps x ≡ None
no_heap x h = grind (arith, nat_tests)

other : (x k : ℕ) → 64 ≤ k → k < 128 → (x < 64) ⊎ (128 ≤ x) → nat_eq x k ≡ false
other x k l m h = grind (arith, nat_tests)

-- a reference that is not shared
abbrev unshared : Bool → HeapType → RefType
unshared nullable h = record { nullable = nullable; shared = false; heap = h }

heap_of_index : (x : ℕ) (bytes : List ℕ) → (x < 64) ⊎ (128 ≤ x) → heap_at (x ∷ bytes) ≡ of_one index_at heap.Index (x ∷ bytes)
unfolding heap_at byte_at
heap_of_index x bytes h = rw (no_heap x h, other x 0x68 (omega arith) (omega arith) h, other x 0x75 (omega arith) (omega arith) h, other x 0x62 (omega arith) (omega arith) h) refl

full_of_index : (nullable : Bool) (x : ℕ) (bytes : List ℕ) → (x < 64) ⊎ (128 ≤ x) → full_ref_at nullable (x ∷ bytes) ≡ of_one (of_one index_at heap.Index) (unshared nullable) (x ∷ bytes)
unfolding full_ref_at byte_at
full_of_index nullable x bytes h = rw (other x 0x65 (omega arith) (omega arith) h, heap_of_index x bytes h) refl

full_index : (nullable : Bool) (n : ℕ) (rest : List ℕ) → full_ref_at nullable (leb128 64 4 n ++ rest) ≡ of_one (of_one index_at heap.Index) (unshared nullable) (leb128 64 4 n ++ rest)
unfolding leb128
full_index nullable n rest =
    elim (nat_lt n 64) as (λ t. nat_lt n 64 ≡ t → full_ref_at nullable (cond t (n ∷ []) ((128 + n % 128) ∷ leb128 64 3 (n / 128)) ++ rest) ≡ of_one (of_one index_at heap.Index) (unshared nullable) (cond t (n ∷ []) ((128 + n % 128) ∷ leb128 64 3 (n / 128)) ++ rest)) [
      | true ↦ λ e. full_of_index nullable n rest (inl (below n 64 e))
      | false ↦ λ e. full_of_index nullable (128 + n % 128) (leb128 64 3 (n / 128) ++ rest) (inr (omega arith))
    ] refl

-- ## Reference types

full_named : (nullable : Bool) (a : AbstractHeap) (rest : List ℕ) → full_ref_at nullable (abstract_byte a ∷ rest) ≡ Ok (unshared nullable (heap.Abstract a), rest)
unfolding full_ref_at heap_at byte_at abstract_byte
full_named nullable abstract.NoExn rest = refl
full_named nullable abstract.NoFunc rest = refl
full_named nullable abstract.NoExtern rest = refl
full_named nullable abstract.None rest = refl
full_named nullable abstract.Func rest = refl
full_named nullable abstract.Extern rest = refl
full_named nullable abstract.Any rest = refl
full_named nullable abstract.Eq rest = refl
full_named nullable abstract.I31 rest = refl
full_named nullable abstract.Struct rest = refl
full_named nullable abstract.Array rest = refl
full_named nullable abstract.Exn rest = refl

pub full_again : (nullable shared : Bool) (h : HeapType) → Reads (full_ref_at nullable) (heap_bytes shared h) (record { nullable = nullable; shared = shared; heap = h })
unfolding heap_bytes s33_bytes full_ref_at byte_at
full_again nullable false (heap.Abstract a) = known (abstract_byte a ∷ []) (full_ref_at nullable) (unshared nullable (heap.Abstract a)) (full_named nullable a)
full_again nullable true (heap.Abstract a) =
    led 0x65 (full_ref_at nullable) (of_one named_heap_at (λ x. record { nullable = nullable; shared = true; heap = heap.Abstract x })) (byte (abstract_byte a)) (record { nullable = nullable; shared = true; heap = heap.Abstract a }) (λ rest. refl) (made named_heap_at (λ x. record { nullable = nullable; shared = true; heap = heap.Abstract x }) (byte (abstract_byte a)) a (named_heap_again a))
full_again nullable false (heap.Index i) = λ b rest e.
    let g = guarded (nat_lt i (2 ^ 32)) (leb128 64 4 i) b e in
    ap (λ y. full_ref_at nullable (y ++ rest)) (sym g.1) ∙ full_index nullable i rest ∙ ap (λ y. of_one (of_one index_at heap.Index) (unshared nullable) (y ++ rest)) g.1 ∙ made (of_one index_at heap.Index) (unshared nullable) (s33_bytes i) (heap.Index i) (made index_at heap.Index (s33_bytes i) i (s33_again i)) b rest e
full_again nullable true (heap.Index i) = λ b rest e. absurd (cc)
full_again nullable false (heap.Id i) = λ b rest e. absurd (cc)
full_again nullable true (heap.Id i) = λ b rest e. absurd (cc)

ref_named : (a : AbstractHeap) (rest : List ℕ) → ref_type_at (abstract_byte a ∷ rest) ≡ Ok (unshared true (heap.Abstract a), rest)
unfolding ref_type_at byte_at full_ref_at heap_at abstract_byte
ref_named abstract.NoExn rest = refl
ref_named abstract.NoFunc rest = refl
ref_named abstract.NoExtern rest = refl
ref_named abstract.None rest = refl
ref_named abstract.Func rest = refl
ref_named abstract.Extern rest = refl
ref_named abstract.Any rest = refl
ref_named abstract.Eq rest = refl
ref_named abstract.I31 rest = refl
ref_named abstract.Struct rest = refl
ref_named abstract.Array rest = refl
ref_named abstract.Exn rest = refl

ref_of : (nullable shared : Bool) (h : HeapType) → Reads ref_type_at (ref_form nullable shared h) (record { nullable = nullable; shared = shared; heap = h })
unfolding ref_type_at byte_at full_ref_at heap_at ref_form
ref_of true false (heap.Abstract a) = known (abstract_byte a ∷ []) ref_type_at (unshared true (heap.Abstract a)) (ref_named a)
ref_of true false (heap.Index i) = led 0x63 ref_type_at (full_ref_at true) (heap_bytes false (heap.Index i)) (record { nullable = true; shared = false; heap = heap.Index i }) (λ rest. refl) (full_again true false (heap.Index i))
ref_of true false (heap.Id i) = led 0x63 ref_type_at (full_ref_at true) (heap_bytes false (heap.Id i)) (record { nullable = true; shared = false; heap = heap.Id i }) (λ rest. refl) (full_again true false (heap.Id i))
ref_of true true (heap.Abstract a) = led 0x63 ref_type_at (full_ref_at true) (heap_bytes true (heap.Abstract a)) (record { nullable = true; shared = true; heap = heap.Abstract a }) (λ rest. refl) (full_again true true (heap.Abstract a))
ref_of true true (heap.Index i) = led 0x63 ref_type_at (full_ref_at true) (heap_bytes true (heap.Index i)) (record { nullable = true; shared = true; heap = heap.Index i }) (λ rest. refl) (full_again true true (heap.Index i))
ref_of true true (heap.Id i) = led 0x63 ref_type_at (full_ref_at true) (heap_bytes true (heap.Id i)) (record { nullable = true; shared = true; heap = heap.Id i }) (λ rest. refl) (full_again true true (heap.Id i))
ref_of false true (heap.Abstract a) = led 0x64 ref_type_at (full_ref_at false) (heap_bytes true (heap.Abstract a)) (record { nullable = false; shared = true; heap = heap.Abstract a }) (λ rest. refl) (full_again false true (heap.Abstract a))
ref_of false true (heap.Index i) = led 0x64 ref_type_at (full_ref_at false) (heap_bytes true (heap.Index i)) (record { nullable = false; shared = true; heap = heap.Index i }) (λ rest. refl) (full_again false true (heap.Index i))
ref_of false true (heap.Id i) = led 0x64 ref_type_at (full_ref_at false) (heap_bytes true (heap.Id i)) (record { nullable = false; shared = true; heap = heap.Id i }) (λ rest. refl) (full_again false true (heap.Id i))
ref_of false false (heap.Abstract a) = led 0x64 ref_type_at (full_ref_at false) (heap_bytes false (heap.Abstract a)) (record { nullable = false; shared = false; heap = heap.Abstract a }) (λ rest. refl) (full_again false false (heap.Abstract a))
ref_of false false (heap.Index i) = led 0x64 ref_type_at (full_ref_at false) (heap_bytes false (heap.Index i)) (record { nullable = false; shared = false; heap = heap.Index i }) (λ rest. refl) (full_again false false (heap.Index i))
ref_of false false (heap.Id i) = led 0x64 ref_type_at (full_ref_at false) (heap_bytes false (heap.Id i)) (record { nullable = false; shared = false; heap = heap.Id i }) (λ rest. refl) (full_again false false (heap.Id i))

pub ref_again : IsReadAgain ref_type_at ref_bytes
ref_again r = ref_of r.nullable r.shared r.heap

-- ## Value types

val_named : (a : AbstractHeap) (rest : List ℕ) → core_val_at (abstract_byte a ∷ rest) ≡ Ok (val.Ref (unshared true (heap.Abstract a)), rest)
unfolding core_val_at ref_type_at byte_at abstract_byte
val_named abstract.NoExn rest = refl
val_named abstract.NoFunc rest = refl
val_named abstract.NoExtern rest = refl
val_named abstract.None rest = refl
val_named abstract.Func rest = refl
val_named abstract.Extern rest = refl
val_named abstract.Any rest = refl
val_named abstract.Eq rest = refl
val_named abstract.I31 rest = refl
val_named abstract.Struct rest = refl
val_named abstract.Array rest = refl
val_named abstract.Exn rest = refl

val_of : (nullable shared : Bool) (h : HeapType) → Reads core_val_at (ref_form nullable shared h) (val.Ref (record { nullable = nullable; shared = shared; heap = h }))
unfolding core_val_at ref_type_at byte_at ref_form
val_of true false (heap.Abstract a) = known (abstract_byte a ∷ []) core_val_at (val.Ref (unshared true (heap.Abstract a))) (val_named a)
val_of true false (heap.Index i) = led 0x63 core_val_at (of_one (full_ref_at true) val.Ref) (heap_bytes false (heap.Index i)) (val.Ref (record { nullable = true; shared = false; heap = heap.Index i })) (λ rest. refl) (made (full_ref_at true) val.Ref (heap_bytes false (heap.Index i)) (record { nullable = true; shared = false; heap = heap.Index i }) (full_again true false (heap.Index i)))
val_of true false (heap.Id i) = led 0x63 core_val_at (of_one (full_ref_at true) val.Ref) (heap_bytes false (heap.Id i)) (val.Ref (record { nullable = true; shared = false; heap = heap.Id i })) (λ rest. refl) (made (full_ref_at true) val.Ref (heap_bytes false (heap.Id i)) (record { nullable = true; shared = false; heap = heap.Id i }) (full_again true false (heap.Id i)))
val_of true true (heap.Abstract a) = led 0x63 core_val_at (of_one (full_ref_at true) val.Ref) (heap_bytes true (heap.Abstract a)) (val.Ref (record { nullable = true; shared = true; heap = heap.Abstract a })) (λ rest. refl) (made (full_ref_at true) val.Ref (heap_bytes true (heap.Abstract a)) (record { nullable = true; shared = true; heap = heap.Abstract a }) (full_again true true (heap.Abstract a)))
val_of true true (heap.Index i) = led 0x63 core_val_at (of_one (full_ref_at true) val.Ref) (heap_bytes true (heap.Index i)) (val.Ref (record { nullable = true; shared = true; heap = heap.Index i })) (λ rest. refl) (made (full_ref_at true) val.Ref (heap_bytes true (heap.Index i)) (record { nullable = true; shared = true; heap = heap.Index i }) (full_again true true (heap.Index i)))
val_of true true (heap.Id i) = led 0x63 core_val_at (of_one (full_ref_at true) val.Ref) (heap_bytes true (heap.Id i)) (val.Ref (record { nullable = true; shared = true; heap = heap.Id i })) (λ rest. refl) (made (full_ref_at true) val.Ref (heap_bytes true (heap.Id i)) (record { nullable = true; shared = true; heap = heap.Id i }) (full_again true true (heap.Id i)))
val_of false true (heap.Abstract a) = led 0x64 core_val_at (of_one (full_ref_at false) val.Ref) (heap_bytes true (heap.Abstract a)) (val.Ref (record { nullable = false; shared = true; heap = heap.Abstract a })) (λ rest. refl) (made (full_ref_at false) val.Ref (heap_bytes true (heap.Abstract a)) (record { nullable = false; shared = true; heap = heap.Abstract a }) (full_again false true (heap.Abstract a)))
val_of false true (heap.Index i) = led 0x64 core_val_at (of_one (full_ref_at false) val.Ref) (heap_bytes true (heap.Index i)) (val.Ref (record { nullable = false; shared = true; heap = heap.Index i })) (λ rest. refl) (made (full_ref_at false) val.Ref (heap_bytes true (heap.Index i)) (record { nullable = false; shared = true; heap = heap.Index i }) (full_again false true (heap.Index i)))
val_of false true (heap.Id i) = led 0x64 core_val_at (of_one (full_ref_at false) val.Ref) (heap_bytes true (heap.Id i)) (val.Ref (record { nullable = false; shared = true; heap = heap.Id i })) (λ rest. refl) (made (full_ref_at false) val.Ref (heap_bytes true (heap.Id i)) (record { nullable = false; shared = true; heap = heap.Id i }) (full_again false true (heap.Id i)))
val_of false false (heap.Abstract a) = led 0x64 core_val_at (of_one (full_ref_at false) val.Ref) (heap_bytes false (heap.Abstract a)) (val.Ref (record { nullable = false; shared = false; heap = heap.Abstract a })) (λ rest. refl) (made (full_ref_at false) val.Ref (heap_bytes false (heap.Abstract a)) (record { nullable = false; shared = false; heap = heap.Abstract a }) (full_again false false (heap.Abstract a)))
val_of false false (heap.Index i) = led 0x64 core_val_at (of_one (full_ref_at false) val.Ref) (heap_bytes false (heap.Index i)) (val.Ref (record { nullable = false; shared = false; heap = heap.Index i })) (λ rest. refl) (made (full_ref_at false) val.Ref (heap_bytes false (heap.Index i)) (record { nullable = false; shared = false; heap = heap.Index i }) (full_again false false (heap.Index i)))
val_of false false (heap.Id i) = led 0x64 core_val_at (of_one (full_ref_at false) val.Ref) (heap_bytes false (heap.Id i)) (val.Ref (record { nullable = false; shared = false; heap = heap.Id i })) (λ rest. refl) (made (full_ref_at false) val.Ref (heap_bytes false (heap.Id i)) (record { nullable = false; shared = false; heap = heap.Id i }) (full_again false false (heap.Id i)))

pub val_again : IsReadAgain core_val_at val_bytes
unfolding core_val_at byte_at val_bytes
val_again val.I32 = known (0x7F ∷ []) core_val_at val.I32 (λ rest. refl)
val_again val.I64 = known (0x7E ∷ []) core_val_at val.I64 (λ rest. refl)
val_again val.F32 = known (0x7D ∷ []) core_val_at val.F32 (λ rest. refl)
val_again val.F64 = known (0x7C ∷ []) core_val_at val.F64 (λ rest. refl)
val_again val.V128 = known (0x7B ∷ []) core_val_at val.V128 (λ rest. refl)
val_again (val.Ref r) = val_of r.nullable r.shared r.heap

-- ## Fields

storage_named : (a : AbstractHeap) (rest : List ℕ) → storage_at (abstract_byte a ∷ rest) ≡ Ok (storage.Val (val.Ref (unshared true (heap.Abstract a))), rest)
unfolding storage_at core_val_at ref_type_at byte_at abstract_byte
storage_named abstract.NoExn rest = refl
storage_named abstract.NoFunc rest = refl
storage_named abstract.NoExtern rest = refl
storage_named abstract.None rest = refl
storage_named abstract.Func rest = refl
storage_named abstract.Extern rest = refl
storage_named abstract.Any rest = refl
storage_named abstract.Eq rest = refl
storage_named abstract.I31 rest = refl
storage_named abstract.Struct rest = refl
storage_named abstract.Array rest = refl
storage_named abstract.Exn rest = refl

storage_of : (nullable shared : Bool) (h : HeapType) → Reads storage_at (ref_form nullable shared h) (storage.Val (val.Ref (record { nullable = nullable; shared = shared; heap = h })))
unfolding storage_at core_val_at ref_type_at byte_at ref_form
storage_of true false (heap.Abstract a) = known (abstract_byte a ∷ []) storage_at (storage.Val (val.Ref (unshared true (heap.Abstract a)))) (storage_named a)
storage_of true false (heap.Index i) = led 0x63 storage_at (of_one (of_one (full_ref_at true) val.Ref) storage.Val) (heap_bytes false (heap.Index i)) (storage.Val (val.Ref (record { nullable = true; shared = false; heap = heap.Index i }))) (λ rest. refl) (made (of_one (full_ref_at true) val.Ref) storage.Val (heap_bytes false (heap.Index i)) (val.Ref (record { nullable = true; shared = false; heap = heap.Index i })) (made (full_ref_at true) val.Ref (heap_bytes false (heap.Index i)) (record { nullable = true; shared = false; heap = heap.Index i }) (full_again true false (heap.Index i))))
storage_of true false (heap.Id i) = led 0x63 storage_at (of_one (of_one (full_ref_at true) val.Ref) storage.Val) (heap_bytes false (heap.Id i)) (storage.Val (val.Ref (record { nullable = true; shared = false; heap = heap.Id i }))) (λ rest. refl) (made (of_one (full_ref_at true) val.Ref) storage.Val (heap_bytes false (heap.Id i)) (val.Ref (record { nullable = true; shared = false; heap = heap.Id i })) (made (full_ref_at true) val.Ref (heap_bytes false (heap.Id i)) (record { nullable = true; shared = false; heap = heap.Id i }) (full_again true false (heap.Id i))))
storage_of true true (heap.Abstract a) = led 0x63 storage_at (of_one (of_one (full_ref_at true) val.Ref) storage.Val) (heap_bytes true (heap.Abstract a)) (storage.Val (val.Ref (record { nullable = true; shared = true; heap = heap.Abstract a }))) (λ rest. refl) (made (of_one (full_ref_at true) val.Ref) storage.Val (heap_bytes true (heap.Abstract a)) (val.Ref (record { nullable = true; shared = true; heap = heap.Abstract a })) (made (full_ref_at true) val.Ref (heap_bytes true (heap.Abstract a)) (record { nullable = true; shared = true; heap = heap.Abstract a }) (full_again true true (heap.Abstract a))))
storage_of true true (heap.Index i) = led 0x63 storage_at (of_one (of_one (full_ref_at true) val.Ref) storage.Val) (heap_bytes true (heap.Index i)) (storage.Val (val.Ref (record { nullable = true; shared = true; heap = heap.Index i }))) (λ rest. refl) (made (of_one (full_ref_at true) val.Ref) storage.Val (heap_bytes true (heap.Index i)) (val.Ref (record { nullable = true; shared = true; heap = heap.Index i })) (made (full_ref_at true) val.Ref (heap_bytes true (heap.Index i)) (record { nullable = true; shared = true; heap = heap.Index i }) (full_again true true (heap.Index i))))
storage_of true true (heap.Id i) = led 0x63 storage_at (of_one (of_one (full_ref_at true) val.Ref) storage.Val) (heap_bytes true (heap.Id i)) (storage.Val (val.Ref (record { nullable = true; shared = true; heap = heap.Id i }))) (λ rest. refl) (made (of_one (full_ref_at true) val.Ref) storage.Val (heap_bytes true (heap.Id i)) (val.Ref (record { nullable = true; shared = true; heap = heap.Id i })) (made (full_ref_at true) val.Ref (heap_bytes true (heap.Id i)) (record { nullable = true; shared = true; heap = heap.Id i }) (full_again true true (heap.Id i))))
storage_of false true (heap.Abstract a) = led 0x64 storage_at (of_one (of_one (full_ref_at false) val.Ref) storage.Val) (heap_bytes true (heap.Abstract a)) (storage.Val (val.Ref (record { nullable = false; shared = true; heap = heap.Abstract a }))) (λ rest. refl) (made (of_one (full_ref_at false) val.Ref) storage.Val (heap_bytes true (heap.Abstract a)) (val.Ref (record { nullable = false; shared = true; heap = heap.Abstract a })) (made (full_ref_at false) val.Ref (heap_bytes true (heap.Abstract a)) (record { nullable = false; shared = true; heap = heap.Abstract a }) (full_again false true (heap.Abstract a))))
storage_of false true (heap.Index i) = led 0x64 storage_at (of_one (of_one (full_ref_at false) val.Ref) storage.Val) (heap_bytes true (heap.Index i)) (storage.Val (val.Ref (record { nullable = false; shared = true; heap = heap.Index i }))) (λ rest. refl) (made (of_one (full_ref_at false) val.Ref) storage.Val (heap_bytes true (heap.Index i)) (val.Ref (record { nullable = false; shared = true; heap = heap.Index i })) (made (full_ref_at false) val.Ref (heap_bytes true (heap.Index i)) (record { nullable = false; shared = true; heap = heap.Index i }) (full_again false true (heap.Index i))))
storage_of false true (heap.Id i) = led 0x64 storage_at (of_one (of_one (full_ref_at false) val.Ref) storage.Val) (heap_bytes true (heap.Id i)) (storage.Val (val.Ref (record { nullable = false; shared = true; heap = heap.Id i }))) (λ rest. refl) (made (of_one (full_ref_at false) val.Ref) storage.Val (heap_bytes true (heap.Id i)) (val.Ref (record { nullable = false; shared = true; heap = heap.Id i })) (made (full_ref_at false) val.Ref (heap_bytes true (heap.Id i)) (record { nullable = false; shared = true; heap = heap.Id i }) (full_again false true (heap.Id i))))
storage_of false false (heap.Abstract a) = led 0x64 storage_at (of_one (of_one (full_ref_at false) val.Ref) storage.Val) (heap_bytes false (heap.Abstract a)) (storage.Val (val.Ref (record { nullable = false; shared = false; heap = heap.Abstract a }))) (λ rest. refl) (made (of_one (full_ref_at false) val.Ref) storage.Val (heap_bytes false (heap.Abstract a)) (val.Ref (record { nullable = false; shared = false; heap = heap.Abstract a })) (made (full_ref_at false) val.Ref (heap_bytes false (heap.Abstract a)) (record { nullable = false; shared = false; heap = heap.Abstract a }) (full_again false false (heap.Abstract a))))
storage_of false false (heap.Index i) = led 0x64 storage_at (of_one (of_one (full_ref_at false) val.Ref) storage.Val) (heap_bytes false (heap.Index i)) (storage.Val (val.Ref (record { nullable = false; shared = false; heap = heap.Index i }))) (λ rest. refl) (made (of_one (full_ref_at false) val.Ref) storage.Val (heap_bytes false (heap.Index i)) (val.Ref (record { nullable = false; shared = false; heap = heap.Index i })) (made (full_ref_at false) val.Ref (heap_bytes false (heap.Index i)) (record { nullable = false; shared = false; heap = heap.Index i }) (full_again false false (heap.Index i))))
storage_of false false (heap.Id i) = led 0x64 storage_at (of_one (of_one (full_ref_at false) val.Ref) storage.Val) (heap_bytes false (heap.Id i)) (storage.Val (val.Ref (record { nullable = false; shared = false; heap = heap.Id i }))) (λ rest. refl) (made (of_one (full_ref_at false) val.Ref) storage.Val (heap_bytes false (heap.Id i)) (val.Ref (record { nullable = false; shared = false; heap = heap.Id i })) (made (full_ref_at false) val.Ref (heap_bytes false (heap.Id i)) (record { nullable = false; shared = false; heap = heap.Id i }) (full_again false false (heap.Id i))))

storage_again : IsReadAgain storage_at storage_bytes
unfolding storage_at core_val_at byte_at storage_bytes val_bytes
storage_again storage.I8 = known (0x78 ∷ []) storage_at storage.I8 (λ rest. refl)
storage_again storage.I16 = known (0x77 ∷ []) storage_at storage.I16 (λ rest. refl)
storage_again (storage.Val val.I32) = known (0x7F ∷ []) storage_at (storage.Val val.I32) (λ rest. refl)
storage_again (storage.Val val.I64) = known (0x7E ∷ []) storage_at (storage.Val val.I64) (λ rest. refl)
storage_again (storage.Val val.F32) = known (0x7D ∷ []) storage_at (storage.Val val.F32) (λ rest. refl)
storage_again (storage.Val val.F64) = known (0x7C ∷ []) storage_at (storage.Val val.F64) (λ rest. refl)
storage_again (storage.Val val.V128) = known (0x7B ∷ []) storage_at (storage.Val val.V128) (λ rest. refl)
storage_again (storage.Val (val.Ref r)) = storage_of r.nullable r.shared r.heap

pub field_again : IsReadAgain field_at field_bytes
unfolding field_at field_bytes
field_again f =
    made_of_two storage_at flag_at (λ stored flag. record { storage = stored; mutable = flag }) (storage_bytes f.storage) (flag f.mutable) f.storage f.mutable (storage_again f.storage) (flag_again f.mutable)
