-- The constants of globals end where they end, and what a core module has of its own is read again.
use Rattle.std.proofs.Common.{◌≡◌, ℕ, zero, suc, ◌+◌, ◌<◌, ◌≤◌, Bool, true, false, cond, nat_eq, Some, Ok, List, [], ◌∷◌, ◌++◌, length, drop, replicate, refl, sym, ap, ◌∙◌, subst, append_assoc, arith}
use Rattle.std.proofs.lemmas.List.{length-append}
use Rattle.std.proofs.lemmas.Bool.Decides.{nat_tests}
use Rattle.wcv_core.specs.declared.core_types.AbstractHeap.{AbstractHeap}
use Rattle.wcv_core.specs.declared.core_types.AbstractHeap.TheVariants as abstract
use Rattle.wcv_core.specs.declared.core_types.GlobalType.{GlobalType}
use Rattle.wcv_core.specs.declared.core_types.HeapType.{HeapType}
use Rattle.wcv_core.specs.declared.core_types.HeapType.TheVariants as heap
use Rattle.wcv_core.specs.declared.core_types.ValType.{ValType}
use Rattle.wcv_core.specs.declared.core_types.ValType.TheVariants as val
use Rattle.wcv_bytes.specs.Reading.{◌>>=◌, u32_at, leb_at, zero_at, of_one}
use Rattle.wcv_binary.specs.Constants.{signed_end, heap_end, bytes_end, vector_end, instruction_end, constant_within, constant_at}
use Rattle.wcv_binary.specs.CoreValues.{full_ref_at}
use Rattle.wcv_binary.specs.Entities.{table_type_at, global_type_at}
use Rattle.wcv_binary.specs.ModuleItems.{table_at, global_at, tag_at}
use Rattle.wcv_encode.specs.Bytes.{◌⧺◌, byte, u32_bytes}
use Rattle.wcv_encode.specs.CoreTypes.{abstract_byte, heap_bytes, ref_form, ref_bytes, mark, table_bytes, limits, global_bytes}
use Rattle.wcv_encode.specs.Modules.{constant}
use Rattle.wcv_encode.specs.Laws.{Reads, IsReadAgain}
use Rattle.wcv_encode.proofs.Again.{some_of, behind, made, led, begun, begun_by, parted}
use Rattle.wcv_encode.proofs.AgainNumbers.{u32_again, not_below}
use Rattle.wcv_encode.proofs.AgainCore.{full_again}
use Rattle.wcv_encode.proofs.AgainEntities.{table_again, global_again}

-- ## Constants

-- bytes that are passed over
passed : (n : ℕ) (xs rest : List ℕ) → n ≤ length xs → drop n xs ≡ rest → bytes_end n xs ≡ Ok rest
unfolding bytes_end
passed n xs rest h e = rw (not_below (length xs) n h) (ap Ok e)

ended_at : (most : ℕ) (rest : List ℕ) → 0 < most → constant_within most (0x0B ∷ rest) ≡ Ok rest
unfolding constant_within
ended_at zero rest h = absurd (omega (arith, h))
ended_at (suc most) rest h = refl

-- an instruction alone
one_instruction : (n : ℕ) (b rest : List ℕ) → nat_eq n 0x0B ≡ false → instruction_end (n ∷ b) ≡ Ok (0x0B ∷ rest) → 0 < length b → constant_at (n ∷ b) ≡ Ok rest
unfolding constant_within
one_instruction n b rest other e h = rw (other, e) (ended_at (length b) rest h)

-- a null reference
null_end : (shared : Bool) (h : HeapType) (b rest : List ℕ) → byte 0xD0 ⧺ heap_bytes shared h ⧺ byte 0x0B ≡ Some b → constant_at (b ++ rest) ≡ Ok rest
unfolding instruction_end heap_end
null_end shared h b rest e =
    begun_by 0xD0 (λ c. constant_at (c ++ rest) ≡ Ok rest) (heap_bytes shared h ⧺ byte 0x0B)
    (λ c f. parted (λ z. constant_at (0xD0 ∷ z ++ rest) ≡ Ok rest) (heap_bytes shared h) (byte 0x0B)
    (λ x y first second. one_instruction 0xD0 ((x ++ y) ++ rest) rest refl
    (ap (λ z. full_ref_at true z >>= λ r. Ok r.1) (append_assoc x y rest) ∙ ap (λ z. z >>= λ r. Ok r.1) (full_again true shared h x (y ++ rest) first) ∙ ap Ok (ap (λ z. z ++ rest) (sym (some_of (0x0B ∷ []) y second))))
    (omega (arith, length-append (x ++ y) rest, length-append x y, ap length (some_of (0x0B ∷ []) y second)))) c f) b e

number_end : (rest : List ℕ) → constant_at (0x41 ∷ 0x00 ∷ 0x0B ∷ rest) ≡ Ok rest
unfolding constant_within instruction_end signed_end
number_end rest = refl

wide_end : (rest : List ℕ) → constant_at (0x42 ∷ 0x00 ∷ 0x0B ∷ rest) ≡ Ok rest
unfolding constant_within instruction_end signed_end
wide_end rest = refl

float_end : (rest : List ℕ) → constant_at (0x43 ∷ (replicate 4 0 ++ 0x0B ∷ []) ++ rest) ≡ Ok rest
unfolding instruction_end
float_end rest = one_instruction 0x43 ((replicate 4 0 ++ 0x0B ∷ []) ++ rest) rest refl (passed 4 ((replicate 4 0 ++ 0x0B ∷ []) ++ rest) (0x0B ∷ rest) (omega arith) refl) (omega arith)

double_end : (rest : List ℕ) → constant_at (0x44 ∷ (replicate 8 0 ++ 0x0B ∷ []) ++ rest) ≡ Ok rest
unfolding instruction_end
double_end rest = one_instruction 0x44 ((replicate 8 0 ++ 0x0B ∷ []) ++ rest) rest refl (passed 8 ((replicate 8 0 ++ 0x0B ∷ []) ++ rest) (0x0B ∷ rest) (omega arith) refl) (omega arith)

vector_ends : (rest : List ℕ) → constant_at (0xFD ∷ 0x0C ∷ (replicate 16 0 ++ 0x0B ∷ []) ++ rest) ≡ Ok rest
unfolding instruction_end vector_end leb_at
vector_ends rest = one_instruction 0xFD (0x0C ∷ (replicate 16 0 ++ 0x0B ∷ []) ++ rest) rest refl (passed 16 ((replicate 16 0 ++ 0x0B ∷ []) ++ rest) (0x0B ∷ rest) (omega arith) refl) (omega arith)

ref_end : (nullable shared : Bool) (h : HeapType) (b rest : List ℕ) → cond nullable (byte 0xD0 ⧺ heap_bytes shared h ⧺ byte 0x0B) (byte 0x0B) ≡ Some b → constant_at (b ++ rest) ≡ Ok rest
unfolding constant_within
ref_end true shared h b rest e = null_end shared h b rest e
ref_end false shared h b rest e = ap (λ z. constant_at (z ++ rest)) (sym (some_of (0x0B ∷ []) b e))

constant_end : (t : ValType) (b rest : List ℕ) → constant t ≡ Some b → constant_at (b ++ rest) ≡ Ok rest
unfolding constant
constant_end val.I32 b rest e = ap (λ z. constant_at (z ++ rest)) (sym (some_of (0x41 ∷ 0x00 ∷ 0x0B ∷ []) b e)) ∙ number_end rest
constant_end val.I64 b rest e = ap (λ z. constant_at (z ++ rest)) (sym (some_of (0x42 ∷ 0x00 ∷ 0x0B ∷ []) b e)) ∙ wide_end rest
constant_end val.F32 b rest e = ap (λ z. constant_at (z ++ rest)) (sym (some_of (0x43 ∷ replicate 4 0 ++ 0x0B ∷ []) b e)) ∙ float_end rest
constant_end val.F64 b rest e = ap (λ z. constant_at (z ++ rest)) (sym (some_of (0x44 ∷ replicate 8 0 ++ 0x0B ∷ []) b e)) ∙ double_end rest
constant_end val.V128 b rest e = ap (λ z. constant_at (z ++ rest)) (sym (some_of (0xFD ∷ 0x0C ∷ replicate 16 0 ++ 0x0B ∷ []) b e)) ∙ vector_ends rest
constant_end (val.Ref r) b rest e = ref_end r.nullable r.shared r.heap b rest e

-- ## Items of core modules

pub other : (n k : ℕ) → k < n → nat_eq n k ≡ false
other n k h = grind (arith, nat_tests)

abstract_begins : (a : AbstractHeap) → 0x40 < abstract_byte a
unfolding abstract_byte
abstract_begins abstract.NoExn = omega arith
abstract_begins abstract.NoFunc = omega arith
abstract_begins abstract.NoExtern = omega arith
abstract_begins abstract.None = omega arith
abstract_begins abstract.Func = omega arith
abstract_begins abstract.Extern = omega arith
abstract_begins abstract.Any = omega arith
abstract_begins abstract.Eq = omega arith
abstract_begins abstract.I31 = omega arith
abstract_begins abstract.Struct = omega arith
abstract_begins abstract.Array = omega arith
abstract_begins abstract.Exn = omega arith

-- a reference type does not begin as a table with values does
ref_begins : (P : List ℕ → Type 0) → ((n : ℕ) (c : List ℕ) → 0x40 < n → P (n ∷ c)) → (nullable shared : Bool) (h : HeapType) (b : List ℕ) → ref_form nullable shared h ≡ Some b → P b
unfolding ref_form
ref_begins P each true false (heap.Abstract a) b e = subst P (some_of (abstract_byte a ∷ []) b e) (each (abstract_byte a) [] (abstract_begins a))
ref_begins P each true false (heap.Index i) b e = begun 0x63 P (heap_bytes false (heap.Index i)) (λ c. each 0x63 c (omega arith)) b e
ref_begins P each true false (heap.Id i) b e = begun 0x63 P (heap_bytes false (heap.Id i)) (λ c. each 0x63 c (omega arith)) b e
ref_begins P each true true (heap.Abstract i) b e = begun 0x63 P (heap_bytes true (heap.Abstract i)) (λ c. each 0x63 c (omega arith)) b e
ref_begins P each true true (heap.Index i) b e = begun 0x63 P (heap_bytes true (heap.Index i)) (λ c. each 0x63 c (omega arith)) b e
ref_begins P each true true (heap.Id i) b e = begun 0x63 P (heap_bytes true (heap.Id i)) (λ c. each 0x63 c (omega arith)) b e
ref_begins P each false true (heap.Abstract i) b e = begun 0x64 P (heap_bytes true (heap.Abstract i)) (λ c. each 0x64 c (omega arith)) b e
ref_begins P each false true (heap.Index i) b e = begun 0x64 P (heap_bytes true (heap.Index i)) (λ c. each 0x64 c (omega arith)) b e
ref_begins P each false true (heap.Id i) b e = begun 0x64 P (heap_bytes true (heap.Id i)) (λ c. each 0x64 c (omega arith)) b e
ref_begins P each false false (heap.Abstract i) b e = begun 0x64 P (heap_bytes false (heap.Abstract i)) (λ c. each 0x64 c (omega arith)) b e
ref_begins P each false false (heap.Index i) b e = begun 0x64 P (heap_bytes false (heap.Index i)) (λ c. each 0x64 c (omega arith)) b e
ref_begins P each false false (heap.Id i) b e = begun 0x64 P (heap_bytes false (heap.Id i)) (λ c. each 0x64 c (omega arith)) b e

plain_table : (n : ℕ) (c : List ℕ) → 0x40 < n → table_at (n ∷ c) ≡ table_type_at (n ∷ c)
unfolding table_at
plain_table n c h = rw (other n 0x40 h) refl

pub own_table_again : IsReadAgain table_at table_bytes
unfolding table_bytes
own_table_again t = λ b rest e.
    parted (λ z. table_at (z ++ rest) ≡ table_type_at (z ++ rest)) (ref_bytes t.element_type) (limits (mark t.shared 2 + mark t.table64 4) t.initial t.maximum)
    (λ x y first second. ref_begins (λ z. table_at ((z ++ y) ++ rest) ≡ table_type_at ((z ++ y) ++ rest)) (λ n c h. plain_table n ((c ++ y) ++ rest) h) t.element_type.nullable t.element_type.shared t.element_type.heap x first) b e
    ∙ table_again t b rest e

global_with_constant : (g : GlobalType) → Reads global_at (global_bytes g ⧺ constant g.content_type) g
unfolding global_at
global_with_constant g =
    behind global_type_at (λ ty. constant_at ty.1 >>= λ end. Ok (ty.0, end)) (global_bytes g) (constant g.content_type) g g (global_again g)
    (λ b rest e. ap (λ z. z >>= λ end. Ok (g, end)) (constant_end g.content_type b rest e))

pub own_global_again : IsReadAgain global_at (λ g. global_bytes g ⧺ constant g.content_type)
own_global_again g = global_with_constant g

pub own_tag_again : (f : ℕ) → Reads tag_at (byte 0x00 ⧺ u32_bytes f) (record { func = f })
unfolding tag_at zero_at
own_tag_again f = led 0 tag_at (of_one u32_at (λ i. record { func = i })) (u32_bytes f) (record { func = f }) (λ rest. refl) (made u32_at (λ i. record { func = i }) (u32_bytes f) f (u32_again f))
