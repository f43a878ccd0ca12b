-- Value types, defined types and function types are read again.
use Rattle.std.proofs.Common.{◌≡◌, ℕ, ◌+◌, ◌/◌, ◌%◌, ◌^◌, ◌<◌, ◌≤◌, ◌⊎◌, inl, inr, true, false, cond, nat_lt, Some, None, Result, Ok, List, [], ◌∷◌, ◌++◌, refl, sym, ap, ◌∙◌, arith}
use Rattle.std.proofs.lemmas.Bool.Decides.{nat_tests}
use Rattle.wcv_core.specs.declared.primitive.PrimitiveValType.{PrimitiveValType}
use Rattle.wcv_core.specs.declared.primitive.PrimitiveValType.TheVariants as prim
use Rattle.wcv_syntax.specs.declared.component_type.ComponentDefinedType.TheVariants as defined
use Rattle.wcv_syntax.specs.declared.component_type.ComponentValType.{ComponentValType}
use Rattle.wcv_syntax.specs.declared.component_type.ComponentValType.TheVariants as value
use Rattle.wcv_syntax.specs.Model.{record_of, variant_of, tuple_of, flags_of, enum_of, simple, Func_form}
use Rattle.wcv_bytes.specs.declared.fault.Fault.{Fault}
use Rattle.wcv_bytes.specs.Reading.{◌>>=◌, byte_at, flag_at, zero_at, under_byte, of_one, of_two, u32_at, index_at, vec_at, text_at}
use Rattle.wcv_binary.specs.Values.{primitives, val_at, optional_val_at, result_at, param_at, case_at}
use Rattle.wcv_binary.specs.Defined.{simple_at, compound_at, defined_at}
use Rattle.wcv_binary.specs.Funcs.{func_at}
use Rattle.wcv_encode.specs.Bytes.{◌⧺◌, byte, leb128, u32_bytes, s33_bytes, text, vec, maybe}
use Rattle.wcv_encode.specs.Laws.{Reads, IsReadAgain}
use Rattle.wcv_encode.specs.Values.{prim_byte, value_bytes, maybe_value, field_of, case_bytes, simple_bytes, defined_bytes, result_bytes}
use Rattle.wcv_encode.proofs.Again.{behind, made, made_of_two, led, known}
use Rattle.wcv_encode.proofs.AgainNumbers.{guarded, below, u32_again, s33_again}
use Rattle.wcv_encode.proofs.AgainLists.{text_again, vec_again, zero_again}

-- ## Value types

prim_known : (p : PrimitiveValType) (rest : List ℕ) → val_at (prim_byte p ∷ rest) ≡ Ok (value.Primitive p, rest)
unfolding val_at byte_at prim_byte
prim_known prim.Bool rest = refl
prim_known prim.S8 rest = refl
prim_known prim.U8 rest = refl
prim_known prim.S16 rest = refl
prim_known prim.U16 rest = refl
prim_known prim.S32 rest = refl
prim_known prim.U32 rest = refl
prim_known prim.S64 rest = refl
prim_known prim.U64 rest = refl
prim_known prim.F32 rest = refl
prim_known prim.F64 rest = refl
prim_known prim.Char rest = refl
prim_known prim.String rest = refl
prim_known prim.ErrorContext rest = refl

-- no primitive has a byte that may begin an index
no_primitive : (x : ℕ) → (x < 64) ⊎ (128 ≤ x) → under_byte primitives x ≡ None
no_primitive x h = grind (arith, nat_tests)

abbrev as_index : List ℕ → Result (ComponentValType × List ℕ) Fault
as_index bytes = index_at bytes >>= λ k. Ok (value.Ty k.0, k.1)

val_of_index : (x : ℕ) (bytes : List ℕ) → (x < 64) ⊎ (128 ≤ x) → val_at (x ∷ bytes) ≡ as_index (x ∷ bytes)
unfolding val_at byte_at
val_of_index x bytes h = rw (no_primitive x h) refl

val_index : (n : ℕ) (rest : List ℕ) → val_at (leb128 64 4 n ++ rest) ≡ as_index (leb128 64 4 n ++ rest)
unfolding leb128
val_index n rest =
    elim (nat_lt n 64) as (λ t. nat_lt n 64 ≡ t → val_at (cond t (n ∷ []) ((128 + n % 128) ∷ leb128 64 3 (n / 128)) ++ rest) ≡ as_index (cond t (n ∷ []) ((128 + n % 128) ∷ leb128 64 3 (n / 128)) ++ rest)) [
      | true ↦ λ e. val_of_index n rest (inl (below n 64 e))
      | false ↦ λ e. val_of_index (128 + n % 128) (leb128 64 3 (n / 128) ++ rest) (inr (omega arith))
    ] refl

pub value_again : IsReadAgain val_at value_bytes
unfolding value_bytes s33_bytes
value_again (value.Primitive p) = known (prim_byte p ∷ []) val_at (value.Primitive p) (prim_known p)
value_again (value.Ty i) = λ b rest e.
    let g = guarded (nat_lt i (2 ^ 32)) (leb128 64 4 i) b e in
    ap (λ y. val_at (y ++ rest)) (sym g.1) ∙ val_index i rest ∙ ap (λ y. as_index (y ++ rest)) g.1 ∙ ap (λ y. y >>= λ k. Ok (value.Ty k.0, k.1)) (s33_again i b rest e)

pub maybe_value_again : IsReadAgain optional_val_at maybe_value
unfolding optional_val_at flag_at maybe
maybe_value_again None = known (0 ∷ []) optional_val_at None (λ rest. refl)
maybe_value_again (Some v) = led 1 optional_val_at (of_one val_at Some) (value_bytes v) (Some v) (λ rest. refl) (made val_at Some (value_bytes v) v (value_again v))

pub result_again : IsReadAgain result_at result_bytes
unfolding result_at flag_at zero_at result_bytes
result_again None = known (1 ∷ 0 ∷ []) result_at None (λ rest. refl)
result_again (Some v) = led 0 result_at (of_one val_at Some) (value_bytes v) (Some v) (λ rest. refl) (made val_at Some (value_bytes v) v (value_again v))

pub field_again : IsReadAgain param_at field_of
unfolding param_at field_of
field_again f =
    behind text_at (λ name. val_at name.1 >>= λ v. Ok ((name.0, v.0), v.1)) (text f.0) (value_bytes f.1) f.0 f (text_again f.0) (made val_at (λ v. (f.0, v)) (value_bytes f.1) f.1 (value_again f.1))

pub case_again : IsReadAgain case_at case_bytes
unfolding case_at case_bytes
case_again c =
    behind text_at (λ name. optional_val_at name.1 >>= λ v. zero_at v.1 >>= λ rest. Ok (record { name = name.0; ty = v.0 }, rest)) (text c.name) (maybe_value c.ty ⧺ byte 0) c.name c (text_again c.name)
    (behind optional_val_at (λ v. zero_at v.1 >>= λ rest. Ok (record { name = c.name; ty = v.0 }, rest)) (maybe_value c.ty) (byte 0) c.ty c (maybe_value_again c.ty) (zero_again c))

-- ## Defined types

pub defined_again : IsReadAgain defined_at defined_bytes
unfolding defined_at compound_at simple_at byte_at defined_bytes simple_bytes prim_byte
defined_again (record_of fs) = led 0x72 defined_at (of_one (vec_at param_at) record_of) (vec field_of fs) (record_of fs) (λ rest. refl) (made (vec_at param_at) record_of (vec field_of fs) fs (vec_again param_at field_of field_again fs))
defined_again (variant_of cs) = led 0x71 defined_at (of_one (vec_at case_at) variant_of) (vec case_bytes cs) (variant_of cs) (λ rest. refl) (made (vec_at case_at) variant_of (vec case_bytes cs) cs (vec_again case_at case_bytes case_again cs))
defined_again (tuple_of vs) = led 0x6F defined_at (of_one (vec_at val_at) tuple_of) (vec value_bytes vs) (tuple_of vs) (λ rest. refl) (made (vec_at val_at) tuple_of (vec value_bytes vs) vs (vec_again val_at value_bytes value_again vs))
defined_again (flags_of ns) = led 0x6E defined_at (of_one (vec_at text_at) flags_of) (vec text ns) (flags_of ns) (λ rest. refl) (made (vec_at text_at) flags_of (vec text ns) ns (vec_again text_at text text_again ns))
defined_again (enum_of ns) = led 0x6D defined_at (of_one (vec_at text_at) enum_of) (vec text ns) (enum_of ns) (λ rest. refl) (made (vec_at text_at) enum_of (vec text ns) ns (vec_again text_at text text_again ns))
defined_again (simple (defined.Primitive prim.Bool)) = known (0x7F ∷ []) defined_at (simple (defined.Primitive prim.Bool)) (λ rest. refl)
defined_again (simple (defined.Primitive prim.S8)) = known (0x7E ∷ []) defined_at (simple (defined.Primitive prim.S8)) (λ rest. refl)
defined_again (simple (defined.Primitive prim.U8)) = known (0x7D ∷ []) defined_at (simple (defined.Primitive prim.U8)) (λ rest. refl)
defined_again (simple (defined.Primitive prim.S16)) = known (0x7C ∷ []) defined_at (simple (defined.Primitive prim.S16)) (λ rest. refl)
defined_again (simple (defined.Primitive prim.U16)) = known (0x7B ∷ []) defined_at (simple (defined.Primitive prim.U16)) (λ rest. refl)
defined_again (simple (defined.Primitive prim.S32)) = known (0x7A ∷ []) defined_at (simple (defined.Primitive prim.S32)) (λ rest. refl)
defined_again (simple (defined.Primitive prim.U32)) = known (0x79 ∷ []) defined_at (simple (defined.Primitive prim.U32)) (λ rest. refl)
defined_again (simple (defined.Primitive prim.S64)) = known (0x78 ∷ []) defined_at (simple (defined.Primitive prim.S64)) (λ rest. refl)
defined_again (simple (defined.Primitive prim.U64)) = known (0x77 ∷ []) defined_at (simple (defined.Primitive prim.U64)) (λ rest. refl)
defined_again (simple (defined.Primitive prim.F32)) = known (0x76 ∷ []) defined_at (simple (defined.Primitive prim.F32)) (λ rest. refl)
defined_again (simple (defined.Primitive prim.F64)) = known (0x75 ∷ []) defined_at (simple (defined.Primitive prim.F64)) (λ rest. refl)
defined_again (simple (defined.Primitive prim.Char)) = known (0x74 ∷ []) defined_at (simple (defined.Primitive prim.Char)) (λ rest. refl)
defined_again (simple (defined.Primitive prim.String)) = known (0x73 ∷ []) defined_at (simple (defined.Primitive prim.String)) (λ rest. refl)
defined_again (simple (defined.Primitive prim.ErrorContext)) = known (0x64 ∷ []) defined_at (simple (defined.Primitive prim.ErrorContext)) (λ rest. refl)
defined_again (simple (defined.List v)) = led 0x70 defined_at (of_one val_at (λ x. simple (defined.List x))) (value_bytes v) (simple (defined.List v)) (λ rest. refl) (made val_at (λ x. simple (defined.List x)) (value_bytes v) v (value_again v))
defined_again (simple (defined.Option v)) = led 0x6B defined_at (of_one val_at (λ x. simple (defined.Option x))) (value_bytes v) (simple (defined.Option v)) (λ rest. refl) (made val_at (λ x. simple (defined.Option x)) (value_bytes v) v (value_again v))
defined_again (simple (defined.Result ok err)) = led 0x6A defined_at (of_two optional_val_at optional_val_at (λ x y. simple (defined.Result x y))) (maybe_value ok ⧺ maybe_value err) (simple (defined.Result ok err)) (λ rest. refl) (made_of_two optional_val_at optional_val_at (λ x y. simple (defined.Result x y)) (maybe_value ok) (maybe_value err) ok err (maybe_value_again ok) (maybe_value_again err))
defined_again (simple (defined.Own i)) = led 0x69 defined_at (of_one u32_at (λ x. simple (defined.Own x))) (u32_bytes i) (simple (defined.Own i)) (λ rest. refl) (made u32_at (λ x. simple (defined.Own x)) (u32_bytes i) i (u32_again i))
defined_again (simple (defined.Borrow i)) = led 0x68 defined_at (of_one u32_at (λ x. simple (defined.Borrow x))) (u32_bytes i) (simple (defined.Borrow i)) (λ rest. refl) (made u32_at (λ x. simple (defined.Borrow x)) (u32_bytes i) i (u32_again i))
defined_again (simple (defined.FixedLengthList v n)) = led 0x67 defined_at (of_two val_at u32_at (λ x y. simple (defined.FixedLengthList x y))) (value_bytes v ⧺ u32_bytes n) (simple (defined.FixedLengthList v n)) (λ rest. refl) (made_of_two val_at u32_at (λ x y. simple (defined.FixedLengthList x y)) (value_bytes v) (u32_bytes n) v n (value_again v) (u32_again n))
defined_again (simple (defined.Stream v)) = led 0x66 defined_at (of_one optional_val_at (λ x. simple (defined.Stream x))) (maybe_value v) (simple (defined.Stream v)) (λ rest. refl) (made optional_val_at (λ x. simple (defined.Stream x)) (maybe_value v) v (maybe_value_again v))
defined_again (simple (defined.Future v)) = led 0x65 defined_at (of_one optional_val_at (λ x. simple (defined.Future x))) (maybe_value v) (simple (defined.Future v)) (λ rest. refl) (made optional_val_at (λ x. simple (defined.Future x)) (maybe_value v) v (maybe_value_again v))
defined_again (simple (defined.Map k v)) = led 0x63 defined_at (of_two val_at val_at (λ x y. simple (defined.Map x y))) (value_bytes k ⧺ value_bytes v) (simple (defined.Map k v)) (λ rest. refl) (made_of_two val_at val_at (λ x y. simple (defined.Map x y)) (value_bytes k) (value_bytes v) k v (value_again k) (value_again v))
defined_again (simple (defined.Record d)) = λ b rest e. absurd (cc)
defined_again (simple (defined.Variant d)) = λ b rest e. absurd (cc)
defined_again (simple (defined.Tuple d)) = λ b rest e. absurd (cc)
defined_again (simple (defined.Flags d)) = λ b rest e. absurd (cc)
defined_again (simple (defined.Enum d)) = λ b rest e. absurd (cc)

-- ## Function types

pub func_again : (f : Func_form) → Reads (func_at f.async) (vec field_of f.params ⧺ result_bytes f.result) f
unfolding func_at
func_again f =
    made_of_two (vec_at param_at) result_at (λ params result. record { async = f.async; params = params; result = result }) (vec field_of f.params) (result_bytes f.result) f.params f.result (vec_again param_at field_of field_again f.params) (result_again f.result)
