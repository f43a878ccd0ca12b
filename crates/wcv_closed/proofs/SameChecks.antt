-- What is seen in a written group alone is seen over each space that has the same entries.
use Rattle.std.proofs.Common.{◌≡◌, ℕ, zero, suc, ◌+◌, List, [], ◌∷◌, ◌++◌, length, slice_get, All, not, nat_lt, Some, None, refl, sym, arith, subst}
use Rattle.wcv_core.specs.Checks.{Checks, all_checks}
use Rattle.wcv_core.specs.CoreFeatures.{group_needs}
use Rattle.wcv_core.specs.CoreForm.{func_form, struct_form, array_form, Group}
use Rattle.wcv_core.specs.CoreIds.{heap_ids, val_ids, storage_ids, field_ids, all_ids, composite_ids, super_ids, sub_ids, ids_in_group}
use Rattle.wcv_core.specs.CoreJoining.{order_checks, written_checks}
use Rattle.wcv_core.specs.CoreWritten.{Core_entry, sub_entry, module_entry, is_module, heap_checks, val_checks, storage_checks, field_checks, form_checks, super_index_checks, index_checks}
use Rattle.wcv_core.specs.declared.core_types.HeapType.TheVariants as heap
use Rattle.wcv_core.specs.declared.core_types.StorageType.TheVariants as storage
use Rattle.wcv_core.specs.declared.core_types.SuperType.TheVariants as super
use Rattle.wcv_core.specs.declared.core_types.ValType.TheVariants as val
use Rattle.wcv_core.specs.declared.error.ErrorKind.TheVariants as kind
use Rattle.wcv_core.specs.declared.features.WasmFeatures.{WasmFeatures}
use Rattle.wcv_closed.specs.ClosedTable.{SameEntries}
use Rattle.wcv_closed.proofs.Written.{left_ids, right_ids, many_entries}

module _ (gs hs : List Group) where
  same_modules : (es fs : List Core_entry) (k : ℕ) → SameEntries gs hs es fs → is_module (slice_get es k) ≡ is_module (slice_get fs k)
  same_modules [] [] k s = refl
  same_modules (sub_entry a ∷ es) (sub_entry b ∷ fs) zero s = refl
  same_modules (sub_entry a ∷ es) (sub_entry b ∷ fs) (suc k) s = same_modules es fs k s.1
  same_modules (module_entry ∷ es) (module_entry ∷ fs) zero s = refl
  same_modules (module_entry ∷ es) (module_entry ∷ fs) (suc k) s = same_modules es fs k s
  same_modules [] (f ∷ fs) k s = elim s [ ]
  same_modules (sub_entry a ∷ es) [] k s = elim s [ ]
  same_modules (module_entry ∷ es) [] k s = elim s [ ]
  same_modules (sub_entry a ∷ es) (module_entry ∷ fs) k s = elim s [ ]
  same_modules (module_entry ∷ es) (sub_entry b ∷ fs) k s = elim s [ ]

  module _ (es fs : List Core_entry) (s : SameEntries gs hs es fs) (m n len : ℕ) where
    abbrev IsNone : ℕ → Type 0
    IsNone i = ⊥

    abbrev HasSame : {A : Type 0} → (A → List ℕ) → (ℕ → List Core_entry → ℕ → A → Checks) → Type 0
    HasSame {A} ids checks = (x : A) → All IsNone (ids x) → checks m es len x ≡ checks n fs len x

    heap_same : HasSame heap_ids heap_checks
    heap_same (heap.Abstract a) w = refl
    heap_same (heap.Id i) w = Prim.absurd (w 0 0 (omega arith))
    heap_same (heap.Index k) w =
        let l : length es ≡ length fs = many_entries gs hs es fs s in
        let e : is_module (slice_get es k) ≡ is_module (slice_get fs k) = same_modules es fs k s in
        λ j. (kind.OutOfBounds, not (nat_lt k (l j + len))) ∷ (kind.WrongSort, e j) ∷ []

    val_same : HasSame val_ids val_checks
    val_same (val.Ref r) w = heap_same r.heap w
    val_same val.I32 w = refl
    val_same val.I64 w = refl
    val_same val.F32 w = refl
    val_same val.F64 w = refl
    val_same val.V128 w = refl

    storage_same : HasSame storage_ids storage_checks
    storage_same (storage.Val v) w = val_same v w
    storage_same storage.I8 w = refl
    storage_same storage.I16 w = refl

    each_same : {A : Type 0} (ids : A → List ℕ) (checks : ℕ → List Core_entry → ℕ → A → Checks) → HasSame ids checks → (xs : List A) → All IsNone (all_ids ids xs) → all_checks (checks m es len) xs ≡ all_checks (checks n fs len) xs
    each_same ids checks f [] w = refl
    each_same ids checks f (x ∷ xs) w =
        let a : checks m es len x ≡ checks n fs len x = f x (left_ids IsNone (ids x) (all_ids ids xs) w) in
        let b : all_checks (checks m es len) xs ≡ all_checks (checks n fs len) xs = each_same ids checks f xs (right_ids IsNone (ids x) (all_ids ids xs) w) in
        λ j. a j ++ b j

    form_same : HasSame composite_ids form_checks
    form_same (func_form ps rs) w =
        let a : all_checks (val_checks m es len) ps ≡ all_checks (val_checks n fs len) ps = each_same val_ids val_checks val_same ps (left_ids IsNone (all_ids val_ids ps) (all_ids val_ids rs) w) in
        let b : all_checks (val_checks m es len) rs ≡ all_checks (val_checks n fs len) rs = each_same val_ids val_checks val_same rs (right_ids IsNone (all_ids val_ids ps) (all_ids val_ids rs) w) in
        λ j. a j ++ b j
    form_same (struct_form xs) w = each_same field_ids field_checks (λ f. storage_same f.storage) xs w
    form_same (array_form x) w = storage_same x.storage w

    super_same : HasSame super_ids super_index_checks
    super_same None w = refl
    super_same (Some (super.Index k)) w = heap_same (heap.Index k) (λ j d l. Prim.absurd (omega arith))
    super_same (Some (super.Id i)) w = Prim.absurd (w 0 0 (omega arith))

    sub_same : HasSame sub_ids index_checks
    sub_same x w =
        let a : super_index_checks m es len x.supertype ≡ super_index_checks n fs len x.supertype = super_same x.supertype (left_ids IsNone (super_ids x.supertype) (composite_ids x.inner) w) in
        let b : form_checks m es len x.inner ≡ form_checks n fs len x.inner = form_same x.inner (right_ids IsNone (super_ids x.supertype) (composite_ids x.inner) w) in
        λ j. a j ++ b j

    pub group_same : (w : Group) → All IsNone (ids_in_group w) → all_checks (index_checks m es len) w ≡ all_checks (index_checks n fs len) w
    group_same w a = each_same sub_ids index_checks sub_same w a

none_in : (is : List ℕ) → is ≡ [] → All (λ (i : ℕ). ⊥) is
none_in is e = subst (All (λ (i : ℕ). ⊥)) (sym e) (λ k d l. Prim.absurd (omega arith))

pub written_same : (ws : WasmFeatures) (gs hs : List Group) (es fs : List Core_entry) (m n : ℕ) (w : Group) → SameEntries gs hs es fs → ids_in_group w ≡ [] → written_checks ws m es w ≡ written_checks ws n fs w
written_same ws gs hs es fs m n w s e =
    let l : length es ≡ length fs = many_entries gs hs es fs s in
    let a : all_checks (index_checks m es (length w)) w ≡ all_checks (index_checks n fs (length w)) w = group_same gs hs es fs s m n (length w) w (none_in (ids_in_group w) e) in
    λ j. group_needs ws w ++ (a j ++ order_checks (l j) w)
