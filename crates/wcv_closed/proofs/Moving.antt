-- Groups with other ids in place of theirs.
use Rattle.std.proofs.Common.{◌≡◌, ℕ, suc, ◌+◌, List, [], ◌∷◌, ◌++◌, length, map, get_or, All, Some, None, refl, sym, ◌∙◌, ap, arith}
use Rattle.wcv_core.specs.CoreForm.{func_form, struct_form, array_form, Group}
use Rattle.wcv_core.specs.CoreIds.{heap_ids, val_ids, storage_ids, field_ids, all_ids, composite_ids, super_ids, sub_ids, ids_in_group}
use Rattle.wcv_core.specs.declared.core_types.HeapType.TheVariants as heap
use Rattle.wcv_core.specs.declared.core_types.StorageType.TheVariants as storage
use Rattle.wcv_core.specs.declared.core_types.SuperType.TheVariants as super
use Rattle.wcv_core.specs.declared.core_types.ValType.TheVariants as val
use Rattle.wcv_core.proofs.Kept.{map-append}
use Rattle.wcv_core.proofs.Rowing.{length-map}
use Rattle.wcv_closed.specs.ClosedType.{Closed, closed_type, and_then, no_closed, named, all_closed, closed, closed_at}
use Rattle.wcv_closed.specs.NumberedIds.{numbered_heap, numbered_val, numbered_storage, numbered_field, numbered_each, numbered_form, numbered_super, numbered_sub, numbered_from, moved_heap, moved_val, moved_storage, moved_field, moved_form, moved_super, moved_sub, moved_group}

module _ (f : ℕ → ℕ) where
  -- numbers take the same places, and the ids are those given
  abbrev IsMoved : {A : Type 0} → (A → List ℕ) → (ℕ → A → A) → (A → A) → Type 0
  IsMoved {A} ids numbered moved = (n : ℕ) (x : A) → (numbered n (moved x) ≡ numbered n x) × (ids (moved x) ≡ map f (ids x))

  heap_moved : IsMoved heap_ids numbered_heap (moved_heap f)
  heap_moved n (heap.Abstract a) = (refl, refl)
  heap_moved n (heap.Index k) = (refl, refl)
  heap_moved n (heap.Id i) = (refl, refl)

  val_moved : IsMoved val_ids numbered_val (moved_val f)
  val_moved n (val.Ref r) =
      let p = heap_moved n r.heap in
      let e : numbered_heap n (moved_heap f r.heap) ≡ numbered_heap n r.heap = p.0 in
      (λ j. val.Ref (record { nullable = r.nullable; shared = r.shared; heap = e j }), p.1)
  val_moved n val.I32 = (refl, refl)
  val_moved n val.I64 = (refl, refl)
  val_moved n val.F32 = (refl, refl)
  val_moved n val.F64 = (refl, refl)
  val_moved n val.V128 = (refl, refl)

  storage_moved : IsMoved storage_ids numbered_storage (moved_storage f)
  storage_moved n (storage.Val v) = let p = val_moved n v in (ap storage.Val p.0, p.1)
  storage_moved n storage.I8 = (refl, refl)
  storage_moved n storage.I16 = (refl, refl)

  field_moved : IsMoved field_ids numbered_field (moved_field f)
  field_moved n x =
      let p = storage_moved n x.storage in
      let e : numbered_storage n (moved_storage f x.storage) ≡ numbered_storage n x.storage = p.0 in
      (λ j. record { storage = e j; mutable = x.mutable }, p.1)

  -- as many ids
  count : {A : Type 0} (ids : A → List ℕ) (moved : A → A) (x : A) → ids (moved x) ≡ map f (ids x) → length (ids (moved x)) ≡ length (ids x)
  count ids moved x e = ap (length {A = ℕ}) e ∙ length-map f (ids x)

  each_moved : {A : Type 0} (ids : A → List ℕ) (numbered : ℕ → A → A) (moved : A → A) → IsMoved ids numbered moved → IsMoved (all_ids ids) (numbered_each ids numbered) (map moved)
  each_moved ids numbered moved is n [] = (refl, refl)
  each_moved ids numbered moved is n (x ∷ xs) =
      let p = is n x in
      let e : numbered n (moved x) ≡ numbered n x = p.0 in
      let i : ids (moved x) ≡ map f (ids x) = p.1 in
      let l : length (ids (moved x)) ≡ length (ids x) = count ids moved x p.1 in
      let q = each_moved ids numbered moved is (n + length (ids x)) xs in
      let t : numbered_each ids numbered (n + length (ids (moved x))) (map moved xs) ≡ numbered_each ids numbered (n + length (ids x)) xs =
      ap (λ (m : ℕ). numbered_each ids numbered (n + m) (map moved xs)) l ∙ q.0 in
      let r : all_ids ids (map moved xs) ≡ map f (all_ids ids xs) = q.1 in
      (λ j. e j ∷ t j, (λ j. i j ++ r j) ∙ sym (map-append f (ids x) (all_ids ids xs)))

  form_moved : IsMoved composite_ids numbered_form (moved_form f)
  form_moved n (func_form ps rs) =
      let p = each_moved val_ids numbered_val (moved_val f) val_moved n ps in
      let e : numbered_each val_ids numbered_val n (map (moved_val f) ps) ≡ numbered_each val_ids numbered_val n ps = p.0 in
      let i : all_ids val_ids (map (moved_val f) ps) ≡ map f (all_ids val_ids ps) = p.1 in
      let l : length (all_ids val_ids (map (moved_val f) ps)) ≡ length (all_ids val_ids ps) = count (all_ids val_ids) (map (moved_val f)) ps p.1 in
      let q = each_moved val_ids numbered_val (moved_val f) val_moved (n + length (all_ids val_ids ps)) rs in
      let t : numbered_each val_ids numbered_val (n + length (all_ids val_ids (map (moved_val f) ps))) (map (moved_val f) rs) ≡ numbered_each val_ids numbered_val (n + length (all_ids val_ids ps)) rs =
      ap (λ (m : ℕ). numbered_each val_ids numbered_val (n + m) (map (moved_val f) rs)) l ∙ q.0 in
      let r : all_ids val_ids (map (moved_val f) rs) ≡ map f (all_ids val_ids rs) = q.1 in
      (λ j. func_form (e j) (t j), (λ j. i j ++ r j) ∙ sym (map-append f (all_ids val_ids ps) (all_ids val_ids rs)))
  form_moved n (struct_form fs) = let p = each_moved field_ids numbered_field (moved_field f) field_moved n fs in (ap struct_form p.0, p.1)
  form_moved n (array_form x) = let p = field_moved n x in (ap array_form p.0, p.1)

  super_moved : IsMoved super_ids numbered_super (moved_super f)
  super_moved n None = (refl, refl)
  super_moved n (Some (super.Index k)) = (refl, refl)
  super_moved n (Some (super.Id i)) = (refl, refl)

  sub_moved : IsMoved sub_ids numbered_sub (moved_sub f)
  sub_moved n s =
      let p = super_moved n s.supertype in
      let e : numbered_super n (moved_super f s.supertype) ≡ numbered_super n s.supertype = p.0 in
      let i : super_ids (moved_super f s.supertype) ≡ map f (super_ids s.supertype) = p.1 in
      let l : length (super_ids (moved_super f s.supertype)) ≡ length (super_ids s.supertype) = count super_ids (moved_super f) s.supertype p.1 in
      let q = form_moved (n + length (super_ids s.supertype)) s.inner in
      let t : numbered_form (n + length (super_ids (moved_super f s.supertype))) (moved_form f s.inner) ≡ numbered_form (n + length (super_ids s.supertype)) s.inner =
      ap (λ (m : ℕ). numbered_form (n + m) (moved_form f s.inner)) l ∙ q.0 in
      let r : composite_ids (moved_form f s.inner) ≡ map f (composite_ids s.inner) = q.1 in
      (λ j. record { is_final = s.is_final; supertype = e j; shared = s.shared; inner = t j }, (λ j. i j ++ r j) ∙ sym (map-append f (super_ids s.supertype) (composite_ids s.inner)))

  group_moved : IsMoved ids_in_group numbered_from (moved_group f)
  group_moved n g = each_moved sub_ids numbered_sub (moved_sub f) sub_moved n g

  named_moved : (cs ds : List Closed) (is : List ℕ) → All (λ i. get_or ds (f i) no_closed ≡ get_or cs i no_closed) is → named ds (map f is) ≡ named cs is
  named_moved cs ds [] a = refl
  named_moved cs ds (i ∷ is) a =
      let h : get_or ds (f i) no_closed ≡ get_or cs i no_closed = a 0 0 (omega arith) in
      let t : named ds (map f is) ≡ named cs is = named_moved cs ds is (λ k d l. a (suc k) d (omega arith)) in
      λ j. and_then (h j) (t j)

  -- where the ids given have the closed forms of those before, so has the group
  pub moved_closed : (gs hs : List Group) (g : Group) (k : ℕ) → All (λ i. closed hs (f i) ≡ closed gs i) (ids_in_group g) → closed_at hs (moved_group f g) k ≡ closed_at gs g k
  unfolding closed closed_at
  moved_closed gs hs g k a =
      let p = group_moved 0 g in
      let e : numbered_from 0 (moved_group f g) ≡ numbered_from 0 g = p.0 in
      let t : named (all_closed hs) (ids_in_group (moved_group f g)) ≡ named (all_closed gs) (ids_in_group g) = ap (named (all_closed hs)) p.1 ∙ named_moved (all_closed gs) (all_closed hs) (ids_in_group g) a in
      λ j. closed_type (e j) (t j) k
