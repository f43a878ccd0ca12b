-- A written group has one closed form over entries that name the same types, whichever table has them.
use Rattle.std.proofs.Common.{◌≡◌, ℕ, zero, suc, ◌+◌, ◌-◌, List, [], ◌∷◌, ◌++◌, length, map, get_or, slice_get, Some, None, refl, ◌∙◌, ap, arith, subst, All, length-append}
use Rattle.wcv_core.specs.CoreForm.{func_form, struct_form, array_form, Group}
use Rattle.wcv_core.specs.CoreIds.{heap_ids, val_ids, storage_ids, field_ids, all_ids, composite_ids, super_ids, sub_ids, ids_in_group}
use Rattle.wcv_core.specs.CoreWritten.{Core_entry, sub_entry, module_entry, closed_index, closed_heap, closed_mark, closed_val, closed_storage, closed_field, closed_form, heap_super, closed_super, closed_sub, closed_group}
use Rattle.wcv_core.specs.declared.core_types.HeapType.{HeapType}
use Rattle.wcv_core.specs.declared.core_types.HeapType.TheVariants as heap
use Rattle.wcv_core.specs.declared.core_types.StorageType.TheVariants as storage
use Rattle.wcv_core.specs.declared.core_types.SuperType.TheVariants as super
use Rattle.wcv_core.specs.declared.core_types.ValType.TheVariants as val
use Rattle.wcv_core.proofs.Rowing.{get_or-front, get_or-back}
use Rattle.wcv_closed.specs.ClosedTable.{SameEntries}
use Rattle.wcv_closed.specs.ClosedType.{closed_type, and_then, no_closed, named, all_closed, closed, closed_at}
use Rattle.wcv_closed.specs.NumberedIds.{numbered_heap, numbered_val, numbered_storage, numbered_field, numbered_each, numbered_form, numbered_super, numbered_sub, numbered_from}

pub left_ids : (P : ℕ → Type 0) (is js : List ℕ) → All P (is ++ js) → All P is
left_ids P is js a k d l = let n : length (is ++ js) ≡ length is + length js = length-append is js in subst P (get_or-front is js k d l) (a k d (omega arith))

pub right_ids : (P : ℕ → Type 0) (is js : List ℕ) → All P (is ++ js) → All P js
right_ids P is js a k d l =
    let n : length (is ++ js) ≡ length is + length js = length-append is js in
    let z : length is + k - length is ≡ k = omega arith in
    subst P (get_or-back is js (length is + k) d (omega arith) ∙ ap (λ (m : ℕ). get_or js m d) z) (a (length is + k) d (omega arith))

module _ (gs hs : List Group) where
  -- ids that stand for the same types, one by one
  abbrev AreAlike : List ℕ → List ℕ → Type 0
  AreAlike [] [] = Unit {0}
  AreAlike (i ∷ is) (j ∷ js) = (closed gs i ≡ closed hs j) × AreAlike is js
  AreAlike _ _ = ⊥

  alike_both : (is js ks ls : List ℕ) → AreAlike is js → AreAlike ks ls → AreAlike (is ++ ks) (js ++ ls)
  alike_both [] [] ks ls a b = b
  alike_both (i ∷ is) (j ∷ js) ks ls a b = (a.0, alike_both is js ks ls a.1 b)
  alike_both [] (j ∷ js) ks ls a b = elim a [ ]
  alike_both (i ∷ is) [] ks ls a b = elim a [ ]

  alike_many : (is js : List ℕ) → AreAlike is js → length is ≡ length js
  alike_many [] [] a = refl
  alike_many (i ∷ is) (j ∷ js) a = ap suc (alike_many is js a.1)
  alike_many [] (j ∷ js) a = elim a [ ]
  alike_many (i ∷ is) [] a = elim a [ ]

  alike_named : (is js : List ℕ) → AreAlike is js → named (all_closed gs) is ≡ named (all_closed hs) js
  unfolding closed
  alike_named [] [] a = refl
  alike_named (i ∷ is) (j ∷ js) a =
      let h : get_or (all_closed gs) i no_closed ≡ get_or (all_closed hs) j no_closed = a.0 in
      let t : named (all_closed gs) is ≡ named (all_closed hs) js = alike_named is js a.1 in
      λ k. and_then (h k) (t k)
  alike_named [] (j ∷ js) a = elim a [ ]
  alike_named (i ∷ is) [] a = elim a [ ]

  pub many_entries : (es fs : List Core_entry) → SameEntries gs hs es fs → length es ≡ length fs
  many_entries [] [] s = refl
  many_entries (sub_entry i ∷ es) (sub_entry j ∷ fs) s = ap suc (many_entries es fs s.1)
  many_entries (module_entry ∷ es) (module_entry ∷ fs) s = ap suc (many_entries es fs s)
  many_entries [] (f ∷ fs) s = elim s [ ]
  many_entries (sub_entry i ∷ es) [] s = elim s [ ]
  many_entries (module_entry ∷ es) [] s = elim s [ ]
  many_entries (sub_entry i ∷ es) (module_entry ∷ fs) s = elim s [ ]
  many_entries (module_entry ∷ es) (sub_entry j ∷ fs) s = elim s [ ]

  -- what an index is closed to
  record Indexed (x y : HeapType) : Type 0 where
    same : (n : ℕ) → numbered_heap n x ≡ numbered_heap n y
    alike : AreAlike (heap_ids x) (heap_ids y)
    same_super : (n : ℕ) → numbered_super n (heap_super x) ≡ numbered_super n (heap_super y)
    alike_super : AreAlike (super_ids (heap_super x)) (super_ids (heap_super y))

  indexed : (es fs : List Core_entry) (i k l : ℕ) → k ≡ l → SameEntries gs hs es fs → Indexed (closed_index (slice_get es i) k) (closed_index (slice_get fs i) l)
  indexed [] [] i k l e s = record { same = λ n. ap heap.Index e; alike = tt; same_super = λ n. λ j. Some (super.Index (e j)); alike_super = tt }
  indexed (sub_entry a ∷ es) (sub_entry b ∷ fs) zero k l e s = record { same = λ n. refl; alike = (s.0, tt); same_super = λ n. refl; alike_super = (s.0, tt) }
  indexed (sub_entry a ∷ es) (sub_entry b ∷ fs) (suc i) k l e s = indexed es fs i k l e s.1
  indexed (module_entry ∷ es) (module_entry ∷ fs) zero k l e s = record { same = λ n. ap heap.Index e; alike = tt; same_super = λ n. λ j. Some (super.Index (e j)); alike_super = tt }
  indexed (module_entry ∷ es) (module_entry ∷ fs) (suc i) k l e s = indexed es fs i k l e s
  indexed [] (f ∷ fs) i k l e s = elim s [ ]
  indexed (sub_entry a ∷ es) [] i k l e s = elim s [ ]
  indexed (module_entry ∷ es) [] i k l e s = elim s [ ]
  indexed (sub_entry a ∷ es) (module_entry ∷ fs) i k l e s = elim s [ ]
  indexed (module_entry ∷ es) (sub_entry b ∷ fs) i k l e s = elim s [ ]

  module _ (es fs : List Core_entry) (s : SameEntries gs hs es fs) where
    -- the id names one type in both tables
    abbrev IsSame : ℕ → Type 0
    IsSame i = closed gs i ≡ closed hs i

    -- numbers take the same places, and the ids stand for the same types, where those that were written as ids do
    abbrev IsAlike : {A : Type 0} → (A → List ℕ) → (ℕ → A → A) → (List Core_entry → A → A) → Type 0
    IsAlike {A} ids numbered written = (n : ℕ) (x : A) → All IsSame (ids x) → (numbered n (written es x) ≡ numbered n (written fs x)) × AreAlike (ids (written es x)) (ids (written fs x))

    index_alike : (k : ℕ) → Indexed (closed_index (slice_get es k) (k - length es)) (closed_index (slice_get fs k) (k - length fs))
    index_alike k = indexed es fs k (k - length es) (k - length fs) (ap (λ (n : ℕ). k - n) (many_entries es fs s)) s

    heap_alike : IsAlike heap_ids numbered_heap closed_heap
    heap_alike n (heap.Abstract a) w = (refl, tt)
    heap_alike n (heap.Index k) w = let i : Indexed (closed_index (slice_get es k) (k - length es)) (closed_index (slice_get fs k) (k - length fs)) = index_alike k in (i.same n, i.alike)
    heap_alike n (heap.Id i) w = (refl, (w 0 0 (omega arith), tt))

    val_alike : IsAlike val_ids numbered_val closed_val
    val_alike n (val.Ref r) w =
        let p = heap_alike n r.heap w in
        let e : numbered_heap n (closed_heap es r.heap) ≡ numbered_heap n (closed_heap fs r.heap) = p.0 in
        (λ j. val.Ref (record { nullable = r.nullable; shared = closed_mark r.heap r.shared; heap = e j }), p.1)
    val_alike n val.I32 w = (refl, tt)
    val_alike n val.I64 w = (refl, tt)
    val_alike n val.F32 w = (refl, tt)
    val_alike n val.F64 w = (refl, tt)
    val_alike n val.V128 w = (refl, tt)

    storage_alike : IsAlike storage_ids numbered_storage closed_storage
    storage_alike n (storage.Val v) w = let p = val_alike n v w in (ap storage.Val p.0, p.1)
    storage_alike n storage.I8 w = (refl, tt)
    storage_alike n storage.I16 w = (refl, tt)

    field_alike : IsAlike field_ids numbered_field closed_field
    field_alike n x w =
        let p = storage_alike n x.storage w in
        let e : numbered_storage n (closed_storage es x.storage) ≡ numbered_storage n (closed_storage fs x.storage) = p.0 in
        (λ j. record { storage = e j; mutable = x.mutable }, p.1)

    each_alike : {A : Type 0} (ids : A → List ℕ) (numbered : ℕ → A → A) (written : List Core_entry → A → A) → IsAlike ids numbered written → IsAlike (all_ids ids) (numbered_each ids numbered) (λ xs. map (written xs))
    each_alike ids numbered written is n [] w = (refl, tt)
    each_alike ids numbered written is n (x ∷ xs) w =
        let p = is n x (left_ids IsSame (ids x) (all_ids ids xs) w) in
        let e : numbered n (written es x) ≡ numbered n (written fs x) = p.0 in
        let l : length (ids (written es x)) ≡ length (ids (written fs x)) = alike_many (ids (written es x)) (ids (written fs x)) p.1 in
        let q = each_alike ids numbered written is (n + length (ids (written es x))) xs (right_ids IsSame (ids x) (all_ids ids xs) w) in
        let t : numbered_each ids numbered (n + length (ids (written es x))) (map (written es) xs) ≡ numbered_each ids numbered (n + length (ids (written fs x))) (map (written fs) xs) =
        q.0 ∙ ap (λ (m : ℕ). numbered_each ids numbered (n + m) (map (written fs) xs)) l in
        (λ j. e j ∷ t j, alike_both (ids (written es x)) (ids (written fs x)) (all_ids ids (map (written es) xs)) (all_ids ids (map (written fs) xs)) p.1 q.1)

    form_alike : IsAlike composite_ids numbered_form closed_form
    form_alike n (func_form ps rs) w =
        let p = each_alike val_ids numbered_val closed_val val_alike n ps (left_ids IsSame (all_ids val_ids ps) (all_ids val_ids rs) w) in
        let e : numbered_each val_ids numbered_val n (map (closed_val es) ps) ≡ numbered_each val_ids numbered_val n (map (closed_val fs) ps) = p.0 in
        let l : length (all_ids val_ids (map (closed_val es) ps)) ≡ length (all_ids val_ids (map (closed_val fs) ps)) = alike_many (all_ids val_ids (map (closed_val es) ps)) (all_ids val_ids (map (closed_val fs) ps)) p.1 in
        let q = each_alike val_ids numbered_val closed_val val_alike (n + length (all_ids val_ids (map (closed_val es) ps))) rs (right_ids IsSame (all_ids val_ids ps) (all_ids val_ids rs) w) in
        let t : numbered_each val_ids numbered_val (n + length (all_ids val_ids (map (closed_val es) ps))) (map (closed_val es) rs) ≡ numbered_each val_ids numbered_val (n + length (all_ids val_ids (map (closed_val fs) ps))) (map (closed_val fs) rs) =
        q.0 ∙ ap (λ (m : ℕ). numbered_each val_ids numbered_val (n + m) (map (closed_val fs) rs)) l in
        (λ j. func_form (e j) (t j), alike_both (all_ids val_ids (map (closed_val es) ps)) (all_ids val_ids (map (closed_val fs) ps)) (all_ids val_ids (map (closed_val es) rs)) (all_ids val_ids (map (closed_val fs) rs)) p.1 q.1)
    form_alike n (struct_form xs) w = let p = each_alike field_ids numbered_field closed_field field_alike n xs w in (ap struct_form p.0, p.1)
    form_alike n (array_form x) w = let p = field_alike n x w in (ap array_form p.0, p.1)

    super_alike : IsAlike super_ids numbered_super closed_super
    super_alike n None w = (refl, tt)
    super_alike n (Some (super.Index k)) w = let i : Indexed (closed_index (slice_get es k) (k - length es)) (closed_index (slice_get fs k) (k - length fs)) = index_alike k in (i.same_super n, i.alike_super)
    super_alike n (Some (super.Id i)) w = (refl, (w 0 0 (omega arith), tt))

    sub_alike : IsAlike sub_ids numbered_sub closed_sub
    sub_alike n x w =
        let p = super_alike n x.supertype (left_ids IsSame (super_ids x.supertype) (composite_ids x.inner) w) in
        let e : numbered_super n (closed_super es x.supertype) ≡ numbered_super n (closed_super fs x.supertype) = p.0 in
        let l : length (super_ids (closed_super es x.supertype)) ≡ length (super_ids (closed_super fs x.supertype)) = alike_many (super_ids (closed_super es x.supertype)) (super_ids (closed_super fs x.supertype)) p.1 in
        let q = form_alike (n + length (super_ids (closed_super es x.supertype))) x.inner (right_ids IsSame (super_ids x.supertype) (composite_ids x.inner) w) in
        let t : numbered_form (n + length (super_ids (closed_super es x.supertype))) (closed_form es x.inner) ≡ numbered_form (n + length (super_ids (closed_super fs x.supertype))) (closed_form fs x.inner) =
        q.0 ∙ ap (λ (m : ℕ). numbered_form (n + m) (closed_form fs x.inner)) l in
        (λ j. record { is_final = x.is_final; supertype = e j; shared = x.shared; inner = t j }, alike_both (super_ids (closed_super es x.supertype)) (super_ids (closed_super fs x.supertype)) (composite_ids (closed_form es x.inner)) (composite_ids (closed_form fs x.inner)) p.1 q.1)

    pub written_alike : (w : Group) (k : ℕ) → All IsSame (ids_in_group w) → closed_at gs (closed_group es w) k ≡ closed_at hs (closed_group fs w) k
    unfolding closed_at
    written_alike w k a =
        let p = each_alike sub_ids numbered_sub closed_sub sub_alike 0 w a in
        let e : numbered_from 0 (closed_group es w) ≡ numbered_from 0 (closed_group fs w) = p.0 in
        let t : named (all_closed gs) (ids_in_group (closed_group es w)) ≡ named (all_closed hs) (ids_in_group (closed_group fs w)) = alike_named (ids_in_group (closed_group es w)) (ids_in_group (closed_group fs w)) p.1 in
        λ j. closed_type (e j) (t j) k
