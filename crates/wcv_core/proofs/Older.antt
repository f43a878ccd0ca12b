-- A written group without a cause names older types alone by ids.
use Rattle.std.proofs.Common.{◌≡◌, ℕ, zero, suc, ◌+◌, ◌-◌, ◌<◌, ◌≤◌, List, [], ◌∷◌, ◌++◌, length, get_or, slice_get, All, false, not, nat_lt, ◌⊎◌, inl, inr, Option, Some, None, IfSome, sym, arith, subst, length-append}
use Rattle.std.proofs.lemmas.Bool.Decides.{nat_tests}
use Rattle.std.proofs.lemmas.Option.{slice_get_cases}
use Rattle.wcv_core.specs.Checks.{IsFree, all_checks}
use Rattle.wcv_core.specs.CoreForm.{CompositeForm, func_form, struct_form, array_form, SubForm, Group}
use Rattle.wcv_core.specs.CoreGroups.{IsHeapWithin, IsValWithin, IsStorageWithin, IsFieldWithin, IsFormWithin}
use Rattle.wcv_core.specs.CoreIds.{heap_ids, val_ids, storage_ids, field_ids, all_ids, composite_ids, super_ids, sub_ids, ids_in_group}
use Rattle.wcv_core.specs.CoreWritten.{Core_entry, sub_entry, module_entry, IsKnown, form_checks, super_index_checks, index_checks, closed_index, closed_super, closed_sub, closed_group, heap_super}
use Rattle.wcv_core.specs.declared.core_types.HeapType.{HeapType}
use Rattle.wcv_core.specs.declared.core_types.HeapType.TheVariants as heap
use Rattle.wcv_core.specs.declared.core_types.StorageType.{StorageType}
use Rattle.wcv_core.specs.declared.core_types.StorageType.TheVariants as storage
use Rattle.wcv_core.specs.declared.core_types.SuperType.{SuperType}
use Rattle.wcv_core.specs.declared.core_types.SuperType.TheVariants as super
use Rattle.wcv_core.specs.declared.core_types.ValType.{ValType}
use Rattle.wcv_core.specs.declared.core_types.ValType.TheVariants as val
use Rattle.wcv_core.proofs.Causes.{free_left, free_right}
use Rattle.wcv_core.proofs.Rowing.{split, get_or-front, get_or-back}

-- ## Ids within bounds

no_ids : (P : ℕ → Type 0) → All P []
no_ids P k d l = Prim.absurd (omega arith)

one_id : (P : ℕ → Type 0) (i : ℕ) → P i → All P (i ∷ [])
one_id P i p zero d l = p
one_id P i p (suc k) d l = Prim.absurd (omega arith)

both_ids : (P : ℕ → Type 0) (is js : List ℕ) → All P is → All P js → All P (is ++ js)
both_ids P is js p q k d l = go (split k (length is))
  where
    go : (k < length is) ⊎ (length is ≤ k) → P (get_or (is ++ js) k d)
    go (inl m) = subst P (sym (get_or-front is js k d m)) (p k d m)
    go (inr m) = let n : length (is ++ js) ≡ length is + length js = length-append is js in subst P (sym (get_or-back is js k d m)) (q (k - length is) d (omega arith))

each_within : {A : Type 0} (P : ℕ → Type 0) (Q : A → Type 0) (ids : A → List ℕ) → ((x : A) → Q x → All P (ids x)) → (xs : List A) → All Q xs → All P (all_ids ids xs)
each_within P Q ids f [] a = no_ids P
each_within P Q ids f (x ∷ xs) a = both_ids P (ids x) (all_ids ids xs) (f x (a 0 x (omega arith))) (each_within P Q ids f xs (λ k d l. a (suc k) d (omega arith)))

module _ (n len : ℕ) where
  abbrev IsOlder : ℕ → Type 0
  IsOlder i = i < n

  heap_older : (h : HeapType) → IsHeapWithin n len h → All IsOlder (heap_ids h)
  heap_older (heap.Abstract a) w = no_ids IsOlder
  heap_older (heap.Index k) w = no_ids IsOlder
  heap_older (heap.Id i) w = one_id IsOlder i.index w

  val_older : (v : ValType) → IsValWithin n len v → All IsOlder (val_ids v)
  val_older val.I32 w = no_ids IsOlder
  val_older val.I64 w = no_ids IsOlder
  val_older val.F32 w = no_ids IsOlder
  val_older val.F64 w = no_ids IsOlder
  val_older val.V128 w = no_ids IsOlder
  val_older (val.Ref r) w = heap_older r.heap w

  storage_older : (s : StorageType) → IsStorageWithin n len s → All IsOlder (storage_ids s)
  storage_older storage.I8 w = no_ids IsOlder
  storage_older storage.I16 w = no_ids IsOlder
  storage_older (storage.Val v) w = val_older v w

  form_older : (x : CompositeForm) → IsFormWithin n len x → All IsOlder (composite_ids x)
  form_older (func_form ps rs) w = both_ids IsOlder (all_ids val_ids ps) (all_ids val_ids rs) (each_within IsOlder (IsValWithin n len) val_ids val_older ps w.0) (each_within IsOlder (IsValWithin n len) val_ids val_older rs w.1)
  form_older (struct_form fs) w = each_within IsOlder (IsFieldWithin n len) field_ids (λ f. storage_older f.storage) fs w
  form_older (array_form f) w = storage_older f.storage w

-- ## Written groups

below : (i m : ℕ) → not (nat_lt i m) ≡ false → i < m
below i m e = grind (arith, nat_tests)

module _ (n len : ℕ) (es : List Core_entry) (known : All (IsKnown n) es) where
  entry_older : (o : Option Core_entry) (k : ℕ) → IfSome o (IsKnown n) → All (λ i. i < n) (super_ids (heap_super (closed_index o k)))
  entry_older None k w = no_ids (λ i. i < n)
  entry_older (Some module_entry) k w = no_ids (λ i. i < n)
  entry_older (Some (sub_entry j)) k w = one_id (λ i. i < n) j w

  found_known : (k : ℕ) → IfSome (slice_get es k) (IsKnown n)
  found_known k = go (slice_get_cases es k).1
    where
      go : (((e : Core_entry) × (k < length es) × (slice_get es k ≡ Some e) × (get_or es k e ≡ e)) ⊎ ((length es ≤ k) × (slice_get es k ≡ None))) → IfSome (slice_get es k) (IsKnown n)
      go (inl (e, l, s, t)) = subst (λ (o : Option Core_entry). IfSome o (IsKnown n)) (sym s) (subst (IsKnown n) t (known k e l))
      go (inr (l, s)) = subst (λ (o : Option Core_entry). IfSome o (IsKnown n)) (sym s) tt

  closed_super_older : (o : Option SuperType) → IsFree (super_index_checks n es len o) → All (λ i. i < n) (super_ids (closed_super es o))
  closed_super_older None f = no_ids (λ i. i < n)
  closed_super_older (Some (super.Id i)) f = one_id (λ i. i < n) i.index (below i.index n f.0)
  closed_super_older (Some (super.Index k)) f = entry_older (slice_get es k) (k - length es) (found_known k)

  pub supers_older : (w : Group) (m : ℕ) → IsFree (all_checks (index_checks n es len) w) → All (λ (s : SubForm). IsFormWithin n m s.inner) (closed_group es w) → All (λ i. i < n) (ids_in_group (closed_group es w))
  supers_older [] m f c = no_ids (λ i. i < n)
  supers_older (s ∷ w) m f c =
      let here : IsFree (index_checks n es len s) = free_left (index_checks n es len s) (all_checks (index_checks n es len) w) f in
      both_ids (λ i. i < n) (sub_ids (closed_sub es s)) (ids_in_group (closed_group es w))
      (both_ids (λ i. i < n) (super_ids (closed_super es s.supertype)) (composite_ids (closed_sub es s).inner)
      (closed_super_older s.supertype (free_left (super_index_checks n es len s.supertype) (form_checks n es len s.inner) here))
      (form_older n m (closed_sub es s).inner (c 0 (closed_sub es s) (omega arith))))
      (supers_older w m (free_right (index_checks n es len s) (all_checks (index_checks n es len) w) f) (λ k d l. c (suc k) d (omega arith)))
