-- A written group without a cause has a closed form.
use Rattle.std.proofs.Common.{◌≡◌, ℕ, zero, suc, ◌+◌, ◌-◌, ◌<◌, ◌≤◌, List, [], ◌∷◌, ◌++◌, length, map, get_or, slice_get, false, nat_lt, not, ◌⊎◌, inl, inr, Option, Some, None, IfSome, All, refl, sym, ◌∙◌, ap, arith, subst}
use Rattle.std.proofs.lemmas.Bool.Decides.{nat_tests}
use Rattle.std.proofs.lemmas.Option.{slice_get_cases}
use Rattle.wcv_core.specs.Checks.{Checks, IsFree, all_checks}
use Rattle.wcv_core.specs.CoreFeatures.{group_needs}
use Rattle.wcv_core.specs.CoreForm.{CompositeForm, func_form, struct_form, array_form, SubForm, Group}
use Rattle.wcv_core.specs.CoreGroups.{IsHeapWithin, IsValWithin, IsStorageWithin, IsFieldWithin, IsFormWithin, parent_id, AreOrdered, IsClosed}
use Rattle.wcv_core.specs.CoreJoining.{is_late, order_checks, written_checks}
use Rattle.wcv_core.specs.CoreWritten.{Core_entry, sub_entry, module_entry, is_module, IsKnown, heap_checks, val_checks, storage_checks, field_checks, form_checks, super_heap, super_index_checks, index_checks, closed_index, closed_heap, closed_val, closed_storage, closed_field, closed_form, heap_super, closed_super, closed_sub, closed_group}
use Rattle.wcv_core.specs.declared.core_types.HeapType.{HeapType}
use Rattle.wcv_core.specs.declared.core_types.HeapType.TheVariants as heap
use Rattle.wcv_core.specs.declared.core_types.StorageType.{StorageType}
use Rattle.wcv_core.specs.declared.core_types.StorageType.TheVariants as storage
use Rattle.wcv_core.specs.declared.core_types.SuperType.{SuperType}
use Rattle.wcv_core.specs.declared.core_types.SuperType.TheVariants as super
use Rattle.wcv_core.specs.declared.core_types.ValType.{ValType}
use Rattle.wcv_core.specs.declared.core_types.ValType.TheVariants as val
use Rattle.wcv_core.specs.declared.features.WasmFeatures.{WasmFeatures}
use Rattle.wcv_core.proofs.Causes.{free_left, free_right}
use Rattle.wcv_core.proofs.Older.{supers_older}
use Rattle.wcv_core.proofs.Ordered.{order-closed}
use Rattle.wcv_core.proofs.Rowing.{length-map}
use Rattle.wcv_core.proofs.Within.{mapped_of_all}

below : (i m : ℕ) → not (nat_lt i m) ≡ false → i < m
below i m e = grind (arith, nat_tests)

all_free : {A : Type 0} (f : A → Checks) (xs : List A) → IsFree (all_checks f xs) → All (λ x. IsFree (f x)) xs
all_free f [] h k d l = Prim.absurd (omega arith)
all_free f (x ∷ xs) h zero d l = free_left (f x) (all_checks f xs) h
all_free f (x ∷ xs) h (suc k) d l = all_free f xs (free_right (f x) (all_checks f xs) h) k d (omega arith)

module _ (n len : ℕ) (es : List Core_entry) (known : All (IsKnown n) es) where
  heap_within : (h : HeapType) → IsFree (heap_checks n es len h) → IsHeapWithin n len (closed_heap es h)
  heap_within (heap.Abstract a) f = tt
  heap_within (heap.Id i) f = below i.index n f.0
  heap_within (heap.Index k) f = go (slice_get es k) refl (slice_get_cases es k).1
    where
      entry : (e : Core_entry) → IsKnown n e → is_module (Some e) ≡ false → IsHeapWithin n len (closed_index (Some e) (k - length es))
      entry (sub_entry j) w m = w
      entry module_entry w m = cc

      go : (o : Option Core_entry) → slice_get es k ≡ o → (((e : Core_entry) × (k < length es) × (slice_get es k ≡ Some e) × (get_or es k e ≡ e)) ⊎ ((length es ≤ k) × (slice_get es k ≡ None))) → IsHeapWithin n len (closed_heap es (heap.Index k))
      go o e (inl (x, l, s, t)) =
          subst (λ (q : Option Core_entry). IsHeapWithin n len (closed_index q (k - length es))) (sym s)
          (entry x (subst (IsKnown n) t (known k x l)) (ap is_module (sym s) ∙ f.1.0))
      go o e (inr (l, s)) = let w : k < length es + len = below k (length es + len) f.0 in subst (λ (q : Option Core_entry). IsHeapWithin n len (closed_index q (k - length es))) (sym s) (omega arith)

  val_within : (v : ValType) → IsFree (val_checks n es len v) → IsValWithin n len (closed_val es v)
  val_within (val.Ref r) f = heap_within r.heap f
  val_within val.I32 f = tt
  val_within val.I64 f = tt
  val_within val.F32 f = tt
  val_within val.F64 f = tt
  val_within val.V128 f = tt

  storage_within : (s : StorageType) → IsFree (storage_checks n es len s) → IsStorageWithin n len (closed_storage es s)
  storage_within (storage.Val v) f = val_within v f
  storage_within storage.I8 f = tt
  storage_within storage.I16 f = tt

  vals_within : (vs : List ValType) → IsFree (all_checks (val_checks n es len) vs) → All (IsValWithin n len) (map (closed_val es) vs)
  vals_within vs f = mapped_of_all (λ v. IsFree (val_checks n es len v)) (IsValWithin n len) (closed_val es) vs val_within (all_free (val_checks n es len) vs f)

  form_within : (x : CompositeForm) → IsFree (form_checks n es len x) → IsFormWithin n len (closed_form es x)
  form_within (func_form ps rs) f =
      (vals_within ps (free_left (all_checks (val_checks n es len) ps) (all_checks (val_checks n es len) rs) f), vals_within rs (free_right (all_checks (val_checks n es len) ps) (all_checks (val_checks n es len) rs) f))
  form_within (struct_form fs) f = mapped_of_all (λ t. IsFree (field_checks n es len t)) (IsFieldWithin n len) (closed_field es) fs (λ t. storage_within t.storage) (all_free (field_checks n es len) fs f)
  form_within (array_form t) f = storage_within t.storage f

  -- ## Supertypes

  IsSuperWithin : Option SuperType → Type 0
  IsSuperWithin None = Unit {0}
  IsSuperWithin (Some (super.Index i)) = Unit {0}
  IsSuperWithin (Some (super.Id i)) = i.index < n

  super_of_heap : (h : HeapType) → IsHeapWithin n len h → IsSuperWithin (heap_super h)
  unfolding IsSuperWithin
  super_of_heap (heap.Abstract a) w = tt
  super_of_heap (heap.Index i) w = tt
  super_of_heap (heap.Id i) w = w

  super_within : (o : Option SuperType) → IsFree (super_index_checks n es len o) → IsSuperWithin (closed_super es o)
  unfolding IsSuperWithin
  super_within None f = tt
  super_within (Some t) f = super_of_heap (closed_heap es (super_heap t)) (heap_within (super_heap t) f)

  stands_before : (k m : ℕ) (o : Option SuperType) → m ≡ n + k → IsSuperWithin o → is_late k o ≡ false → IfSome (parent_id n o) (λ p. p < m)
  unfolding IsSuperWithin
  stands_before k m None e w l = tt
  stands_before k m (Some (super.Index i)) e w l = let b : i < k = below i k l in omega arith
  stands_before k m (Some (super.Id i)) e w l = omega (arith, w)

  ordered : (k m : ℕ) (w : Group) → m ≡ n + k → IsFree (order_checks k (closed_group es w)) → IsFree (all_checks (index_checks n es len) w) → AreOrdered n m (closed_group es w)
  ordered k m [] e o f = tt
  ordered k m (s ∷ w) e o f =
      let supers : Checks = super_index_checks n es len s.supertype in
      let forms : Checks = form_checks n es len s.inner in (
        stands_before k m (closed_super es s.supertype) e (super_within s.supertype (free_left supers forms (free_left (index_checks n es len s) (all_checks (index_checks n es len) w) f))) o.0,
        ordered (suc k) (m + 1) w (omega arith) o.1 (free_right (index_checks n es len s) (all_checks (index_checks n es len) w) f),
      )

  group_closed : (w : Group) → len ≡ length w → 0 < length w → IsFree (all_checks (index_checks n es len) w) → IsFree (order_checks 0 (closed_group es w)) → IsClosed n (closed_group es w)
  group_closed w l s f o =
      let m : length (closed_group es w) ≡ length w = length-map (closed_sub es) w in
      let forms : All (λ (x : SubForm). IsFormWithin n len x.inner) (closed_group es w) =
      mapped_of_all (λ (x : SubForm). IsFree (index_checks n es len x)) (λ (x : SubForm). IsFormWithin n len x.inner) (closed_sub es) w (λ x g. form_within x.inner (free_right (super_index_checks n es len x.supertype) (form_checks n es len x.inner) g)) (all_free (index_checks n es len) w f) in
      record {
        some = omega arith;
        older = supers_older n len es known w len f forms;
        ordered = ordered 0 n w (omega arith) o f;
        within = subst (λ (j : ℕ). All (λ (x : SubForm). IsFormWithin n j x.inner) (closed_group es w)) (l ∙ sym m) forms;
      }

pub written_closed : (fs : WasmFeatures) (n : ℕ) (es : List Core_entry) (w : Group) → All (IsKnown n) es → 0 < length w → IsFree (written_checks fs n es w) → IsClosed n (closed_group es w)
written_closed fs n es w k s f =
    let indices : Checks = all_checks (index_checks n es (length w)) w in
    let order : Checks = order_checks (length es) w in
    let rest : IsFree (indices ++ order) = free_right (group_needs fs w) (indices ++ order) f in
    let right : IsFree indices = free_left indices order rest in
    let same : order_checks 0 (closed_group es w) ≡ order = order-closed n (length w) es 0 (length es) w (omega arith) right in
    group_closed n (length w) es k w refl s right (subst IsFree (sym same) (free_right indices order rest))
