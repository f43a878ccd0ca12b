-- What a module imports and exports: of the table, and counted in its size.
use Rattle.std.proofs.Common.{◌≡◌, ℕ, suc, ◌+◌, ◌-◌, ◌<◌, ◌≤◌, List, [], ◌∷◌, ◌++◌, length, map, refl, sym, ◌∙◌, ap, arith, subst, Option, Some, None, All, slice_get, append-nil, append_assoc, not, nat_lt, false, true≢false, cond}
use Rattle.std.specs.Option.{option_map, unwrap_or}
use Rattle.std.proofs.lemmas.Bool.Decides.{nat_tests}
use Rattle.std.proofs.lemmas.List.Elements.{All-append, All-cons}
use Rattle.wcv_core.proofs.Causes.{free_left, free_right}
use Rattle.wcv_core.proofs.Kept.{map-append}
use Rattle.wcv_core.specs.Checks.{IsFree, is_none}
use Rattle.wcv_core.specs.CoreFeatures.{ref_needs, val_needs}
use Rattle.wcv_core.specs.CoreForm.{Group}
use Rattle.wcv_core.specs.CoreGroups.{total, IsHeapWithin, IsValWithin}
use Rattle.wcv_core.specs.CoreJoining.{is_free, with_types, grown, group_ids}
use Rattle.wcv_core.specs.CoreSizes.{IsEntityWithin, entity_size}
use Rattle.wcv_core.specs.CoreWritten.{Core_entry, sub_entry, module_entry, is_module, IsKnown, heap_checks, val_checks, closed_index, closed_heap, closed_val, closed_group}
use Rattle.wcv_core.specs.declared.core_types.CoreTypeId.{CoreTypeId}
use Rattle.wcv_core.specs.declared.core_types.EntityType.{EntityType}
use Rattle.wcv_core.specs.declared.core_types.EntityType.TheVariants as entity
use Rattle.wcv_core.specs.declared.core_types.HeapType.{HeapType}
use Rattle.wcv_core.specs.declared.core_types.HeapType.TheVariants as heap
use Rattle.wcv_core.specs.declared.core_types.ValType.{ValType}
use Rattle.wcv_core.specs.declared.core_types.ValType.TheVariants as val
use Rattle.wcv_core.specs.declared.features.WasmFeatures.{WasmFeatures}
use Rattle.wcv_types.specs.Standing.{entity_sizes}
use Rattle.wcv_types.proofs.CoreGrown.{within_more, sizes_stay, sizes-append, grown_by}
use Rattle.wcv_types.proofs.Unfolding.{all_left, all_right}
use Rattle.wcv_module.specs.Kept.{module_items, IsCounted}
use Rattle.wcv_module.proofs.Growing.{Grows, known_named}
use Rattle.wcv_module.proofs.Indices.{known_at, none_past}
use Rattle.wcv_syntax.specs.CoreItems.{type_entries, ref_checks, entity_of, element_checks, sharing_checks, closed_table, closed_global}
use Rattle.wcv_syntax.specs.Model.{Text, Module_decl, module_type, module_import, module_export, module_outer}
use Rattle.wcv_syntax.specs.ModuleTypes.{Module_type, module_entries, Core_import, Core_export, Made, with_type, with_import, with_export, with_group_of, on_entry, if_entity, import_checks, export_checks, aliased, decl_checks, declared}
use Rattle.wcv_syntax.specs.declared.core_section.TypeRef.{TypeRef}
use Rattle.wcv_syntax.specs.declared.core_section.TypeRef.TheVariants as ref

-- ## A larger table

counted_more : (gs more : List Group) (m : Module_type) → IsCounted gs m → IsCounted (gs ++ more) m
counted_more gs more m s = record { within = within_more gs more (module_items m) s.within; size = s.size ∙ ap suc (sym (sizes_stay gs more (module_items m) s.within)) }

pub counted_grows : (gs hs : List Group) (m : Module_type) → Grows gs hs → IsCounted gs m → IsCounted hs m
counted_grows gs hs m (more, e) s = subst (λ (xs : List Group). IsCounted xs m) (sym e) (counted_more gs more m s)

-- ## What a written type comes to is of the table

below : (i m : ℕ) → not (nat_lt i m) ≡ false → i < m
below i m e = grind (arith, nat_tests)

heap_within : (n : ℕ) (es : List Core_entry) (h : HeapType) → All (IsKnown n) es → IsFree (heap_checks n es 0 h) → IsHeapWithin n 0 (closed_heap es h)
heap_within n es (heap.Abstract a) known f = tt
heap_within n es (heap.Id i) known f = below i.index n f.0
heap_within n es (heap.Index k) known f = go (slice_get es k) refl
  where
    go : (o : Option Core_entry) → slice_get es k ≡ o → IsHeapWithin n 0 (closed_index o (k - length es))
    go None e = let l : length es ≤ k = none_past es k (ap is_none e) in let w : k < length es + 0 = below k (length es + 0) f.0 in Prim.absurd (omega arith)
    go (Some (sub_entry j)) e = known_named n es k j known (ap on_entry e)
    go (Some module_entry) e = Prim.absurd (true≢false (ap is_module (sym e) ∙ f.1.0))

val_within : (n : ℕ) (es : List Core_entry) (v : ValType) → All (IsKnown n) es → IsFree (val_checks n es 0 v) → IsValWithin n 0 (closed_val es v)
val_within n es (val.Ref r) known f = heap_within n es r.heap known f
val_within n es val.I32 known f = tt
val_within n es val.I64 known f = tt
val_within n es val.F32 known f = tt
val_within n es val.F64 known f = tt
val_within n es val.V128 known f = tt

some_same : {A : Type 0} (x y : A) → Some x ≡ Some y → x ≡ y
some_same x y e = ap (λ o. unwrap_or o x) e

at_index : (n : ℕ) (ts : List CoreTypeId) (i : ℕ) (f : CoreTypeId → EntityType) (e : EntityType) → ((t : CoreTypeId) → t.index < n → IsEntityWithin n (f t)) → All (IsKnown n) (type_entries ts) → option_map f (slice_get ts i) ≡ Some e → IsEntityWithin n e
at_index n ts i f e stands known is = go (slice_get ts i) refl is
  where
    go : (o : Option CoreTypeId) → slice_get ts i ≡ o → option_map f o ≡ Some e → IsEntityWithin n e
    go None s is = cc
    go (Some t) s is = subst (IsEntityWithin n) (some_same (f t) e is) (stands t (known_at n ts i t s known))

pub entity_within : (fs : WasmFeatures) (gs : List Group) (ts : List CoreTypeId) (t : TypeRef) (e : EntityType) → All (IsKnown (total gs)) (type_entries ts) → IsFree (ref_checks fs gs ts t) → entity_of ts t ≡ Some e → IsEntityWithin (total gs) e
entity_within fs gs ts (ref.Func i) e known f is = at_index (total gs) ts i entity.Func e (λ t h. h) known is
entity_within fs gs ts (ref.Tag i) e known f is = at_index (total gs) ts i entity.Tag e (λ t h. h) known is
entity_within fs gs ts (ref.Table t) e known f is =
    let es : List Core_entry = type_entries ts in
    let element : IsFree (element_checks fs gs es t.element_type) = free_left (element_checks fs gs es t.element_type) (cond (is_free (element_checks fs gs es t.element_type)) (sharing_checks gs es t) []) f.1.1.1.1.1 in
    subst (IsEntityWithin (total gs)) (some_same (entity.Table (closed_table es t)) e is) (heap_within (total gs) es t.element_type.heap known (free_right (ref_needs fs t.element_type) (heap_checks (total gs) es 0 t.element_type.heap) element))
entity_within fs gs ts (ref.Memory m) e known f is = subst (IsEntityWithin (total gs)) (some_same (entity.Memory m) e is) tt
entity_within fs gs ts (ref.Global g) e known f is =
    subst (IsEntityWithin (total gs)) (some_same (entity.Global (closed_global (type_entries ts) g)) e is) (val_within (total gs) (type_entries ts) g.content_type known (free_right (val_needs fs g.content_type) (val_checks (total gs) (type_entries ts) 0 g.content_type) f.1))

-- ## One more item

abbrev import_of : Core_import → EntityType
import_of i = i.1

abbrev export_of : Core_export → EntityType
export_of e = e.1

-- one more between the items of m makes p
counted_between : (gs : List Group) (m p : Module_type) (xs ys : List EntityType) (e : EntityType) → module_items m ≡ xs ++ ys → module_items p ≡ xs ++ e ∷ ys → p.size ≡ m.size + entity_size gs e → IsEntityWithin (total gs) e → IsCounted gs m → IsCounted gs p
counted_between gs m p xs ys e before after size w s =
    let P : EntityType → Type 0 = IsEntityWithin (total gs) in
    let old : All P (xs ++ ys) = subst (All P) before s.within in
    record {
      within = subst (All P) (sym after) (All-append P xs (e ∷ ys) (all_left P xs ys old) (All-cons P e ys w (all_right P xs ys old)));
      size = subst (λ (zs : List EntityType). p.size ≡ suc (entity_sizes gs zs)) (sym after) (omega (arith, size, s.size ∙ ap (λ zs. suc (entity_sizes gs zs)) before, sizes-append gs xs ys, sizes-append gs xs (e ∷ ys)));
    }

counted_import : (gs : List Group) (m : Module_type) (p : Text × Text) (e : EntityType) → IsEntityWithin (total gs) e → IsCounted gs m → IsCounted gs (with_import gs m p e)
counted_import gs m p e =
    let xs : List EntityType = map import_of m.imports in
    let ys : List EntityType = map export_of m.exports in
    counted_between gs m (with_import gs m p e) xs ys e refl (ap (λ zs. zs ++ ys) (map-append import_of m.imports ((p, e) ∷ [])) ∙ append_assoc xs (e ∷ []) ys) refl

counted_export : (gs : List Group) (m : Module_type) (n : Text) (e : EntityType) → IsEntityWithin (total gs) e → IsCounted gs m → IsCounted gs (with_export gs m n e)
counted_export gs m n e =
    let xs : List EntityType = map import_of m.imports in
    let ys : List EntityType = map export_of m.exports in
    counted_between gs m (with_export gs m n e) (xs ++ ys) [] e (sym (append-nil (xs ++ ys))) (ap (λ zs. xs ++ zs) (map-append export_of m.exports ((n, e) ∷ [])) ∙ sym (append_assoc xs ys (e ∷ []))) refl

counted_type : (gs : List Group) (m : Module_type) (i : ℕ) → IsCounted gs m → IsCounted gs (with_type m i)
counted_type gs m i s = record { within = s.within; size = s.size }

counted_types : (gs : List Group) (m : Module_type) (is : List ℕ) → IsCounted gs m → IsCounted gs (with_types with_type m is)
counted_types gs m [] s = s
counted_types gs m (i ∷ is) s = counted_types gs (with_type m i) is (counted_type gs m i s)

-- ## One more declaration

module _ (gs hs : List Group) (p : Module_type) where
  reached : (s : Made) → Some s ≡ Some (hs, p) → IsCounted s.0 s.1 → IsCounted hs p
  reached s e c = subst (λ (t : Made). IsCounted t.0 t.1) (some_same s (hs, p) e) c

  mapped : {A : Type 0} (f : A → Module_type) (o : Option A) → ((x : A) → o ≡ Some x → IsCounted gs (f x)) → option_map {U = Made} (λ x. (gs, f x)) o ≡ Some (hs, p) → IsCounted hs p
  mapped f None c e = cc
  mapped f (Some x) c e = reached (gs, f x) e (c x refl)

pub decl_counted : (outers : List (List Core_entry)) (gs hs : List Group) (m p : Module_type) (d : Module_decl)
    → All (IsKnown (total gs)) (module_entries m) → IsFree (decl_checks outers gs m d) → declared outers gs m d ≡ Some (hs, p) → IsCounted gs m → IsCounted hs p
decl_counted outers gs hs m p (module_type w) known f e s =
    let g : Group = closed_group (module_entries m) w in
    reached gs hs p (with_group_of gs m w) e (counted_types (grown gs g) m (group_ids gs g) (counted_grows gs (grown gs g) m (grown_by gs g) s))
decl_counted outers gs hs m p (module_import i) known f e s =
    mapped gs hs p (with_import gs m (i.module, i.name)) (entity_of m.types i.ty)
    (λ t is. counted_import gs m (i.module, i.name) t (entity_within m.features gs m.types i.ty t known (free_left (ref_checks m.features gs m.types i.ty) (if_entity (import_checks gs m) (entity_of m.types i.ty)) f) is) s) e
decl_counted outers gs hs m p (module_export n t) known f e s =
    mapped gs hs p (with_export gs m n) (entity_of m.types t)
    (λ x is. counted_export gs m n x (entity_within m.features gs m.types t x known (free_left (ref_checks m.features gs m.types t) (if_entity (export_checks gs m n) (entity_of m.types t)) f) is) s) e
decl_counted outers gs hs m p (module_outer k i) known f e s = mapped gs hs p (with_type m) (aliased outers m k i) (λ t is. counted_type gs m t s) e
