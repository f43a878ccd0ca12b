-- Forms of types of a table name types of the table.
use Rattle.std.proofs.Common.{◌≡◌, ℕ, ◌+◌, ◌-◌, ◌<◌, ◌≤◌, List, [], ◌∷◌, length, map, get_or, Bool, cond, ◌⊎◌, inl, inr, Option, Some, None, IfSome, All, sym, ◌∙◌, ap, arith, subst}
use Rattle.wcv_core.specs.CoreForm.{CompositeForm, func_form, struct_form, array_form, SubForm, Group, no_type}
use Rattle.wcv_core.specs.CoreGroups.{total, types_of, place_from, parents_from, IsHeapWithin, IsValWithin, IsStorageWithin, IsFieldWithin, IsFormWithin, AreClosed}
use Rattle.wcv_core.specs.CoreMatching.{type_at}
use Rattle.wcv_core.specs.CoreRules.{id_heap, id_val, id_storage, id_field, id_form, form_at}
use Rattle.wcv_core.specs.declared.core_types.HeapType.{HeapType}
use Rattle.wcv_core.specs.declared.core_types.HeapType.TheVariants as heap
use Rattle.wcv_core.specs.declared.core_types.StorageType.{StorageType}
use Rattle.wcv_core.specs.declared.core_types.StorageType.TheVariants as storage
use Rattle.wcv_core.specs.declared.core_types.ValType.{ValType}
use Rattle.wcv_core.specs.declared.core_types.ValType.TheVariants as val
use Rattle.wcv_core.proofs.Climbing.{before}
use Rattle.wcv_core.proofs.Rowing.{length-map, get_or-map, get_or-any, get_or-front, get_or-back, split, is_below, not_below}

pub mapped_within : {A B : Type 0} (P : B → Type 0) (f : A → B) (xs : List A) (i : ℕ) (x : A) → All P (map f xs) → i < length xs → P (f (get_or xs i x))
mapped_within P f xs i x h l = subst P (get_or-map f xs i x) (h i (f x) (omega (arith, length-map f xs)))

pub mapped_seen : {A B : Type 0} (P : B → Type 0) (f : A → B) (xs : List A) (i : ℕ) (x : A) (v : B) → All P (map f xs) → i < length xs → v ≡ f (get_or xs i x) → P v
mapped_seen P f xs i x v h l e = subst P (sym e) (mapped_within P f xs i x h l)

pub mapped_of_all : {A B : Type 0} (P : A → Type 0) (Q : B → Type 0) (f : A → B) (xs : List A) → ((x : A) → P x → Q (f x)) → All P xs → All Q (map f xs)
mapped_of_all P Q f [] g h k d l = Prim.absurd (omega arith)
mapped_of_all P Q f (x ∷ xs) g h k d l =
    let m : k < length (x ∷ xs) = omega (arith, length-map f (x ∷ xs)) in
    subst Q (sym (get_or-map f (x ∷ xs) k x) ∙ get_or-any (map f (x ∷ xs)) k (f x) d l) (g (get_or (x ∷ xs) k x) (h k x m))

-- ## Ids in place of positions

module _ (n len t : ℕ) (h : n + len ≤ t) where
  id_heap_within : (x : HeapType) → IsHeapWithin n len x → IsHeapWithin t 0 (id_heap n x)
  id_heap_within (heap.Abstract a) w = tt
  id_heap_within (heap.Index k) w = omega (arith, h, w)
  id_heap_within (heap.Id i) w = omega (arith, h, w)

  id_val_within : (v : ValType) → IsValWithin n len v → IsValWithin t 0 (id_val n v)
  id_val_within (val.Ref r) w = id_heap_within r.heap w
  id_val_within val.I32 w = tt
  id_val_within val.I64 w = tt
  id_val_within val.F32 w = tt
  id_val_within val.F64 w = tt
  id_val_within val.V128 w = tt

  id_storage_within : (s : StorageType) → IsStorageWithin n len s → IsStorageWithin t 0 (id_storage n s)
  id_storage_within (storage.Val v) w = id_val_within v w
  id_storage_within storage.I8 w = tt
  id_storage_within storage.I16 w = tt

  id_form_within : (f : CompositeForm) → IsFormWithin n len f → IsFormWithin t 0 (id_form n f)
  id_form_within (func_form ps rs) w =
      (mapped_of_all (IsValWithin n len) (IsValWithin t 0) (id_val n) ps id_val_within w.0, mapped_of_all (IsValWithin n len) (IsValWithin t 0) (id_val n) rs id_val_within w.1)
  id_form_within (struct_form fs) w = mapped_of_all (IsFieldWithin n len) (IsFieldWithin t 0) (id_field n) fs (λ f. id_storage_within f.storage) w
  id_form_within (array_form f) w = id_storage_within f.storage w

-- ## Each type of the table

record Stands (n : ℕ) (gs : List Group) (i : ℕ) : Type 0 where
  room : (place_from n gs (n + i)).0 + (place_from n gs (n + i)).1 ≤ n + total gs
  within : IsFormWithin (place_from n gs (n + i)).0 (place_from n gs (n + i)).1 (get_or (types_of gs) i no_type).inner

stands : (n : ℕ) (gs : List Group) (i : ℕ) → AreClosed n gs → i < total gs → Stands n gs i
stands n [] i c h = Prim.absurd (omega arith)
stands n (g ∷ gs) i c h = go (λ l. stands (n + length g) gs (i - length g) c.1 l) (split i (length g))
  where
    go : (i - length g < total gs → Stands (n + length g) gs (i - length g)) → (i < length g) ⊎ (length g ≤ i) → Stands n (g ∷ gs) i
    go rest (inl l) =
        let e : place_from n (g ∷ gs) (n + i) ≡ (n, length g) = ap (λ (b : Bool). cond b (n, length g) (place_from (n + length g) gs (n + i))) (is_below (n + i) (n + length g) (omega arith)) in
        let s : get_or (types_of (g ∷ gs)) i no_type ≡ get_or g i no_type = get_or-front g (types_of gs) i no_type l in
        record {
          room = subst (λ (p : ℕ × ℕ). p.0 + p.1 ≤ n + total (g ∷ gs)) (sym e) (omega arith);
          within = subst (λ (p : ℕ × ℕ). IsFormWithin p.0 p.1 (get_or (types_of (g ∷ gs)) i no_type).inner) (sym e) (subst (λ (x : SubForm). IsFormWithin n (length g) x.inner) (sym s) (c.0.within i no_type l));
        }
    go rest (inr l) =
        let r : Stands (n + length g) gs (i - length g) = rest (omega arith) in
        let b : n + length g + (i - length g) ≡ n + i = omega arith in
        let e : place_from n (g ∷ gs) (n + i) ≡ place_from (n + length g) gs (n + length g + (i - length g)) =
        ap (λ (t : Bool). cond t (n, length g) (place_from (n + length g) gs (n + i))) (not_below (n + i) (n + length g) (omega arith)) ∙ ap (place_from (n + length g) gs) (sym b) in
        let s : get_or (types_of (g ∷ gs)) i no_type ≡ get_or (types_of gs) (i - length g) no_type = get_or-back g (types_of gs) i no_type l in
        record {
          room = subst (λ (p : ℕ × ℕ). p.0 + p.1 ≤ n + total (g ∷ gs)) (sym e) (omega (arith, r.room));
          within =
              subst (λ (p : ℕ × ℕ). IsFormWithin p.0 p.1 (get_or (types_of (g ∷ gs)) i no_type).inner) (sym e)
              (subst (λ (x : SubForm). IsFormWithin (place_from (n + length g) gs (n + length g + (i - length g))).0 (place_from (n + length g) gs (n + length g + (i - length g))).1 x.inner) (sym s) r.within);
        }

pub form_within : (gs : List Group) (i : ℕ) → AreClosed 0 gs → i < total gs → IsFormWithin (total gs) 0 (form_at gs i)
form_within gs i c h =
    let s : Stands 0 gs i = stands 0 gs i c h in
    let z : 0 + i ≡ i = omega arith in
    let r : (place_from 0 gs i).0 + (place_from 0 gs i).1 ≤ total gs = subst (λ (k : ℕ). (place_from 0 gs k).0 + (place_from 0 gs k).1 ≤ total gs) z (omega (arith, s.room)) in
    let w : IsFormWithin (place_from 0 gs i).0 (place_from 0 gs i).1 (type_at gs i).inner = subst (λ (k : ℕ). IsFormWithin (place_from 0 gs k).0 (place_from 0 gs k).1 (type_at gs i).inner) z s.within in
    id_form_within (place_from 0 gs i).0 (place_from 0 gs i).1 (total gs) r (type_at gs i).inner w

-- as a table tells them
pub seen_within : (gs : List Group) (i n : ℕ) (s : SubForm) → AreClosed 0 gs → i < total gs → n ≡ (place_from 0 gs i).0 → ((d : SubForm) → s ≡ get_or (types_of gs) i d) → IsFormWithin (total gs) 0 (id_form n s.inner)
seen_within gs i n s c h e t = subst (λ (p : ℕ × SubForm). IsFormWithin (total gs) 0 (id_form p.0 p.1.inner)) (λ j. (sym e j, sym (t no_type) j)) (form_within gs i c h)

pub parent_within : (gs : List Group) (i p : ℕ) → AreClosed 0 gs → i < total gs → get_or (parents_from 0 gs) i None ≡ Some p → p < total gs
parent_within gs i p c h e = let b : IfSome (Some p) (λ q. q < 0 + i) = subst (λ (o : Option ℕ). IfSome o (λ q. q < 0 + i)) e (before 0 gs c i) in omega (arith, b)
