-- The form of a type of a table, in closed form, is that of its closed form.
use Rattle.std.proofs.Common.{◌≡◌, ℕ, zero, suc, ◌+◌, ◌-◌, ◌<◌, ◌≤◌, List, [], ◌∷◌, ◌++◌, length, take, map, get_or, All, Bool, cond, Option, Some, refl, sym, ◌∙◌, ap, arith, subst, length-append, inl, inr}
use Rattle.std.specs.Option.{unwrap_or}
use Rattle.wcv_core.specs.CoreForm.{func_form, struct_form, array_form, SubForm, Group, no_type}
use Rattle.wcv_core.specs.CoreGroups.{total, place_from, IsHeapWithin, IsValWithin, IsStorageWithin, IsFieldWithin, IsFormWithin}
use Rattle.wcv_core.specs.CoreIds.{heap_ids, val_ids, storage_ids, field_ids, all_ids, composite_ids, super_ids, sub_ids, ids_in_group}
use Rattle.wcv_core.specs.CoreMatching.{type_at}
use Rattle.wcv_core.specs.CoreRules.{id_heap, id_val, id_storage, id_field, id_form, form_at}
use Rattle.wcv_core.specs.CoreWritten.{closed_mark}
use Rattle.wcv_core.specs.declared.core_types.HeapType.{HeapType}
use Rattle.wcv_core.specs.declared.core_types.HeapType.TheVariants as heap
use Rattle.wcv_core.specs.declared.core_types.StorageType.TheVariants as storage
use Rattle.wcv_core.specs.declared.core_types.ValType.TheVariants as val
use Rattle.wcv_core.proofs.Rowing.{get_or-front, get_or-back, is_below, not_below}
use Rattle.wcv_closed.specs.ClosedForm.{held, func_of, struct_of, array_of, storage_by, field_by, form_by, own_heap, own_val, own_storage, own_field, own_composite, form_of}
use Rattle.wcv_closed.specs.ClosedTable.{IsTable}
use Rattle.wcv_closed.specs.ClosedType.{Closed, closed_type, Closeds, nth, no_closed, named, all_closed, closed, closed_at}
use Rattle.wcv_closed.specs.ClosedValue.{to_type, ref, heap_by, val_by}
use Rattle.wcv_closed.specs.NumberedIds.{numbered_heap, numbered_val, numbered_storage, numbered_field, numbered_each, numbered_form, numbered_from}
use Rattle.wcv_closed.proofs.Numbering.{sub_at, StandBehind, stand_behind}
use Rattle.wcv_closed.proofs.Standing.{StandsAt, Place, place, low, type_is, is_closed}
use Rattle.wcv_closed.proofs.Unfolding.{unfolds}

-- ## Types that are named from a number on

module _ (gs : List Group) (cs : Closeds) where
  -- from the number q on, cs has the types with these ids
  abbrev HasAt : ℕ → List ℕ → Type 0
  HasAt q is = (j : ℕ) → j < length is → nth cs (q + j) ≡ Some (closed gs (get_or is j 0))

  has_left : (q : ℕ) (is js : List ℕ) → HasAt q (is ++ js) → HasAt q is
  has_left q is js h j l =
      let n : length (is ++ js) ≡ length is + length js = length-append is js in
      h j (omega arith) ∙ ap (λ (i : ℕ). Some (closed gs i)) (get_or-front is js j 0 l)

  has_right : (q : ℕ) (is js : List ℕ) → HasAt q (is ++ js) → HasAt (q + length is) js
  has_right q is js h j l =
      let n : length (is ++ js) ≡ length is + length js = length-append is js in
      let z : q + length is + j ≡ q + (length is + j) = omega arith in
      let y : length is + j - length is ≡ j = omega arith in
      ap (nth cs) z ∙ (h (length is + j) (omega arith) ∙ ap (λ (i : ℕ). Some (closed gs i)) (get_or-back is js (length is + j) 0 (omega arith) ∙ ap (λ (m : ℕ). get_or js m 0) y))

mark_numbered : (q : ℕ) (h : HeapType) (mark : Bool) → closed_mark (numbered_heap q h) mark ≡ closed_mark h mark
mark_numbered q (heap.Abstract a) mark = refl
mark_numbered q (heap.Index k) mark = refl
mark_numbered q (heap.Id i) mark = refl

-- ## A form in a group whose first id is m

module _ (gs : List Group) (g : Group) (cs : Closeds) (m len : ℕ) (own : (k : ℕ) → k < len → closed gs (m + k) ≡ closed_type g cs k) where
  -- with ids in place of positions, and then closed, it is that of the closed group
  abbrev IsFormed : {A B : Type 0} → (A → Type 0) → (A → List ℕ) → (ℕ → A → A) → (A → B) → (A → B) → Type 0
  IsFormed {A} {B} Within ids numbered over own_one = (q : ℕ) (x : A) → Within x → HasAt gs cs q (ids x) → over x ≡ own_one (numbered q x)

  heap_formed : IsFormed (IsHeapWithin m len) heap_ids numbered_heap (λ h. heap_by (closed gs) (id_heap m h)) (own_heap g cs)
  heap_formed q (heap.Abstract a) w h = refl
  heap_formed q (heap.Index k) w h = ap to_type (own k w)
  heap_formed q (heap.Id i) w h =
      let z : q + 0 ≡ q = omega arith in
      ap (λ (o : Option Closed). to_type (unwrap_or o no_closed)) (sym (ap (nth cs) (sym z) ∙ h 0 (omega arith)))

  val_formed : IsFormed (IsValWithin m len) val_ids numbered_val (λ v. val_by (closed gs) (id_val m v)) (own_val g cs)
  val_formed q (val.Ref r) w h =
      let e : heap_by (closed gs) (id_heap m r.heap) ≡ own_heap g cs (numbered_heap q r.heap) = heap_formed q r.heap w h in
      let k : closed_mark r.heap r.shared ≡ closed_mark (numbered_heap q r.heap) r.shared = sym (mark_numbered q r.heap r.shared) in
      λ j. ref (record { nullable = r.nullable; shared = k j; heap = e j })
  val_formed q val.I32 w h = refl
  val_formed q val.I64 w h = refl
  val_formed q val.F32 w h = refl
  val_formed q val.F64 w h = refl
  val_formed q val.V128 w h = refl

  storage_formed : IsFormed (IsStorageWithin m len) storage_ids numbered_storage (λ s. storage_by (closed gs) (id_storage m s)) (own_storage g cs)
  storage_formed q storage.I8 w h = refl
  storage_formed q storage.I16 w h = refl
  storage_formed q (storage.Val v) w h = ap held (val_formed q v w h)

  field_formed : IsFormed (IsFieldWithin m len) field_ids numbered_field (λ x. field_by (closed gs) (id_field m x)) (own_field g cs)
  field_formed q x w h =
      let e : storage_by (closed gs) (id_storage m x.storage) ≡ own_storage g cs (numbered_storage q x.storage) = storage_formed q x.storage w h in
      λ j. record { storage = e j; mutable = x.mutable }

  each_formed : {A B : Type 0} (Within : A → Type 0) (ids : A → List ℕ) (numbered : ℕ → A → A) (with_ids : A → A) (closing own_one : A → B)
      → IsFormed Within ids numbered (λ x. closing (with_ids x)) own_one → IsFormed (All Within) (all_ids ids) (numbered_each ids numbered) (λ xs. map closing (map with_ids xs)) (map own_one)
  each_formed Within ids numbered with_ids closing own_one is q [] w h = refl
  each_formed {A} {B} Within ids numbered with_ids closing own_one is q (x ∷ xs) w h =
      let e : closing (with_ids x) ≡ own_one (numbered q x) = is q x (w 0 x (omega arith)) (has_left gs cs q (ids x) (all_ids ids xs) h) in
      let t : map closing (map with_ids xs) ≡ map own_one (numbered_each ids numbered (q + length (ids x)) xs) =
      each_formed Within ids numbered with_ids closing own_one is (q + length (ids x)) xs (λ k d l. w (suc k) d (omega arith)) (has_right gs cs q (ids x) (all_ids ids xs) h) in
      λ j. e j ∷ t j

  form_formed : IsFormed (IsFormWithin m len) composite_ids numbered_form (λ x. form_by (closed gs) (id_form m x)) (own_composite g cs)
  form_formed q (func_form ps rs) w h =
      let e : map (val_by (closed gs)) (map (id_val m) ps) ≡ map (own_val g cs) (numbered_each val_ids numbered_val q ps) =
      each_formed (IsValWithin m len) val_ids numbered_val (id_val m) (val_by (closed gs)) (own_val g cs) val_formed q ps w.0 (has_left gs cs q (all_ids val_ids ps) (all_ids val_ids rs) h) in
      let t : map (val_by (closed gs)) (map (id_val m) rs) ≡ map (own_val g cs) (numbered_each val_ids numbered_val (q + length (all_ids val_ids ps)) rs) =
      each_formed (IsValWithin m len) val_ids numbered_val (id_val m) (val_by (closed gs)) (own_val g cs) val_formed (q + length (all_ids val_ids ps)) rs w.1 (has_right gs cs q (all_ids val_ids ps) (all_ids val_ids rs) h) in
      λ j. func_of (e j) (t j)
  form_formed q (struct_form fs) w h = ap struct_of (each_formed (IsFieldWithin m len) field_ids numbered_field (id_field m) (field_by (closed gs)) (own_field g cs) field_formed q fs w h)
  form_formed q (array_form x) w h = ap array_of (field_formed q x w h)

-- ## A type of the table

pub place_is : (n : ℕ) (gs : List Group) (m : ℕ) (g : Group) (k : ℕ) → StandsAt n gs m g → k < length g → place_from n gs (m + k) ≡ (m, length g)
place_is n [] m g k s h = elim s [ ]
place_is n (x ∷ gs) m g k (inl p) h =
    let e : m ≡ n = p.0 in
    let l : length g ≡ length x = ap (length {A = SubForm}) p.1 in
    ap (λ (b : Bool). cond b (n, length x) (place_from (n + length x) gs (m + k))) (is_below (m + k) (n + length x) (omega arith)) ∙ λ j. (sym e j, sym l j)
place_is n (x ∷ gs) m g k (inr s) h =
    let l : n + length x ≤ m = low (n + length x) gs m g s in
    ap (λ (b : Bool). cond b (n, length x) (place_from (n + length x) gs (m + k))) (not_below (m + k) (n + length x) (omega arith)) ∙ place_is (n + length x) gs m g k s h

nth_at : (cs : List Closed) (is : List ℕ) (q : ℕ) → q < length is → nth (named cs is) q ≡ Some (get_or cs (get_or is q 0) no_closed)
nth_at cs [] q h = Prim.absurd (omega arith)
nth_at cs (i ∷ is) zero h = refl
nth_at cs (i ∷ is) (suc q) h = nth_at cs is q (omega arith)

has_all : (gs : List Group) (is : List ℕ) → HasAt gs (named (all_closed gs) is) 0 is
unfolding closed
has_all gs is j l = let z : 0 + j ≡ j = omega arith in ap (nth (named (all_closed gs) is)) z ∙ nth_at (all_closed gs) is j l

formed_at : (gs : List Group) (m : ℕ) (g : Group) (k : ℕ) → IsTable gs → StandsAt 0 gs m g → k < length g → form_by (closed gs) (id_form m (get_or g k no_type).inner) ≡ form_of (closed_at gs g k)
unfolding closed_at
formed_at gs m g k t s h =
    let N : Group = numbered_from 0 g in
    let cs : Closeds = named (all_closed gs) (ids_in_group g) in
    let x : SubForm = get_or g k no_type in
    let before : List ℕ = ids_in_group (take k g) in
    let b : StandBehind g k x = stand_behind g k no_type h in
    let a : HasAt gs cs 0 (before ++ (sub_ids x ++ b.rest)) = subst (HasAt gs cs 0) (b.split []) (has_all gs (ids_in_group g)) in
    let z : 0 + length before + length (super_ids x.supertype) ≡ length before + length (super_ids x.supertype) = omega arith in
    let c : HasAt gs cs (length before + length (super_ids x.supertype)) (composite_ids x.inner) =
    subst (λ (q : ℕ). HasAt gs cs q (composite_ids x.inner)) z
    (has_right gs cs (0 + length before) (super_ids x.supertype) (composite_ids x.inner) (has_left gs cs (0 + length before) (sub_ids x) b.rest (has_right gs cs 0 before (sub_ids x ++ b.rest) a))) in
    form_formed gs N cs m (length g) (λ j l. unfolds gs m g j t.closed s l) (length before + length (super_ids x.supertype)) x.inner ((is_closed 0 gs m g t.closed s).within k no_type h) c ∙
    ap (λ (y : SubForm). own_composite N cs y.inner) (sym (sub_at g k no_type h))

pub form_shown : (gs : List Group) (i : ℕ) → IsTable gs → i < total gs → form_by (closed gs) (form_at gs i) ≡ form_of (closed gs i)
form_shown gs i t h =
    let x : Place 0 gs i = place 0 gs i h in
    let a : i ≡ x.first + x.position = omega (arith, x.is_at) in
    let p : place_from 0 gs i ≡ (x.first, length x.group) = ap (place_from 0 gs) a ∙ place_is 0 gs x.first x.group x.position x.stands x.within in
    let y : type_at gs i ≡ get_or x.group x.position no_type = type_is 0 gs x.first x.group i x.position no_type x.stands x.within x.is_at in
    (λ j. form_by (closed gs) (id_form (p j).0 (y j).inner)) ∙
    (formed_at gs x.first x.group x.position t x.stands x.within ∙ ap form_of (sym (ap (closed gs) a ∙ unfolds gs x.first x.group x.position t.closed x.stands x.within)))
