-- A group is told by its numbered form and by the ids that it names.
use Rattle.std.proofs.Common.{◌≡◌, ℕ, zero, suc, ◌+◌, ◌<◌, List, [], ◌∷◌, ◌++◌, length, take, get_or, Option, Some, None, refl, sym, ◌∙◌, ap, arith, append_assoc, length-append}
use Rattle.wcv_core.specs.CoreForm.{func_form, struct_form, array_form, SubForm, Group}
use Rattle.wcv_core.specs.CoreIds.{heap_ids, val_ids, storage_ids, field_ids, all_ids, composite_ids, super_ids, sub_ids, ids_in_group}
use Rattle.wcv_core.specs.declared.core_types.FieldType.{FieldType}
use Rattle.wcv_core.specs.declared.core_types.HeapType.TheVariants as heap
use Rattle.wcv_core.specs.declared.core_types.RefType.{RefType}
use Rattle.wcv_core.specs.declared.core_types.StorageType.TheVariants as storage
use Rattle.wcv_core.specs.declared.core_types.SuperType.{SuperType}
use Rattle.wcv_core.specs.declared.core_types.SuperType.TheVariants as super
use Rattle.wcv_core.specs.declared.core_types.ValType.{ValType}
use Rattle.wcv_core.specs.declared.core_types.ValType.TheVariants as val
use Rattle.wcv_closed.specs.NumberedIds.{numbered_heap, numbered_val, numbered_storage, numbered_field, numbered_each, numbered_form, numbered_super, numbered_sub, numbered_from}

-- what is numbered is told by that and its ids, whatever ids come behind
abbrev pub IsTold : {A : Type 0} → (A → List ℕ) → (ℕ → A → A) → Type 0
IsTold {A} ids numbered = (n : ℕ) (x y : A) (r s : List ℕ) → numbered n x ≡ numbered n y → ids x ++ r ≡ ids y ++ s → (x ≡ y) × (r ≡ s)

head : (m n : ℕ) (r s : List ℕ) → m ∷ r ≡ n ∷ s → m ≡ n
head m n r s e = cc

tail : (m n : ℕ) (r s : List ℕ) → m ∷ r ≡ n ∷ s → r ≡ s
tail m n r s e = cc

heap_told : IsTold heap_ids numbered_heap
heap_told n (heap.Abstract a) (heap.Abstract b) r s e f = (e, f)
heap_told n (heap.Index a) (heap.Index b) r s e f = (e, f)
heap_told n (heap.Id a) (heap.Id b) r s e f =
    let q : a.index ≡ b.index = head a.index b.index r s f in
    (λ j. heap.Id (record { index = q j }), tail a.index b.index r s f)
heap_told n (heap.Abstract a) (heap.Index b) r s e f = cc
heap_told n (heap.Abstract a) (heap.Id b) r s e f = cc
heap_told n (heap.Index a) (heap.Abstract b) r s e f = cc
heap_told n (heap.Index a) (heap.Id b) r s e f = cc
heap_told n (heap.Id a) (heap.Abstract b) r s e f = cc
heap_told n (heap.Id a) (heap.Index b) r s e f = cc

abbrev numbered_ref : ℕ → RefType → RefType
numbered_ref n r = record { nullable = r.nullable; shared = r.shared; heap = numbered_heap n r.heap }

same_refs : (q p : RefType) → val.Ref q ≡ val.Ref p → q ≡ p
same_refs q p e = cc

val_told : IsTold val_ids numbered_val
val_told n val.I32 val.I32 r s e f = (e, f)
val_told n val.I64 val.I64 r s e f = (e, f)
val_told n val.F32 val.F32 r s e f = (e, f)
val_told n val.F64 val.F64 r s e f = (e, f)
val_told n val.V128 val.V128 r s e f = (e, f)
val_told n (val.Ref q) (val.Ref p) r s e f =
    let w : numbered_ref n q ≡ numbered_ref n p = same_refs (numbered_ref n q) (numbered_ref n p) e in
    let h = heap_told n q.heap p.heap r s (ap (λ (x : RefType). x.heap) w) f in
    let k : q.heap ≡ p.heap = h.0 in
    (λ j. val.Ref (record { nullable = (w j).nullable; shared = (w j).shared; heap = k j }), h.1)
val_told n _ _ r s e f = cc

same_vals : (v w : ValType) → storage.Val v ≡ storage.Val w → v ≡ w
same_vals v w e = cc

storage_told : IsTold storage_ids numbered_storage
storage_told n storage.I8 storage.I8 r s e f = (e, f)
storage_told n storage.I16 storage.I16 r s e f = (e, f)
storage_told n (storage.Val v) (storage.Val w) r s e f =
    let p = val_told n v w r s (same_vals (numbered_val n v) (numbered_val n w) e) f in
    (ap storage.Val p.0, p.1)
storage_told n _ _ r s e f = cc

field_told : IsTold field_ids numbered_field
field_told n x y r s e f =
    let p = storage_told n x.storage y.storage r s (ap (λ (t : FieldType). t.storage) e) f in
    let k : x.storage ≡ y.storage = p.0 in
    (λ j. record { storage = k j; mutable = (e j).mutable }, p.1)

same_heads : {A : Type 0} (x y : A) (xs ys : List A) → x ∷ xs ≡ y ∷ ys → x ≡ y
same_heads x y xs ys e = cc

same_tails : {A : Type 0} (x y : A) (xs ys : List A) → x ∷ xs ≡ y ∷ ys → xs ≡ ys
same_tails x y xs ys e = cc

each_told : {A : Type 0} (ids : A → List ℕ) (numbered : ℕ → A → A) → IsTold ids numbered → IsTold (all_ids ids) (numbered_each ids numbered)
each_told ids numbered told n [] [] r s e f = (refl, f)
each_told ids numbered told n [] (y ∷ ys) r s e f = cc
each_told ids numbered told n (x ∷ xs) [] r s e f = cc
each_told {A} ids numbered told n (x ∷ xs) (y ∷ ys) r s e f =
    let p = told n x y (all_ids ids xs ++ r) (all_ids ids ys ++ s)
    (same_heads (numbered n x) (numbered n y) (numbered_each ids numbered (n + length (ids x)) xs) (numbered_each ids numbered (n + length (ids y)) ys) e)
    (sym (append_assoc (ids x) (all_ids ids xs) r) ∙ (f ∙ append_assoc (ids y) (all_ids ids ys) s)) in
    let k : x ≡ y = p.0 in
    let t : numbered_each ids numbered (n + length (ids x)) xs ≡ numbered_each ids numbered (n + length (ids y)) ys =
    same_tails (numbered n x) (numbered n y) (numbered_each ids numbered (n + length (ids x)) xs) (numbered_each ids numbered (n + length (ids y)) ys) e in
    let q = each_told ids numbered told (n + length (ids x)) xs ys r s (t ∙ ap (λ (z : A). numbered_each ids numbered (n + length (ids z)) ys) (sym k)) p.1 in
    let m : xs ≡ ys = q.0 in
    (λ j. k j ∷ m j, q.1)

same_params : (p u q v : List ValType) → func_form p q ≡ func_form u v → p ≡ u
same_params p u q v e = cc

same_results : (p u q v : List ValType) → func_form p q ≡ func_form u v → q ≡ v
same_results p u q v e = cc

same_structs : (f g : List FieldType) → struct_form f ≡ struct_form g → f ≡ g
same_structs f g e = cc

same_arrays : (f g : FieldType) → array_form f ≡ array_form g → f ≡ g
same_arrays f g e = cc

form_told : IsTold composite_ids numbered_form
form_told n (func_form p q) (func_form u v) r s e f =
    let a : List ValType = numbered_each val_ids numbered_val n p in
    let b : List ValType = numbered_each val_ids numbered_val n u in
    let c : List ValType = numbered_each val_ids numbered_val (n + length (all_ids val_ids p)) q in
    let d : List ValType = numbered_each val_ids numbered_val (n + length (all_ids val_ids u)) v in
    let x = each_told val_ids numbered_val val_told n p u (all_ids val_ids q ++ r) (all_ids val_ids v ++ s) (same_params a b c d e)
    (sym (append_assoc (all_ids val_ids p) (all_ids val_ids q) r) ∙ (f ∙ append_assoc (all_ids val_ids u) (all_ids val_ids v) s)) in
    let k : p ≡ u = x.0 in
    let y = each_told val_ids numbered_val val_told (n + length (all_ids val_ids p)) q v r s
    (same_results a b c d e ∙ ap (λ (z : List ValType). numbered_each val_ids numbered_val (n + length (all_ids val_ids z)) v) (sym k)) x.1 in
    let m : q ≡ v = y.0 in
    (λ j. func_form (k j) (m j), y.1)
form_told n (struct_form x) (struct_form y) r s e f =
    let p = each_told field_ids numbered_field field_told n x y r s (same_structs (numbered_each field_ids numbered_field n x) (numbered_each field_ids numbered_field n y) e) f in
    (ap struct_form p.0, p.1)
form_told n (array_form x) (array_form y) r s e f =
    let p = field_told n x y r s (same_arrays (numbered_field n x) (numbered_field n y) e) f in
    (ap array_form p.0, p.1)
form_told n (func_form p q) (struct_form y) r s e f = cc
form_told n (func_form p q) (array_form y) r s e f = cc
form_told n (struct_form x) (func_form u v) r s e f = cc
form_told n (struct_form x) (array_form y) r s e f = cc
form_told n (array_form x) (func_form u v) r s e f = cc
form_told n (array_form x) (struct_form y) r s e f = cc

super_told : IsTold super_ids numbered_super
super_told n None None r s e f = (e, f)
super_told n (Some (super.Index a)) (Some (super.Index b)) r s e f = (e, f)
super_told n (Some (super.Id a)) (Some (super.Id b)) r s e f =
    let q : a.index ≡ b.index = head a.index b.index r s f in
    (λ j. Some (super.Id (record { index = q j })), tail a.index b.index r s f)
super_told n None (Some (super.Index b)) r s e f = cc
super_told n None (Some (super.Id b)) r s e f = cc
super_told n (Some (super.Index a)) None r s e f = cc
super_told n (Some (super.Id a)) None r s e f = cc
super_told n (Some (super.Index a)) (Some (super.Id b)) r s e f = cc
super_told n (Some (super.Id a)) (Some (super.Index b)) r s e f = cc

sub_told : IsTold sub_ids numbered_sub
sub_told n x y r s e f =
    let p = super_told n x.supertype y.supertype (composite_ids x.inner ++ r) (composite_ids y.inner ++ s) (ap (λ (t : SubForm). t.supertype) e)
    (sym (append_assoc (super_ids x.supertype) (composite_ids x.inner) r) ∙ (f ∙ append_assoc (super_ids y.supertype) (composite_ids y.inner) s)) in
    let k : x.supertype ≡ y.supertype = p.0 in
    let w : numbered_form (n + length (super_ids x.supertype)) x.inner ≡ numbered_form (n + length (super_ids y.supertype)) y.inner = ap (λ (t : SubForm). t.inner) e in
    let q = form_told (n + length (super_ids x.supertype)) x.inner y.inner r s
    (w ∙ ap (λ (z : Option SuperType). numbered_form (n + length (super_ids z)) y.inner) (sym k)) p.1 in
    let m : x.inner ≡ y.inner = q.0 in
    (λ j. record { is_final = (e j).is_final; supertype = k j; shared = (e j).shared; inner = m j }, q.1)

append_none : (xs : List ℕ) → xs ++ [] ≡ xs
append_none [] = refl
append_none (x ∷ xs) = λ j. x ∷ append_none xs j

pub group_told : (g h : Group) → numbered_from 0 g ≡ numbered_from 0 h → ids_in_group g ≡ ids_in_group h → g ≡ h
group_told g h e f =
    let p = each_told sub_ids numbered_sub sub_told 0 g h [] [] e (append_none (ids_in_group g) ∙ (f ∙ sym (append_none (ids_in_group h)))) in
    p.0

-- ## One type of a numbered group

-- the element at a position
each_at : {A : Type 0} (ids : A → List ℕ) (numbered : ℕ → A → A) (n : ℕ) (xs : List A) (k : ℕ) (d : A) → k < length xs
    → get_or (numbered_each ids numbered n xs) k d ≡ numbered (n + length (all_ids ids (take k xs))) (get_or xs k d)
each_at ids numbered n [] k d h = Prim.absurd (omega arith)
each_at ids numbered n (x ∷ xs) zero d h = let z : n ≡ n + 0 = omega arith in ap (λ (m : ℕ). numbered m x) z
each_at {A} ids numbered n (x ∷ xs) (suc k) d h =
    let l : length (ids x ++ all_ids ids (take k xs)) ≡ length (ids x) + length (all_ids ids (take k xs)) = length-append (ids x) (all_ids ids (take k xs)) in
    let z : n + length (ids x) + length (all_ids ids (take k xs)) ≡ n + length (ids x ++ all_ids ids (take k xs)) = omega arith in
    each_at ids numbered (n + length (ids x)) xs k d (omega arith) ∙ ap (λ (m : ℕ). numbered m (get_or xs k d)) z

pub length-numbered : {A : Type 0} (ids : A → List ℕ) (numbered : ℕ → A → A) (n : ℕ) (xs : List A) → length (numbered_each ids numbered n xs) ≡ length xs
length-numbered ids numbered n [] = refl
length-numbered ids numbered n (x ∷ xs) = ap suc (length-numbered ids numbered (n + length (ids x)) xs)

pub sub_at : (g : Group) (k : ℕ) (d : SubForm) → k < length g → get_or (numbered_from 0 g) k d ≡ numbered_sub (length (ids_in_group (take k g))) (get_or g k d)
sub_at g k d h = let z : 0 + length (ids_in_group (take k g)) ≡ length (ids_in_group (take k g)) = omega arith in each_at sub_ids numbered_sub 0 g k d h ∙ ap (λ (m : ℕ). numbered_sub m (get_or g k d)) z

-- the ids of a type stand behind those of the types before it
pub record StandBehind (g : Group) (k : ℕ) (s : SubForm) : Type 0 where
  pub rest : List ℕ
  pub split : (cs : List ℕ) → cs ++ ids_in_group g ≡ (cs ++ ids_in_group (take k g)) ++ (sub_ids s ++ rest)

pub stand_behind : (g : Group) (k : ℕ) (d : SubForm) → k < length g → StandBehind g k (get_or g k d)
stand_behind [] k d h = Prim.absurd (omega arith)
stand_behind (x ∷ g) zero d h = record { rest = ids_in_group g; split = λ cs. ap (λ (ds : List ℕ). ds ++ (sub_ids x ++ ids_in_group g)) (sym (append_none cs)) }
stand_behind (x ∷ g) (suc k) d h =
    let b : StandBehind g k (get_or g k d) = stand_behind g k d (omega arith) in
    record {
      rest = b.rest;
      split = λ cs. sym (append_assoc cs (sub_ids x) (ids_in_group g)) ∙ (b.split (cs ++ sub_ids x) ∙ ap (λ (ds : List ℕ). ds ++ (sub_ids (get_or g k d) ++ b.rest)) (append_assoc cs (sub_ids x) (ids_in_group (take k g))));
    }
