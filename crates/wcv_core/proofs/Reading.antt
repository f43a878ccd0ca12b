-- A code is the code of one group alone.
use Rattle.std.proofs.Common.{◌≡◌, ℕ, zero, suc, ◌+◌, ◌*◌, ◌<◌, List, [], ◌∷◌, ◌++◌, length, refl, sym, ◌∙◌, ap, arith, append_assoc, Bool, true, false, Option, Some, None}
use Rattle.wcv_core.specs.declared.core_types.AbstractHeap.{AbstractHeap}
use Rattle.wcv_core.specs.declared.core_types.AbstractHeap.TheVariants as heap_name
use Rattle.wcv_core.specs.declared.core_types.HeapType.{HeapType}
use Rattle.wcv_core.specs.declared.core_types.HeapType.TheVariants as heap
use Rattle.wcv_core.specs.declared.core_types.RefType.{RefType}
use Rattle.wcv_core.specs.declared.core_types.StorageType.{StorageType}
use Rattle.wcv_core.specs.declared.core_types.StorageType.TheVariants as storage
use Rattle.wcv_core.specs.declared.core_types.SuperType.{SuperType}
use Rattle.wcv_core.specs.declared.core_types.SuperType.TheVariants as super
use Rattle.wcv_core.specs.declared.core_types.ValType.{ValType}
use Rattle.wcv_core.specs.declared.core_types.ValType.TheVariants as val
use Rattle.wcv_core.specs.CoreForm.{func_form, struct_form, array_form, Group}
use Rattle.wcv_core.specs.CoreCode.{all_codes, bit, abstract_number, heap_kind, heap_number, ref_mark, val_code, storage_kind, storage_rest, field_code, composite_code, super_kind, super_number, sub_mark, sub_code, code_of}

-- what stands at the front of two equal lists
head : (m n : ℕ) (r s : List ℕ) → m ∷ r ≡ n ∷ s → m ≡ n
head m n r s e = cc

tail : (m n : ℕ) (r s : List ℕ) → m ∷ r ≡ n ∷ s → r ≡ s
tail m n r s e = cc

bit_below : (b : Bool) → bit b < 2
bit_below false = omega arith
bit_below true = omega arith

bit_same : (a b : Bool) → bit a ≡ bit b → a ≡ b
bit_same false false e = refl
bit_same true true e = refl
bit_same false true e = Prim.absurd (omega arith)
bit_same true false e = Prim.absurd (omega arith)

-- each abstract heap from its number
named : ℕ → AbstractHeap
named zero = heap_name.Func
named (suc zero) = heap_name.NoFunc
named (suc (suc zero)) = heap_name.Extern
named (suc (suc (suc zero))) = heap_name.NoExtern
named (suc (suc (suc (suc zero)))) = heap_name.Any
named (suc (suc (suc (suc (suc zero))))) = heap_name.Eq
named (suc (suc (suc (suc (suc (suc zero)))))) = heap_name.I31
named (suc (suc (suc (suc (suc (suc (suc zero))))))) = heap_name.Struct
named (suc (suc (suc (suc (suc (suc (suc (suc zero)))))))) = heap_name.Array
named (suc (suc (suc (suc (suc (suc (suc (suc (suc zero))))))))) = heap_name.None
named (suc (suc (suc (suc (suc (suc (suc (suc (suc (suc zero)))))))))) = heap_name.Exn
named (suc (suc (suc (suc (suc (suc (suc (suc (suc (suc (suc n))))))))))) = heap_name.NoExn

named-number : (a : AbstractHeap) → named (abstract_number a) ≡ a
unfolding named
named-number heap_name.Func = refl
named-number heap_name.NoFunc = refl
named-number heap_name.Extern = refl
named-number heap_name.NoExtern = refl
named-number heap_name.Any = refl
named-number heap_name.Eq = refl
named-number heap_name.I31 = refl
named-number heap_name.Struct = refl
named-number heap_name.Array = refl
named-number heap_name.None = refl
named-number heap_name.Exn = refl
named-number heap_name.NoExn = refl

pub number_told : (a b : AbstractHeap) → abstract_number a ≡ abstract_number b → a ≡ b
number_told a b n = sym (named-number a) ∙ (ap named n ∙ named-number b)

heap_same : (a b : HeapType) → heap_kind a ≡ heap_kind b → heap_number a ≡ heap_number b → a ≡ b
heap_same (heap.Abstract a) (heap.Abstract b) k n = ap heap.Abstract (number_told a b n)
heap_same (heap.Index a) (heap.Index b) k n = ap heap.Index n
heap_same (heap.Id a) (heap.Id b) k n = λ j. heap.Id (record { index = n j })
heap_same (heap.Abstract a) (heap.Index b) k n = Prim.absurd (omega arith)
heap_same (heap.Abstract a) (heap.Id b) k n = Prim.absurd (omega arith)
heap_same (heap.Index a) (heap.Abstract b) k n = Prim.absurd (omega arith)
heap_same (heap.Index a) (heap.Id b) k n = Prim.absurd (omega arith)
heap_same (heap.Id a) (heap.Abstract b) k n = Prim.absurd (omega arith)
heap_same (heap.Id a) (heap.Index b) k n = Prim.absurd (omega arith)

-- bits and a kind from their sum
mark_parts : (a b : Bool) (c d : Bool) (k l : ℕ) → bit a + 2 * bit c + 4 * k ≡ bit b + 2 * bit d + 4 * l → (a ≡ b) × (c ≡ d) × (k ≡ l)
mark_parts a b c d k l e =
    let w : bit a < 2 = bit_below a in
    let x : bit b < 2 = bit_below b in
    let y : bit c < 2 = bit_below c in
    let z : bit d < 2 = bit_below d in
    (bit_same a b (omega arith), bit_same c d (omega arith), omega arith)

ref_same : (q r : RefType) → ref_mark q ≡ ref_mark r → heap_number q.heap ≡ heap_number r.heap → q ≡ r
ref_same q r m n =
    let p = mark_parts q.nullable r.nullable q.shared r.shared (heap_kind q.heap) (heap_kind r.heap) (omega arith) in
    let h : q.heap ≡ r.heap = heap_same q.heap r.heap p.2 n in
    (λ j. record { nullable = p.0 j; shared = p.1 j; heap = h j })

-- ## One code behind another

-- what is read first is told from the rest
abbrev pub IsRead : {A : Type 0} → (A → List ℕ) → Type 0
IsRead {A} f = (x y : A) (r s : List ℕ) → f x ++ r ≡ f y ++ s → (x ≡ y) × (r ≡ s)

-- two value types whose first numbers differ
apart : {A : Type 0} (m n : ℕ) (r s : List ℕ) → m ∷ r ≡ n ∷ s → (m ≡ n → ⊥) → A
apart m n r s e f = Prim.absurd (f (head m n r s e))

val_mark : ValType → ℕ
val_mark val.I32 = 0
val_mark val.I64 = 1
val_mark val.F32 = 2
val_mark val.F64 = 3
val_mark val.V128 = 4
val_mark (val.Ref r) = ref_mark r

val_rest : ValType → List ℕ
val_rest val.I32 = []
val_rest val.I64 = []
val_rest val.F32 = []
val_rest val.F64 = []
val_rest val.V128 = []
val_rest (val.Ref r) = heap_number r.heap ∷ []

val_split : (v : ValType) (r : List ℕ) → val_code v ++ r ≡ val_mark v ∷ (val_rest v ++ r)
unfolding val_mark val_rest
val_split val.I32 r = refl
val_split val.I64 r = refl
val_split val.F32 r = refl
val_split val.F64 r = refl
val_split val.V128 r = refl
val_split (val.Ref q) r = refl

val_same : (v w : ValType) (r s : List ℕ) → val_mark v ≡ val_mark w → val_rest v ++ r ≡ val_rest w ++ s → (v ≡ w) × (r ≡ s)
unfolding val_mark val_rest
val_same val.I32 val.I32 r s m e = (refl, e)
val_same val.I64 val.I64 r s m e = (refl, e)
val_same val.F32 val.F32 r s m e = (refl, e)
val_same val.F64 val.F64 r s m e = (refl, e)
val_same val.V128 val.V128 r s m e = (refl, e)
val_same (val.Ref q) (val.Ref p) r s m e =
    (ap val.Ref (ref_same q p m (head (heap_number q.heap) (heap_number p.heap) r s e)), tail (heap_number q.heap) (heap_number p.heap) r s e)
val_same _ _ r s m e = Prim.absurd (omega arith)

pub val_read : IsRead val_code
val_read v w r s e =
    let f : val_mark v ∷ (val_rest v ++ r) ≡ val_mark w ∷ (val_rest w ++ s) = sym (val_split v r) ∙ (e ∙ val_split w s) in
    val_same v w r s (head (val_mark v) (val_mark w) (val_rest v ++ r) (val_rest w ++ s) f) (tail (val_mark v) (val_mark w) (val_rest v ++ r) (val_rest w ++ s) f)

storage_same : (v w : StorageType) (r s : List ℕ) → storage_kind v ≡ storage_kind w → storage_rest v ++ r ≡ storage_rest w ++ s → (v ≡ w) × (r ≡ s)
storage_same storage.I8 storage.I8 r s m e = (refl, e)
storage_same storage.I16 storage.I16 r s m e = (refl, e)
storage_same (storage.Val v) (storage.Val w) r s m e =
    let p = val_read v w r s e in
    (ap storage.Val p.0, p.1)
storage_same _ _ r s m e = Prim.absurd (omega arith)

pub field_read : IsRead field_code
field_read f g r s e =
    let m : bit f.mutable + 2 * storage_kind f.storage ≡ bit g.mutable + 2 * storage_kind g.storage = head _ _ (storage_rest f.storage ++ r) (storage_rest g.storage ++ s) e in
    let t : storage_rest f.storage ++ r ≡ storage_rest g.storage ++ s = tail _ _ (storage_rest f.storage ++ r) (storage_rest g.storage ++ s) e in
    let x : bit f.mutable < 2 = bit_below f.mutable in
    let y : bit g.mutable < 2 = bit_below g.mutable in
    let b : f.mutable ≡ g.mutable = bit_same f.mutable g.mutable (omega arith) in
    let p = storage_same f.storage g.storage r s (omega arith) t in
    (λ j. record { storage = p.0 j; mutable = b j }, p.1)

-- lists of one length are read from their codes
pub all_read : {A : Type 0} (f : A → List ℕ) → IsRead f → (xs ys : List A) (r s : List ℕ) → length xs ≡ length ys
    → all_codes f xs ++ r ≡ all_codes f ys ++ s → (xs ≡ ys) × (r ≡ s)
all_read f read [] [] r s n e = (refl, e)
all_read f read (x ∷ xs) (y ∷ ys) r s n e =
    let p = read x y (all_codes f xs ++ r) (all_codes f ys ++ s) (sym (append_assoc (f x) (all_codes f xs) r) ∙ (e ∙ append_assoc (f y) (all_codes f ys) s)) in
    let q = all_read f read xs ys r s (omega arith) p.1 in
    let a : x ≡ y = p.0 in
    let b : xs ≡ ys = q.0 in
    (λ j. a j ∷ b j, q.1)
all_read f read [] (y ∷ ys) r s n e = Prim.absurd (omega arith)
all_read f read (x ∷ xs) [] r s n e = Prim.absurd (omega arith)

pub composite_read : IsRead composite_code
composite_read (func_form p q) (func_form u v) r s e =
    let e1 = tail 0 0 (length p ∷ length q ∷ ((all_codes val_code p ++ all_codes val_code q) ++ r)) (length u ∷ length v ∷ ((all_codes val_code u ++ all_codes val_code v) ++ s)) e in
    let n : length p ≡ length u = head (length p) (length u) (length q ∷ ((all_codes val_code p ++ all_codes val_code q) ++ r)) (length v ∷ ((all_codes val_code u ++ all_codes val_code v) ++ s)) e1 in
    let e2 = tail (length p) (length u) (length q ∷ ((all_codes val_code p ++ all_codes val_code q) ++ r)) (length v ∷ ((all_codes val_code u ++ all_codes val_code v) ++ s)) e1 in
    let m : length q ≡ length v = head (length q) (length v) ((all_codes val_code p ++ all_codes val_code q) ++ r) ((all_codes val_code u ++ all_codes val_code v) ++ s) e2 in
    let e3 = tail (length q) (length v) ((all_codes val_code p ++ all_codes val_code q) ++ r) ((all_codes val_code u ++ all_codes val_code v) ++ s) e2 in
    let e4 = sym (append_assoc (all_codes val_code p) (all_codes val_code q) r) ∙ (e3 ∙ append_assoc (all_codes val_code u) (all_codes val_code v) s) in
    let x = all_read val_code val_read p u (all_codes val_code q ++ r) (all_codes val_code v ++ s) n e4 in
    let y = all_read val_code val_read q v r s m x.1 in
    let a : p ≡ u = x.0 in
    let b : q ≡ v = y.0 in
    (λ j. func_form (a j) (b j), y.1)
composite_read (struct_form f) (struct_form g) r s e =
    let e1 = tail 1 1 (length f ∷ (all_codes field_code f ++ r)) (length g ∷ (all_codes field_code g ++ s)) e in
    let n : length f ≡ length g = head (length f) (length g) (all_codes field_code f ++ r) (all_codes field_code g ++ s) e1 in
    let e2 = tail (length f) (length g) (all_codes field_code f ++ r) (all_codes field_code g ++ s) e1 in
    let x = all_read field_code field_read f g r s n e2 in
    (ap struct_form x.0, x.1)
composite_read (array_form f) (array_form g) r s e =
    let x = field_read f g r s (tail 2 2 (field_code f ++ r) (field_code g ++ s) e) in
    (ap array_form x.0, x.1)
composite_read (func_form p q) (struct_form g) r s e = cc
composite_read (func_form p q) (array_form g) r s e = cc
composite_read (struct_form f) (func_form u v) r s e = cc
composite_read (struct_form f) (array_form g) r s e = cc
composite_read (array_form f) (func_form u v) r s e = cc
composite_read (array_form f) (struct_form g) r s e = cc

super_same : (a b : Option SuperType) → super_kind a ≡ super_kind b → super_number a ≡ super_number b → a ≡ b
super_same None None k n = refl
super_same (Some (super.Index i)) (Some (super.Index j)) k n = λ h. Some (super.Index (n h))
super_same (Some (super.Id i)) (Some (super.Id j)) k n = λ h. Some (super.Id (record { index = n h }))
super_same None (Some (super.Index j)) k n = Prim.absurd (omega arith)
super_same None (Some (super.Id j)) k n = Prim.absurd (omega arith)
super_same (Some (super.Index i)) None k n = Prim.absurd (omega arith)
super_same (Some (super.Id i)) None k n = Prim.absurd (omega arith)
super_same (Some (super.Index i)) (Some (super.Id j)) k n = Prim.absurd (omega arith)
super_same (Some (super.Id i)) (Some (super.Index j)) k n = Prim.absurd (omega arith)

pub sub_read : IsRead sub_code
sub_read a b r s e =
    let m : sub_mark a ≡ sub_mark b = head _ _ (super_number a.supertype ∷ (composite_code a.inner ++ r)) (super_number b.supertype ∷ (composite_code b.inner ++ s)) e in
    let e1 = tail (sub_mark a) (sub_mark b) (super_number a.supertype ∷ (composite_code a.inner ++ r)) (super_number b.supertype ∷ (composite_code b.inner ++ s)) e in
    let n : super_number a.supertype ≡ super_number b.supertype = head _ _ (composite_code a.inner ++ r) (composite_code b.inner ++ s) e1 in
    let e2 = tail (super_number a.supertype) (super_number b.supertype) (composite_code a.inner ++ r) (composite_code b.inner ++ s) e1 in
    let p = mark_parts a.is_final b.is_final a.shared b.shared (super_kind a.supertype) (super_kind b.supertype) m in
    let t : a.supertype ≡ b.supertype = super_same a.supertype b.supertype p.2 n in
    let c = composite_read a.inner b.inner r s e2 in
    (λ j. record { is_final = p.0 j; supertype = t j; shared = p.1 j; inner = c.0 j }, c.1)

-- two groups with one code are one
pub code_of-same : (g h : Group) → code_of g ≡ code_of h → g ≡ h
code_of-same [] [] e = refl
code_of-same (a ∷ g) (b ∷ h) e =
    let p = sub_read a b (code_of g) (code_of h) e in
    let x : a ≡ b = p.0 in
    let y : g ≡ h = code_of-same g h p.1 in
    (λ j. x j ∷ y j)
code_of-same [] (b ∷ h) e = cc
code_of-same (a ∷ g) [] e = cc
