-- The test on trees as they are seen answers whether they are the same.
use Rattle.std.proofs.Common.{◌≡◌, ℕ, List, Bool, true, false, ◌&&◌, cond, Option, Some, None, Decides, refl, sym, ◌∙◌, ap, subst, arith, eq-eqb}
use Rattle.std.specs.Prelude.{eqb, bytes_eq}
use Rattle.std.specs.Bool.{beq}
use Rattle.std.specs.Cmp.Lexicographic.{pointwise}
use Rattle.std.specs.Option.{option_eq}
use Rattle.std.proofs.lemmas.Bool.{eqb-true}
use Rattle.std.proofs.lemmas.Slice.Eq.{bytes_eq-Decides, slice_eq-Decides}
use Rattle.wcv_core.specs.Names.{same}
use Rattle.wcv_core.specs.declared.primitive.PrimitiveValType.{PrimitiveValType}
use Rattle.wcv_core.specs.declared.primitive.PrimitiveValType.TheVariants as prim
use Rattle.wcv_core.proofs.Names.{and_left, and_right, same-true, same-refl}
use Rattle.wcv_types.specs.Alike.{Alike, form_number, form_primitive, form_length, form_names}
use Rattle.wcv_types.specs.Seen.{Within, outer, inner, seen}
use Rattle.wcv_types.specs.Tree.{Text, Former, Extern_name, Head, nothing, primitive, resource, defined, func, instance, component, type_entity, core_module, core_instance, core_type, core_item, Role, here, label, import, export, core_import, core_export, Tree, node, Parts, none, part}
use Rattle.wcv_types.specs.Unfold.{Type_tree}
use Rattle.wcv_types.proofs.SameTypes as types
use Rattle.wcv_types.proofs.SameItems.{item-true, item-refl}
use Rattle.wcv_types.specs.SameSeen.{primitive_number, same_primitive, same_within, same_former, same_listed, same_head, same_name, same_role, same_tree, same_parts, alike}

both_true : (a b : Bool) → a ≡ true → b ≡ true → (a && b) ≡ true
both_true a b h k = grind arith

-- a test that is true of each value with itself, and of no two, decides equality
from_both : {X : Type 0} (test : X → X → Bool) → ((x y : X) → test x y ≡ true → x ≡ y) → ((x : X) → test x x ≡ true) → (x y : X) → Decides (test x y) (x ≡ y)
from_both {X} test sound reflexive x y = (sound x y, λ e. subst (λ (z : X). test x z ≡ true) e (reflexive x))

-- ## Options and lists

module _ {X : Type 0} (test : X → X → Bool) (d : (x y : X) → Decides (test x y) (x ≡ y)) where
  option-true : (o p : Option X) → option_eq test o p ≡ true → o ≡ p
  option-true None None h = refl
  option-true (Some x) (Some y) h = ap Some ((d x y).0 h)
  option-true _ _ h = cc

  option-refl : (o : Option X) → option_eq test o o ≡ true
  option-refl None = refl
  option-refl (Some x) = (d x x).1 refl

  list-true : (xs ys : List X) → pointwise test xs ys ≡ true → xs ≡ ys
  list-true xs ys h = (slice_eq-Decides d xs ys (pointwise test xs ys) refl).0 h

  list-refl : (xs : List X) → pointwise test xs xs ≡ true
  list-refl xs = (slice_eq-Decides d xs xs (pointwise test xs xs) refl).1 refl

text-refl : (t : Text) → bytes_eq t t ≡ true
text-refl t = (bytes_eq-Decides t t).1 refl

-- ## Heads

primitive_at : ℕ → PrimitiveValType
primitive_at n =
    cond (eqb n 0) prim.Bool
    (cond (eqb n 1) prim.S8
    (cond (eqb n 2) prim.U8
    (cond (eqb n 3) prim.S16
    (cond (eqb n 4) prim.U16
    (cond (eqb n 5) prim.S32
    (cond (eqb n 6) prim.U32
    (cond (eqb n 7) prim.S64
    (cond (eqb n 8) prim.U64
    (cond (eqb n 9) prim.F32
    (cond (eqb n 10) prim.F64
    (cond (eqb n 11) prim.Char
    (cond (eqb n 12) prim.String prim.ErrorContext))))))))))))

primitive_back : (p : PrimitiveValType) → primitive_at (primitive_number p) ≡ p
unfolding primitive_at
primitive_back prim.Bool = refl
primitive_back prim.S8 = refl
primitive_back prim.U8 = refl
primitive_back prim.S16 = refl
primitive_back prim.U16 = refl
primitive_back prim.S32 = refl
primitive_back prim.U32 = refl
primitive_back prim.S64 = refl
primitive_back prim.U64 = refl
primitive_back prim.F32 = refl
primitive_back prim.F64 = refl
primitive_back prim.Char = refl
primitive_back prim.String = refl
primitive_back prim.ErrorContext = refl

primitive-true : (p q : PrimitiveValType) → same_primitive p q ≡ true → p ≡ q
primitive-true p q h = sym (primitive_back p) ∙ ap primitive_at (eqb-true (primitive_number p) (primitive_number q) h) ∙ primitive_back q

primitive-refl : (p : PrimitiveValType) → same_primitive p p ≡ true
primitive-refl p = eq-eqb (primitive_number p) (primitive_number p) refl

primitive-decides : (p q : PrimitiveValType) → Decides (same_primitive p q) (p ≡ q)
primitive-decides = from_both same_primitive primitive-true primitive-refl

former-true : (j k : Former) → same_former j k ≡ true → j ≡ k
former-true j k h =
    let r = and_right _ _ h in
    let s = and_right _ _ r in
    types.same_former j k
    (eqb-true (form_number j) (form_number k) (and_left _ _ h))
    (option-true same_primitive primitive-decides (form_primitive j) (form_primitive k) (and_left _ _ r))
    (eqb-true (form_length j) (form_length k) (and_left _ _ s))
    (list-true bytes_eq bytes_eq-Decides (form_names j) (form_names k) (and_right _ _ s))

former-refl : (k : Former) → same_former k k ≡ true
former-refl k =
    both_true _ _ (eq-eqb (form_number k) (form_number k) refl)
    (both_true _ _ (option-refl same_primitive primitive-decides (form_primitive k))
    (both_true _ _ (eq-eqb (form_length k) (form_length k) refl) (list-refl bytes_eq bytes_eq-Decides (form_names k))))

bool-true : (a b : Bool) → beq a b ≡ true → a ≡ b
bool-true true true h = refl
bool-true false false h = refl
bool-true _ _ h = cc

bool-refl : (a : Bool) → beq a a ≡ true
bool-refl true = refl
bool-refl false = refl

-- ## Roles

name-true : (m n : Extern_name) → same_name m n ≡ true → m ≡ n
name-true m n h =
    let r = and_right _ _ h in
    let s = and_right _ _ r in
    let a : m.name ≡ n.name = (bytes_eq-Decides m.name n.name).0 (and_left _ _ h) in
    let b : m.implements ≡ n.implements = option-true bytes_eq bytes_eq-Decides m.implements n.implements (and_left _ _ r) in
    let c : m.version_suffix ≡ n.version_suffix = option-true bytes_eq bytes_eq-Decides m.version_suffix n.version_suffix (and_left _ _ s) in
    let d : m.external_id ≡ n.external_id = option-true bytes_eq bytes_eq-Decides m.external_id n.external_id (and_right _ _ s) in
    (λ j. record { name = a j; implements = b j; version_suffix = c j; external_id = d j })

name-refl : (n : Extern_name) → same_name n n ≡ true
name-refl n =
    both_true _ _ (text-refl n.name)
    (both_true _ _ (option-refl bytes_eq bytes_eq-Decides n.implements)
    (both_true _ _ (option-refl bytes_eq bytes_eq-Decides n.version_suffix) (option-refl bytes_eq bytes_eq-Decides n.external_id)))

role-true : (r q : Role) → same_role r q ≡ true → r ≡ q
role-true here here h = refl
role-true (label l) (label m) h = ap label ((bytes_eq-Decides l m).0 h)
role-true (import m) (import n) h = ap import (name-true m n h)
role-true (export m) (export n) h = ap export (name-true m n h)
role-true (core_import l m) (core_import k n) h =
    let a : l ≡ k = (bytes_eq-Decides l k).0 (and_left _ _ h) in
    let b : m ≡ n = (bytes_eq-Decides m n).0 (and_right _ _ h) in
    (λ j. core_import (a j) (b j))
role-true (core_export m) (core_export n) h = ap core_export ((bytes_eq-Decides m n).0 h)
role-true _ _ h = cc

role-refl : (r : Role) → same_role r r ≡ true
role-refl here = refl
role-refl (label l) = text-refl l
role-refl (import n) = name-refl n
role-refl (export n) = name-refl n
role-refl (core_import m n) = both_true _ _ (text-refl m) (text-refl n)
role-refl (core_export n) = text-refl n

-- ## Resources, as they are seen

module _ {A : Type 0} (eq : A → A → Bool) (told : (a b : A) → Decides (eq a b) (a ≡ b)) where
  within-true : (a b : Within A) → same_within eq a b ≡ true → a ≡ b
  within-true (outer a) (outer b) h = ap outer ((told a b).0 h)
  within-true (inner a) (inner b) h = ap inner (same-true a b h)
  within-true _ _ h = cc

  within-refl : (a : Within A) → same_within eq a a ≡ true
  within-refl (outer a) = (told a a).1 refl
  within-refl (inner a) = same-refl a

  pub within-decides : (a b : Within A) → Decides (same_within eq a b) (a ≡ b)
  within-decides = from_both (same_within eq) within-true within-refl

-- ## Trees

module _ {R : Type 0} (eq : R → R → Bool) (told : (a b : R) → Decides (eq a b) (a ≡ b)) where
  listed-true : (p q : R × List ℕ) → same_listed eq p q ≡ true → p ≡ q
  listed-true (a, k) (b, l) h =
      let e : a ≡ b = (told a b).0 (and_left _ _ h) in
      let f : k ≡ l = (bytes_eq-Decides k l).0 (and_right _ _ h) in
      (λ j. (e j, f j))

  listed-refl : (p : R × List ℕ) → same_listed eq p p ≡ true
  listed-refl p = both_true _ _ ((told p.0 p.0).1 refl) (text-refl p.1)

  listed-decides : (p q : R × List ℕ) → Decides (same_listed eq p q) (p ≡ q)
  listed-decides = from_both (same_listed eq) listed-true listed-refl

  head-true : (h g : Head R (Unit {0})) → same_head eq h g ≡ true → h ≡ g
  head-true nothing nothing h = refl
  head-true (primitive p) (primitive q) h = ap primitive (primitive-true p q h)
  head-true (resource a s) (resource b t) h = let e : a ≡ b = (told a b).0 h in (λ j. resource (e j) tt)
  head-true (defined i j) (defined l k) h = ap (defined tt) (former-true j k h)
  head-true (func i a) (func l b) h = ap (func tt) (bool-true a b h)
  head-true (instance i own) (instance l others) h = ap (instance tt) (list-true eq told own others h)
  head-true (component i ins outs) (component l sins souts) h =
      let e : ins ≡ sins = list-true (same_listed eq) listed-decides ins sins (and_left _ _ h) in
      let f : outs ≡ souts = list-true (same_listed eq) listed-decides outs souts (and_right _ _ h) in
      (λ j. component tt (e j) (f j))
  head-true type_entity type_entity h = refl
  head-true (core_module i m) (core_module l n) h = ap (core_module tt) (eqb-true m n h)
  head-true (core_instance i m) (core_instance l n) h = ap (core_instance tt) (eqb-true m n h)
  head-true (core_type m) (core_type n) h = ap core_type (eqb-true m n h)
  head-true (core_item e) (core_item d) h = ap core_item (item-true e d h)
  head-true _ _ h = cc

  head-refl : (h : Head R (Unit {0})) → same_head eq h h ≡ true
  head-refl nothing = refl
  head-refl (primitive p) = primitive-refl p
  head-refl (resource a s) = (told a a).1 refl
  head-refl (defined i k) = former-refl k
  head-refl (func i b) = bool-refl b
  head-refl (instance i own) = list-refl eq told own
  head-refl (component i ins outs) = both_true _ _ (list-refl (same_listed eq) listed-decides ins) (list-refl (same_listed eq) listed-decides outs)
  head-refl type_entity = refl
  head-refl (core_module i n) = eq-eqb n n refl
  head-refl (core_instance i n) = eq-eqb n n refl
  head-refl (core_type n) = eq-eqb n n refl
  head-refl (core_item e) = item-refl e

  mutual
    tree-true : (s t : Tree R (Unit {0})) → same_tree eq s t ≡ true → s ≡ t
    tree-true (node h ps) (node g qs) k =
        let e : h ≡ g = head-true h g (and_left _ _ k) in
        let f : ps ≡ qs = parts-true ps qs (and_right _ _ k) in
        (λ j. node (e j) (f j))

    parts-true : (ps qs : Parts R (Unit {0})) → same_parts eq ps qs ≡ true → ps ≡ qs
    parts-true none none k = refl
    parts-true (part r t ps) (part q s qs) k =
        let m = and_right _ _ k in
        let e : r ≡ q = role-true r q (and_left _ _ k) in
        let f : t ≡ s = tree-true t s (and_left _ _ m) in
        let g : ps ≡ qs = parts-true ps qs (and_right _ _ m) in
        (λ j. part (e j) (f j) (g j))
    parts-true none (part q s qs) k = cc
    parts-true (part r t ps) none k = cc

  mutual
    tree-refl : (t : Tree R (Unit {0})) → same_tree eq t t ≡ true
    tree-refl (node h ps) = both_true _ _ (head-refl h) (parts-refl ps)

    parts-refl : (ps : Parts R (Unit {0})) → same_parts eq ps ps ≡ true
    parts-refl none = refl
    parts-refl (part r t ps) = both_true _ _ (role-refl r) (both_true _ _ (tree-refl t) (parts-refl ps))

  pub tree-decides : (s t : Tree R (Unit {0})) → Decides (same_tree eq s t) (s ≡ t)
  tree-decides = from_both (same_tree eq) tree-true tree-refl

pub alike-decides : (s t : Type_tree) → Decides (alike s t) (Alike s t)
alike-decides s t = tree-decides (same_within same) (within-decides same (from_both same same-true same-refl)) (seen outer s) (seen outer t)
