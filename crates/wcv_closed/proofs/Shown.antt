-- What the closed form of an id shows of its type.
use Rattle.std.proofs.Common.{◌≡◌, ℕ, ◌+◌, ◌<◌, List, [], ◌∷◌, ◌++◌, length, take, get_or, Option, Some, None, IfSome, refl, sym, ◌∙◌, ap, arith, subst}
use Rattle.wcv_core.specs.CoreForm.{CompositeForm, func_form, struct_form, array_form, SubForm, Group, no_type}
use Rattle.wcv_core.specs.CoreGroups.{total, parent_id, parent_in, parents_from}
use Rattle.wcv_core.specs.CoreIds.{composite_ids, sub_ids, ids_in_group}
use Rattle.wcv_core.specs.CoreMatching.{form_heap, bottom_of, type_at}
use Rattle.wcv_core.specs.declared.core_types.SuperType.{SuperType}
use Rattle.wcv_core.specs.declared.core_types.SuperType.TheVariants as super
use Rattle.wcv_core.proofs.Rowing.{ordered_at}
use Rattle.wcv_closed.specs.NumberedIds.{numbered_form, numbered_super, numbered_sub, numbered_from}
use Rattle.wcv_closed.specs.ClosedType.{Closed, nth, no_closed, named, all_closed, closed, closed_at}
use Rattle.wcv_closed.specs.ClosedTable.{IsTable}
use Rattle.wcv_closed.specs.ClosedMatching.{own_form, form_word, bottom_word, is_shared, super_by, supertype}
use Rattle.wcv_closed.proofs.Numbering.{sub_at, StandBehind, stand_behind}
use Rattle.wcv_closed.proofs.Standing.{StandsAt, Place, place, type_is, parent_is, is_closed}
use Rattle.wcv_closed.proofs.Unfolding.{unfolds}

-- ## The type

own_at : (gs : List Group) (g : Group) (k : ℕ) → k < length g → own_form (closed_at gs g k) ≡ numbered_sub (length (ids_in_group (take k g))) (get_or g k no_type)
unfolding closed_at
own_at gs g k h = sub_at g k no_type h

-- the type itself, with numbers in place of ids
pub record Shown (gs : List Group) (i : ℕ) : Type 0 where
  pub number : ℕ
  pub own : own_form (closed gs i) ≡ numbered_sub number (type_at gs i)

pub shown : (gs : List Group) (i : ℕ) → IsTable gs → i < total gs → Shown gs i
shown gs i t h =
    let x : Place 0 gs i = place 0 gs i h in
    let a : i ≡ x.first + x.position = omega (arith, x.is_at) in
    record {
      number = length (ids_in_group (take x.position x.group));
      own =
          ap (λ (m : ℕ). own_form (closed gs m)) a ∙
          (ap own_form (unfolds gs x.first x.group x.position t.closed x.stands x.within) ∙
          (own_at gs x.group x.position x.within ∙
          ap (numbered_sub (length (ids_in_group (take x.position x.group)))) (sym (type_is 0 gs x.first x.group i x.position no_type x.stands x.within x.is_at))));
    }

word_numbered : (n : ℕ) (x : CompositeForm) → form_heap (numbered_form n x) ≡ form_heap x
word_numbered n (func_form ps rs) = refl
word_numbered n (struct_form fs) = refl
word_numbered n (array_form f) = refl

bottom_numbered : (n : ℕ) (x : CompositeForm) → bottom_of (numbered_form n x) ≡ bottom_of x
bottom_numbered n (func_form ps rs) = refl
bottom_numbered n (struct_form fs) = refl
bottom_numbered n (array_form f) = refl

pub word_shown : (gs : List Group) (i : ℕ) → IsTable gs → i < total gs → form_word (closed gs i) ≡ form_heap (type_at gs i).inner
word_shown gs i t h = let s : Shown gs i = shown gs i t h in ap (λ (x : SubForm). form_heap x.inner) s.own ∙ word_numbered _ (type_at gs i).inner

pub bottom_shown : (gs : List Group) (i : ℕ) → IsTable gs → i < total gs → bottom_word (closed gs i) ≡ bottom_of (type_at gs i).inner
bottom_shown gs i t h = let s : Shown gs i = shown gs i t h in ap (λ (x : SubForm). bottom_of x.inner) s.own ∙ bottom_numbered _ (type_at gs i).inner

pub shared_shown : (gs : List Group) (i : ℕ) → IsTable gs → i < total gs → is_shared (closed gs i) ≡ (type_at gs i).shared
shared_shown gs i t h = let s : Shown gs i = shown gs i t h in ap (λ (x : SubForm). x.shared) s.own

-- ## The declared supertype

-- the closed form of the type with that id, if there is one
abbrev pub closed_parent : List Group → Option ℕ → Option Closed
closed_parent gs None = None
closed_parent gs (Some p) = Some (closed gs p)

nth_named : (cs : List Closed) (is : List ℕ) (i : ℕ) (js : List ℕ) → nth (named cs (is ++ i ∷ js)) (length is) ≡ Some (get_or cs i no_closed)
nth_named cs [] i js = refl
nth_named cs (x ∷ is) i js = nth_named cs is i js

-- the first id that a type names, where it names its supertype by an id
first_named : (cs : List Closed) (g : Group) (k : ℕ) (j : ℕ) → k < length g → (get_or g k no_type).supertype ≡ Some (super.Id (record { index = j }))
    → nth (named cs (ids_in_group g)) (length (ids_in_group (take k g))) ≡ Some (get_or cs j no_closed)
first_named cs g k j h e =
    let b : StandBehind g k (get_or g k no_type) = stand_behind g k no_type h in
    let f : sub_ids (get_or g k no_type) ≡ j ∷ composite_ids (get_or g k no_type).inner = ap (λ (o : Option SuperType). sub_ids (record { is_final = (get_or g k no_type).is_final; supertype = o; shared = (get_or g k no_type).shared; inner = (get_or g k no_type).inner })) e in
    ap (λ (is : List ℕ). nth (named cs is) (length (ids_in_group (take k g)))) (b.split [] ∙ ap (λ (is : List ℕ). ids_in_group (take k g) ++ (is ++ b.rest)) f) ∙
    nth_named cs (ids_in_group (take k g)) j (composite_ids (get_or g k no_type).inner ++ b.rest)

super_at : (gs : List Group) (m : ℕ) (g : Group) (k : ℕ) → IsTable gs → StandsAt 0 gs m g → k < length g → supertype (closed_at gs g k) ≡ closed_parent gs (parent_in m (get_or g k no_type))
unfolding closed closed_at
super_at gs m g k t s h =
    let e : get_or (numbered_from 0 g) k no_type ≡ numbered_sub (length (ids_in_group (take k g))) (get_or g k no_type) = sub_at g k no_type h in
    ap (λ (x : SubForm). super_by (numbered_from 0 g) (named (all_closed gs) (ids_in_group g)) x.supertype) e ∙ go (get_or g k no_type).supertype refl
  where
    before : IfSome (parent_in m (get_or g k no_type)) (λ p. p < m + k)
    before = ordered_at m m g k no_type (is_closed 0 gs m g t.closed s).ordered h

    go : (o : Option SuperType) → (get_or g k no_type).supertype ≡ o
        → super_by (numbered_from 0 g) (named (all_closed gs) (ids_in_group g)) (numbered_super (length (ids_in_group (take k g))) o) ≡ closed_parent gs (parent_id m o)
    go None e = refl
    go (Some (super.Index j)) e =
        let l : m + j < m + k = subst (λ (o : Option SuperType). IfSome (parent_id m o) (λ p. p < m + k)) e before in
        ap Some (sym (unfolds gs m g j t.closed s (omega arith)))
    go (Some (super.Id j)) e = first_named (all_closed gs) g k j.index h e

pub super_shown : (gs : List Group) (i : ℕ) → IsTable gs → i < total gs → supertype (closed gs i) ≡ closed_parent gs (get_or (parents_from 0 gs) i None)
super_shown gs i t h =
    let x : Place 0 gs i = place 0 gs i h in
    let a : i ≡ x.first + x.position = omega (arith, x.is_at) in
    ap (λ (m : ℕ). supertype (closed gs m)) a ∙
    (ap supertype (unfolds gs x.first x.group x.position t.closed x.stands x.within) ∙
    (super_at gs x.first x.group x.position t x.stands x.within ∙
    ap (closed_parent gs) (sym (parent_is 0 gs x.first x.group i x.position no_type x.stands x.within x.is_at))))
