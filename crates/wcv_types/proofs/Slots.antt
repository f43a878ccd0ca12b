-- The parts of value types under labels.
use Rattle.std.proofs.Common.{◌≡◌, ℕ, zero, suc, subst, length-append, append_assoc, append-nil, List, [], ◌∷◌, ◌++◌, length, refl, ap, arith, sym, ◌∙◌, drop, drop-cons, get_or, add-one, ◌<◌, ◌≤◌, ◌+◌}
use Rattle.std.specs.Prelude.{count_by, cond, slice_get, Option, Some, None, option_to_list}
use Rattle.std.specs.List.{fold}
use Rattle.std.proofs.Math.ListN.{drop_of_length-le}
use Rattle.wcv_types.specs.Tree.{Text, label, here}
use Rattle.wcv_types.specs.Arena.{Arena}
use Rattle.wcv_types.specs.Unfold.{Slots, parts_in, parts_at, slots_if, slot_refs, field_slots, names_node, value_slot, option_slot}
use Rattle.wcv_types.specs.declared.shapes.ComponentValType.{ComponentValType}
use Rattle.wcv_types.specs.declared.shapes.ComponentValType.TheVariants as v
use Rattle.wcv_types.specs.declared.shapes.ComponentFuncType.{ComponentFuncType}
use Rattle.wcv_types.specs.declared.arena.Node.TheVariants as n
use Rattle.wcv_types.specs.declared.ids.ComponentFuncTypeId.{ComponentFuncTypeId}
use Rattle.wcv_types.specs.declared.ids.Part.{Part}
use Rattle.wcv_types.specs.declared.ids.Part.TheVariants as p

abbrev pub Field : Type 0
Field = Text × ComponentValType

-- counting from a on
counted : (a : ℕ) (fs : List Field) → fold (λ m f. m + cond (names_node f.1) 1 0) a fs ≡ a + length (parts_in (field_slots fs []))
counted a [] = omega arith
counted a (f ∷ fs) = first f.0 f.1 (λ b. counted b fs)
  where
    first : (l : Text) (t : ComponentValType) → ((b : ℕ) → fold (λ m f. m + cond (names_node f.1) 1 0) b fs ≡ b + length (parts_in (field_slots fs []))) →
        fold (λ m f. m + cond (names_node f.1) 1 0) (a + cond (names_node t) 1 0) fs ≡ a + length (parts_in (field_slots ((l, t) ∷ fs) []))
    first l (v.Primitive q) k = omega (arith, k (a + 0))
    first l (v.Ty i) k = omega (arith, k (a + 1))

pub length_field_parts : (fs : List Field) → length (parts_in (field_slots fs [])) ≡ count_by (λ f. names_node f.1) fs
length_field_parts fs = omega (arith, counted 0 fs)

pub at_most_fields : (fs : List Field) → length (parts_in (field_slots fs [])) ≤ length fs
at_most_fields [] = omega arith
at_most_fields (f ∷ fs) = first f.0 f.1 (at_most_fields fs)
  where
    first : (l : Text) (t : ComponentValType) → length (parts_in (field_slots fs [])) ≤ length fs → length (parts_in (field_slots ((l, t) ∷ fs) [])) ≤ suc (length fs)
    first l (v.Primitive q) h = omega (arith, h)
    first l (v.Ty i) h = omega (arith, h)

-- one field on
pub next_field : (fs : List Field) (i : ℕ) (f : Field) → i < length fs → f ≡ get_or fs i f →
    field_slots (drop i fs) [] ≡ (label f.0, value_slot f.1) ∷ field_slots (drop (i + 1) fs) []
next_field fs i f h e = ap (λ gs. field_slots gs []) (drop-cons fs i f h ∙ ap (λ (g : Field). g ∷ drop (suc i) fs) (sym e)) ∙ rw add-one refl

pub no_field : (fs : List Field) (i : ℕ) → length fs ≤ i → field_slots (drop i fs) [] ≡ []
no_field fs i h = ap (λ gs. field_slots gs []) (drop_of_length-le fs h)

-- the parts of fields stand before those of the rest
pub field_parts : (fs : List Field) (rest : Slots) → parts_in (field_slots fs rest) ≡ parts_in (field_slots fs []) ++ parts_in rest
field_parts [] rest = refl
field_parts (f ∷ fs) rest = first f.0 f.1 (field_parts fs rest)
  where
    first : (l : Text) (t : ComponentValType) → parts_in (field_slots fs rest) ≡ parts_in (field_slots fs []) ++ parts_in rest →
        parts_in (field_slots ((l, t) ∷ fs) rest) ≡ parts_in (field_slots ((l, t) ∷ fs) []) ++ parts_in rest
    first l (v.Primitive q) h = h
    first l (v.Ty i) h = ap (λ qs. p.Defined i ∷ qs) h

-- the parts of a function type: those of its parameters, and then its result
pub func_parts : (a : Arena) (i : ComponentFuncTypeId) (s : ComponentFuncType) (o : Option Part) → slice_get a.nodes i.index ≡ Some (n.Func s) → option_to_list o ≡ slot_refs (option_slot s.result) →
    parts_at a (p.Func i) ≡ parts_in (field_slots s.params.items []) ++ option_to_list o
func_parts a i s o h e =
    ap (λ x. parts_in (slots_if x)) h ∙ field_parts s.params.items ((here, option_slot s.result) ∷ []) ∙
    ap (λ qs. parts_in (field_slots s.params.items []) ++ qs) (append-nil (slot_refs (option_slot s.result)) ∙ sym e)

pub count_with : (a : Arena) (i : ComponentFuncTypeId) (s : ComponentFuncType) (q : Part) → slice_get a.nodes i.index ≡ Some (n.Func s) → q ∷ [] ≡ slot_refs (option_slot s.result) →
    length (parts_in (field_slots s.params.items [])) + 1 ≡ length (parts_at a (p.Func i))
count_with a i s q h e =
    omega (arith, ap (λ (qs : List Part). length qs) (func_parts a i s (Some q) h e), length-append (parts_in (field_slots s.params.items [])) (q ∷ []))

pub count_without : (a : Arena) (i : ComponentFuncTypeId) (s : ComponentFuncType) → slice_get a.nodes i.index ≡ Some (n.Func s) → [] ≡ slot_refs (option_slot s.result) →
    length (parts_in (field_slots s.params.items [])) ≡ length (parts_at a (p.Func i))
count_without a i s h e =
    omega (arith, ap (λ (qs : List Part). length qs) (func_parts a i s None h e), length-append (parts_in (field_slots s.params.items [])) [])

-- a part that is found among the parameters
pub get_left : (qs rs : List Part) (k : ℕ) (q : Part) → slice_get qs k ≡ Some q → slice_get (qs ++ rs) k ≡ Some q
get_left [] rs k q h = cc
get_left (r ∷ qs) rs zero q h = h
get_left (r ∷ qs) rs (suc k) q h = get_left qs rs k q h

-- one that is not, where there is one behind
get_right : (qs : List Part) (r : Part) (k : ℕ) → None ≡ slice_get qs k → k < length (qs ++ r ∷ []) → slice_get (qs ++ r ∷ []) k ≡ Some r
get_right [] r zero h l = refl
get_right [] r (suc k) h l = absurd (omega (arith, l))
get_right (q ∷ qs) r zero h l = cc
get_right (q ∷ qs) r (suc k) h l = get_right qs r k h (omega (arith, l))

pub get_none : (qs : List Part) (k : ℕ) → None ≡ slice_get qs k → k < length qs → ⊥
get_none [] k h l = absurd (omega (arith, l))
get_none (q ∷ qs) zero h l = cc
get_none (q ∷ qs) (suc k) h l = get_none qs k h (omega (arith, l))

pub part_of_params : (a : Arena) (i : ComponentFuncTypeId) (s : ComponentFuncType) (k : ℕ) (q : Part) → slice_get a.nodes i.index ≡ Some (n.Func s) →
    Some q ≡ slice_get (parts_in (field_slots s.params.items [])) k → slice_get (parts_at a (p.Func i)) k ≡ Some q
part_of_params a i s k q h e =
    let whole : parts_at a (p.Func i) ≡ parts_in (field_slots s.params.items []) ++ parts_in ((here, option_slot s.result) ∷ []) =
    ap (λ x. parts_in (slots_if x)) h ∙ field_parts s.params.items ((here, option_slot s.result) ∷ []) in
    ap (λ (qs : List Part). slice_get qs k) whole ∙ get_left (parts_in (field_slots s.params.items [])) _ k q (sym e)

pub part_of_result : (a : Arena) (i : ComponentFuncTypeId) (s : ComponentFuncType) (k : ℕ) (q : Part) → slice_get a.nodes i.index ≡ Some (n.Func s) →
    None ≡ slice_get (parts_in (field_slots s.params.items [])) k → q ∷ [] ≡ slot_refs (option_slot s.result) → k < length (parts_at a (p.Func i)) → slice_get (parts_at a (p.Func i)) k ≡ Some q
part_of_result a i s k q h e r l =
    let whole : parts_at a (p.Func i) ≡ parts_in (field_slots s.params.items []) ++ q ∷ [] = func_parts a i s (Some q) h r in
    ap (λ (qs : List Part). slice_get qs k) whole ∙ get_right (parts_in (field_slots s.params.items [])) q k e (subst (λ (qs : List Part). k < length qs) whole l)

pub no_part_left : (a : Arena) (i : ComponentFuncTypeId) (s : ComponentFuncType) (k : ℕ) → slice_get a.nodes i.index ≡ Some (n.Func s) →
    None ≡ slice_get (parts_in (field_slots s.params.items [])) k → [] ≡ slot_refs (option_slot s.result) → k < length (parts_at a (p.Func i)) → ⊥
no_part_left a i s k h e r l =
    let whole : parts_at a (p.Func i) ≡ parts_in (field_slots s.params.items []) ++ [] = func_parts a i s None h r in
    get_none (parts_in (field_slots s.params.items [])) k e (subst (λ (qs : List Part). k < length qs) (whole ∙ append-nil _) l)

-- the parts of a function type behind others
pub func_parts_after : (ps qs rs : List Part) (fs : List Field) (o : Option ComponentValType) → qs ≡ ps ++ parts_in (field_slots fs []) → rs ≡ qs ++ slot_refs (option_slot o) →
    rs ≡ ps ++ parts_in (field_slots fs ((here, option_slot o) ∷ []))
func_parts_after ps qs rs fs o e f =
    f ∙ ap (λ qs. qs ++ slot_refs (option_slot o)) e ∙ append_assoc ps (parts_in (field_slots fs [])) (slot_refs (option_slot o)) ∙
    ap (λ ks. ps ++ ks) (ap (λ qs. parts_in (field_slots fs []) ++ qs) (sym (append-nil (slot_refs (option_slot o)))) ∙ sym (field_parts fs ((here, option_slot o) ∷ [])))
