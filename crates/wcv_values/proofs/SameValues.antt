-- Value types that are walked through side by side.
use Rattle.std.proofs.Common.{◌≡◌, ℕ, suc, ◌+◌, ◌<◌, List, [], ◌∷◌, length, drop, get_or, Bool, true, false, ◌&&◌, bytes_eq, Option, Some, None, refl, sym, ◌∙◌, ap, arith}
use Rattle.std.specs.Prelude.{slice_get, All}
use Rattle.std.specs.Bool.{beq}
use Rattle.std.specs.Option.{option_map}
use Rattle.std.proofs.lemmas.Option.{slice_get-map}
use Rattle.std.proofs.lemmas.Bool.{eqb-true}
use Rattle.std.proofs.Math.Bool.{and-false, and-true}
use Rattle.wcv_core.proofs.Names.{and_left}
use Rattle.wcv_types.specs.Alike.{form_number}
use Rattle.wcv_types.specs.Arena.{Arena}
use Rattle.wcv_types.specs.NamedBySet.{handle_of}
use Rattle.wcv_types.specs.SameSeen.{same_former, same_role}
use Rattle.wcv_types.specs.Seen.{seen}
use Rattle.wcv_types.specs.Standing.{Stands}
use Rattle.wcv_types.specs.Tree.{Text, Role, here, label}
use Rattle.wcv_types.specs.Entities.{SlotStands}
use Rattle.wcv_types.specs.Unfold.{Type_tree, Slots, slot_refs, defined_slots, field_slots, former_of, option_slot, parts_in, trees, unfolded, value_parts, value_slot, value_slots}
use Rattle.wcv_types.specs.declared.arena.Node.TheVariants as n
use Rattle.wcv_types.specs.declared.ids.Part.TheVariants as p
use Rattle.wcv_types.specs.declared.shapes.ComponentDefinedType.{ComponentDefinedType}
use Rattle.wcv_types.specs.declared.shapes.ComponentDefinedType.TheVariants as d
use Rattle.wcv_types.specs.declared.shapes.ComponentFuncType.{ComponentFuncType}
use Rattle.wcv_types.specs.declared.shapes.ComponentValType.{ComponentValType}
use Rattle.wcv_types.specs.declared.shapes.ComponentValType.TheVariants as v
use Rattle.wcv_types.proofs.Unfolding.{all_left, all_right}
use Rattle.std.proofs.lemmas.List.Elements.{All-nil, All-cons, All-head}
use Rattle.wcv_types.proofs.NeedingValues.{made_of_values}
use Rattle.wcv_matching.specs.AtomTests.{same_seen}
use Rattle.wcv_matching.specs.Matching.{Reading, outside}
use Rattle.wcv_matching.specs.OnePass.{Atom}
use Rattle.wcv_values.specs.SeenValues.{labelled, same_slots, seen_value}
use Rattle.std.proofs.lemmas.List.{length-map}
use Rattle.wcv_matching.proofs.ByName.{some_one}
use Rattle.wcv_matching.proofs.Entries.{there}
use Rattle.wcv_atoms.proofs.Walking.{at_drop}

abbrev Labelled : Type 0
Labelled = Role × Option ComponentValType

-- ## Forms

no_handle_own : (s : ComponentDefinedType) → handle_of s ≡ None → form_number (former_of s) ≡ 8 → ⊥
no_handle_own (d.Own r) h e = cc
no_handle_own (d.Borrow r) h e = cc
no_handle_own _ h e = omega (arith, e)

no_handle_borrow : (s : ComponentDefinedType) → handle_of s ≡ None → form_number (former_of s) ≡ 9 → ⊥
no_handle_borrow (d.Own r) h e = cc
no_handle_borrow (d.Borrow r) h e = cc
no_handle_borrow _ h e = omega (arith, e)

handle_none : (s : ComponentDefinedType) → (form_number (former_of s) ≡ 8 → ⊥) → (form_number (former_of s) ≡ 9 → ⊥) → handle_of s ≡ None
handle_none (d.Own r) f g = absurd (f refl)
handle_none (d.Borrow r) f g = absurd (g refl)
handle_none _ f g = refl

-- of types that are formed in one way neither is a handle where one is none
pub handles_alike : (s t : ComponentDefinedType) → same_former (former_of s) (former_of t) ≡ true → handle_of s ≡ None → handle_of t ≡ None
handles_alike s t e h =
    let same : form_number (former_of s) ≡ form_number (former_of t) = eqb-true _ _ (and_left _ _ e) in
    handle_none t (λ k. no_handle_own s h (same ∙ k)) (λ k. no_handle_borrow s h (same ∙ k))

-- ## Value types in their roles

module _ (ts : List Type_tree) (f g : Reading Atom) where
  abbrev pub same_values : List Labelled → List Labelled → Bool
  same_values ps qs = same_slots ts f g (value_slots ps) (value_slots qs)

  abbrev pub same_one : Labelled → Labelled → Bool
  same_one x y = same_role x.0 y.0 && same_seen (seen_value ts f x.1) (seen_value ts g y.1)

  regroup : (a b c : Bool) → (a && (b && c)) ≡ ((a && b) && c)
  regroup true b c = refl
  regroup false b c = refl

  pub other_count : (ps qs : List Labelled) → (length ps ≡ length qs → ⊥) → false ≡ same_values ps qs
  other_count [] [] h = absurd (h refl)
  other_count [] (q ∷ qs) h = refl
  other_count (x ∷ ps) [] h = refl
  other_count (x ∷ ps) (y ∷ qs) h =
      sym (ap (λ (b : Bool). same_role x.0 y.0 && (same_seen (seen_value ts f x.1) (seen_value ts g y.1) && b)) (sym (other_count ps qs (λ e. h (ap suc e)))) ∙
      ap (λ (b : Bool). same_role x.0 y.0 && b) (and-false (same_seen (seen_value ts f x.1) (seen_value ts g y.1))) ∙ and-false (same_role x.0 y.0))

  pub values_next : (ps qs : List Labelled) (k : ℕ) (x y : Labelled) → slice_get ps k ≡ Some x → slice_get qs k ≡ Some y → same_values (drop k ps) (drop k qs) ≡ (same_one x y && same_values (drop (k + 1) ps) (drop (k + 1) qs))
  values_next ps qs k x y e h =
      ap (λ (us : List Labelled). same_values us (drop k qs)) (at_drop ps k x e) ∙ ap (λ (us : List Labelled). same_values (x ∷ drop (k + 1) ps) us) (at_drop qs k y h) ∙ regroup (same_role x.0 y.0) _ _

  -- the first that are not the same decide
  pub values_differ : (ps qs : List Labelled) (k : ℕ) (x y : Labelled) → slice_get ps k ≡ Some x → slice_get qs k ≡ Some y → same_values ps qs ≡ same_values (drop k ps) (drop k qs) → same_one x y ≡ false → false ≡ same_values ps qs
  values_differ ps qs k x y e h i o = sym (i ∙ values_next ps qs k x y e h ∙ ap (λ (b : Bool). b && same_values (drop (k + 1) ps) (drop (k + 1) qs)) o)

  pub values_agree : (ps qs : List Labelled) (k : ℕ) (x y : Labelled) → slice_get ps k ≡ Some x → slice_get qs k ≡ Some y → same_values ps qs ≡ same_values (drop k ps) (drop k qs) → same_one x y ≡ true →
      same_values ps qs ≡ same_values (drop (k + 1) ps) (drop (k + 1) qs)
  values_agree ps qs k x y e h i o = i ∙ values_next ps qs k x y e h ∙ ap (λ (b : Bool). b && same_values (drop (k + 1) ps) (drop (k + 1) qs)) o

  -- one more behind parameters
  pub with_result : (ps qs : List (Text × ComponentValType)) (o u : Option ComponentValType) →
      same_slots ts f g (field_slots ps ((here, option_slot o) ∷ [])) (field_slots qs ((here, option_slot u) ∷ [])) ≡ (same_values (labelled ps) (labelled qs) && same_seen (seen_value ts f o) (seen_value ts g u))
  with_result [] [] o u = and-true _
  with_result [] (q ∷ qs) o u = refl
  with_result (x ∷ ps) [] o u = refl
  with_result (x ∷ ps) (y ∷ qs) o u =
      ap (λ (b : Bool). bytes_eq x.0 y.0 && (same_seen (seen_value ts f (Some x.1)) (seen_value ts g (Some y.1)) && b)) (with_result ps qs o u) ∙
      go (bytes_eq x.0 y.0) (same_seen (seen_value ts f (Some x.1)) (seen_value ts g (Some y.1))) (same_values (labelled ps) (labelled qs)) (same_seen (seen_value ts f o) (seen_value ts g u))
    where
      go : (a b c e : Bool) → (a && (b && (c && e))) ≡ ((a && (b && c)) && e)
      go true true c e = refl
      go true false c e = refl
      go false b c e = refl

-- ## The k-th of both

-- a role and a value type that stand at one place
pub both_at : (ps : List Labelled) (k : ℕ) (r : Role) (o : Option ComponentValType) → option_map (λ (q : Labelled). q.0) (slice_get ps k) ≡ Some r → option_map (λ (q : Labelled). q.1) (slice_get ps k) ≡ Some o →
    slice_get ps k ≡ Some (r, o)
both_at ps k r o e h = go (slice_get ps k) e h
  where
    go : (w : Option Labelled) → option_map (λ (q : Labelled). q.0) w ≡ Some r → option_map (λ (q : Labelled). q.1) w ≡ Some o → w ≡ Some (r, o)
    go None e h = cc
    go (Some q) e h =
        let a : q.0 ≡ r = some_one q.0 r e in
        let b : q.1 ≡ o = some_one q.1 o h in
        λ j. Some (a j, b j)

pub label_at : (ps : List (Text × ComponentValType)) (k : ℕ) (x : Text × ComponentValType) → slice_get ps k ≡ Some x → slice_get (labelled ps) k ≡ Some (label x.0, Some x.1)
label_at ps k x e = slice_get-map (λ (q : Text × ComponentValType). (label q.0, Some q.1)) ps k ∙ ap (option_map (λ (q : Text × ComponentValType). (label q.0, Some q.1))) e

-- what a type without a handle is made of
pub contents_as : (ts : List Type_tree) (f g : Reading Atom) (s t : ComponentDefinedType) → handle_of s ≡ None → handle_of t ≡ None → same_slots ts f g (defined_slots s) (defined_slots t) ≡ same_values ts f g (value_parts s) (value_parts t)
contents_as ts f g s t h k = λ j. same_slots ts f g (made_of_values s h j) (made_of_values t k j)

-- ## Functions

value_there : (a : Arena) (w : ComponentValType) → All (Stands a) (slot_refs (value_slot w)) → SlotStands a (value_slot w)
value_there a (v.Primitive q) h = tt
value_there a (v.Ty i) h = All-head (Stands a) (p.Defined i) [] h

pub params_stand : (a : Arena) (fs : List (Text × ComponentValType)) (rest : Slots) → All (Stands a) (parts_in (field_slots fs rest)) → All (λ (q : Text × ComponentValType). SlotStands a (value_slot q.1)) fs
params_stand a [] rest h = All-nil _
params_stand a (f ∷ fs) rest h =
    All-cons (λ (q : Text × ComponentValType). SlotStands a (value_slot q.1)) f fs (value_there a f.1 (all_left (Stands a) (slot_refs (value_slot f.1)) (parts_in (field_slots fs rest)) h))
    (params_stand a fs rest (all_right (Stands a) (slot_refs (value_slot f.1)) (parts_in (field_slots fs rest)) h))

pub func_same : (a : Arena) (i j : ℕ) (s t : ComponentFuncType) (f g : Reading Atom) (x y : Type_tree) → x ≡ unfolded a i (n.Func s) → y ≡ unfolded a j (n.Func t) →
    same_seen (seen (outside f) x) (seen (outside g) y) ≡ (beq s.async_ t.async_ && (same_values (trees a.nodes) f g (labelled s.params.items) (labelled t.params.items) && same_seen (seen_value (trees a.nodes) f s.result) (seen_value (trees a.nodes) g t.result)))
func_same a i j s t f g x y e h =
    (λ k. same_seen (seen (outside f) (e k)) (seen (outside g) (h k))) ∙ ap (λ (b : Bool). beq s.async_ t.async_ && b) (with_result (trees a.nodes) f g s.params.items t.params.items s.result t.result)

-- the k-th parameter
pub param_at : (ps : List (Text × ComponentValType)) (k : ℕ) (x : Text × ComponentValType) → k < length ps → x ≡ get_or ps k x → slice_get (labelled ps) k ≡ Some (label x.0, Some x.1)
param_at ps k x l e = label_at ps k x (there ps k x l (sym e))

pub labelled_count : (ps qs : List (Text × ComponentValType)) → (length ps ≡ length qs → ⊥) → length (labelled ps) ≡ length (labelled qs) → ⊥
labelled_count ps qs h e = h (sym (length-map ps _) ∙ e ∙ length-map qs _)

pub both_told : (a b c : Bool) → a ≡ true → b ≡ true → (a && (b && c)) ≡ c
both_told a b c h k = (λ j. h j && (k j && c))

pub none_told : (a b c : Bool) → b ≡ false → (a && (b && c)) ≡ false
none_told a b c k = (λ j. a && (k j && c)) ∙ and-false a

pub params_told : (a : Arena) (s t : ComponentFuncType) (f g : Reading Atom) (xs ys : List (Text × ComponentValType)) {b : Bool} → xs ≡ s.params.items → ys ≡ t.params.items →
    same_slots (trees a.nodes) f g (value_slots (labelled xs)) (value_slots (labelled ys)) ≡ b → same_values (trees a.nodes) f g (labelled s.params.items) (labelled t.params.items) ≡ b
params_told a s t f g xs ys e h k = (λ j. same_values (trees a.nodes) f g (labelled (sym e j)) (labelled (sym h j))) ∙ k
