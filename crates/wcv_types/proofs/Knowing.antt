-- What is kept of the nodes of an arena, and of the parts of a node.
use Rattle.std.proofs.Common.{◌≡◌, ℕ, zero, suc, ◌+◌, ◌<◌, ◌≤◌, List, [], ◌∷◌, ◌++◌, length, take, drop, map, get_or, refl, sym, ◌∙◌, ap, subst, arith, take_all, drop-cons, add-one, append_assoc, append-nil, length-append, Bool, true, false, ◌&&◌, Some, None}
use Rattle.std.specs.Prelude.{Option, Vec, slice_get, All, option_to_list}
use Rattle.std.specs.declared.alloc.Global.{Global}
use Rattle.std.specs.Option.{option_map}
use Rattle.std.proofs.lemmas.Bool.{false≢true}
use Rattle.std.proofs.lemmas.List.Elements.{All-head, All-tail}
use Rattle.std.proofs.lemmas.Option.{slice_get-map, slice_get_within, slice_get_read, get_or_from_slice_get}
use Rattle.std.proofs.Math.ListN.{drop_of_length-le}
use Rattle.wcv_types.specs.Arena.{Arena}
use Rattle.wcv_types.specs.Entities.{SlotStands}
use Rattle.wcv_types.specs.Facts.{is_plain}
use Rattle.wcv_types.specs.Identity.{Identity}
use Rattle.wcv_types.specs.Named.{is_named, are_named}
use Rattle.wcv_types.specs.Standing.{Stands}
use Rattle.wcv_types.specs.Tree.{Text, Role, here, label}
use Rattle.wcv_types.specs.Unfold.{Type_tree, Slot, leaf, at, both, core, Slots, value_slot, option_slot, field_slots, value_parts, value_slots, handles, defined_slots, slot_refs, parts_in, slot_tree, slot_parts, trees}
use Rattle.wcv_types.specs.declared.ids.AliasableResourceId.{AliasableResourceId}
use Rattle.wcv_types.specs.declared.ids.Part.{Part}
use Rattle.wcv_types.specs.declared.ids.Part.TheVariants as p
use Rattle.wcv_types.specs.declared.shapes.ComponentDefinedType.{ComponentDefinedType}
use Rattle.wcv_types.specs.declared.shapes.ComponentDefinedType.TheVariants as d
use Rattle.wcv_types.specs.declared.shapes.ComponentFuncType.{ComponentFuncType}
use Rattle.wcv_types.specs.declared.shapes.ComponentValType.{ComponentValType}
use Rattle.wcv_types.specs.declared.shapes.ComponentValType.TheVariants as v
pub use Rattle.wcv_types.proofs.Lists.{take-next}
use Rattle.wcv_types.proofs.Each.{length-mapped}
use Rattle.wcv_types.proofs.Forming.{plain_value, slots_of_values}
use Rattle.wcv_types.proofs.Unfolding.{all_left, all_right, sort_stands}

-- ## Slots

pub parts_in-append : (xs ys : Slots) → parts_in (xs ++ ys) ≡ parts_in xs ++ parts_in ys
parts_in-append [] ys = refl
parts_in-append (x ∷ xs) ys = ap (λ (qs : List Part). slot_refs x.1 ++ qs) (parts_in-append xs ys) ∙ sym (append_assoc (slot_refs x.1) (parts_in xs) (parts_in ys))

pub refs_stand : (a : Arena) (s : Slot) → All (Stands a) (slot_refs s) → SlotStands a s
refs_stand a (leaf o) h = tt
refs_stand a (core e) h = tt
refs_stand a (at q) h = All-head (Stands a) q [] h
refs_stand a (both c r) h = (All-head (Stands a) c (r ∷ []) h, All-head (Stands a) r [] (All-tail (Stands a) c (r ∷ []) h))

-- what stands in a slot is of the arena
pub slot_stands_at : (a : Arena) (ss : Slots) (k : ℕ) (x : Role × Slot) → All (Stands a) (parts_in ss) → slice_get ss k ≡ Some x → SlotStands a x.1
slot_stands_at a [] k x h e = absurd (cc)
slot_stands_at a (s ∷ ss) zero x h e =
    let same : s ≡ x = cc in
    subst (λ (y : Role × Slot). SlotStands a y.1) same (refs_stand a s.1 (all_left (Stands a) (slot_refs s.1) (parts_in ss) h))
slot_stands_at a (s ∷ ss) (suc k) x h e = slot_stands_at a ss k x (all_right (Stands a) (slot_refs s.1) (parts_in ss) h) e

-- a value type, or what is left out, is plain as a function is
pub value_plain : (a : Arena) (ty : Option ComponentValType) → SlotStands a (option_slot ty) → is_plain (slot_tree (trees a.nodes) (option_slot ty)) ≡ is_named [] (slot_tree (trees a.nodes) (option_slot ty))
value_plain a None s = refl
value_plain a (Some (v.Primitive q)) s = refl
value_plain a (Some (v.Ty i)) s = plain_value (slot_tree (trees a.nodes) (at (p.Defined i))) (sort_stands a (p.Defined i) s)

-- ## The value types that a defined type is made of

abbrev value_slot_of : Role × Option ComponentValType → Role × Slot
value_slot_of x = (x.0, option_slot x.1)

abbrev second : Role × Option ComponentValType → Option ComponentValType
second x = x.1

found_slot : (o : Option (Role × Option ComponentValType)) (ty : Option ComponentValType) → option_map second o ≡ Some ty → (r : Role) × (option_map value_slot_of o ≡ Some (r, option_slot ty))
found_slot None ty e = absurd (cc)
found_slot (Some x) ty e =
    let same : x.1 ≡ ty = cc in
    let e : Some (x.0, option_slot x.1) ≡ Some (x.0, option_slot ty) = ap (λ (t : Option ComponentValType). Some (x.0, option_slot t)) same in
    (x.0, e)

-- of a record, of a variant and of a tuple
module _ {X : Type 0} (g : X → Role × Option ComponentValType) where
  mapped_value : (xs : List X) (k : ℕ) (x : X) → k < length (map g xs) → x ≡ get_or xs k x → option_map second (slice_get (map g xs) k) ≡ Some (g x).1
  mapped_value xs k x w e =
      let within : k < length xs = omega (arith, w, length-mapped g xs) in
      ap (option_map second) (slice_get-map g xs k ∙ ap (option_map g) (slice_get_read xs (length xs) k x refl within e))

pub field_value : (s : ComponentDefinedType) (fs : Vec (Text × ComponentValType) Global) (k : ℕ) (f : Text × ComponentValType) → s ≡ d.Record fs → k < length (value_parts s) → f ≡ get_or fs.items k f →
    option_map (λ (x : Role × Option ComponentValType). x.1) (slice_get (value_parts s) k) ≡ Some (Some f.1)
field_value s fs k f e w r =
    ap (λ (y : ComponentDefinedType). option_map second (slice_get (value_parts y) k)) e ∙
    mapped_value (λ g. (label g.0, Some g.1)) fs.items k f (subst (λ (y : ComponentDefinedType). k < length (value_parts y)) e w) r

pub case_value : (s : ComponentDefinedType) (cs : Vec (Text × Option ComponentValType) Global) (k : ℕ) (x : Text × Option ComponentValType) → s ≡ d.Variant cs → k < length (value_parts s) → x ≡ get_or cs.items k x →
    option_map (λ (x : Role × Option ComponentValType). x.1) (slice_get (value_parts s) k) ≡ Some x.1
case_value s cs k x e w r =
    ap (λ (y : ComponentDefinedType). option_map second (slice_get (value_parts y) k)) e ∙
    mapped_value (λ g. (label g.0, g.1)) cs.items k x (subst (λ (y : ComponentDefinedType). k < length (value_parts y)) e w) r

pub tuple_value : (s : ComponentDefinedType) (ts : Vec ComponentValType Global) (k : ℕ) (t : ComponentValType) → s ≡ d.Tuple ts → k < length (value_parts s) → t ≡ get_or ts.items k t →
    option_map (λ (x : Role × Option ComponentValType). x.1) (slice_get (value_parts s) k) ≡ Some (Some t)
tuple_value s ts k t e w r =
    ap (λ (y : ComponentDefinedType). option_map second (slice_get (value_parts y) k)) e ∙
    mapped_value (λ u. (here, Some u)) ts.items k t (subst (λ (y : ComponentDefinedType). k < length (value_parts y)) e w) r

-- the slot of the k-th of them
pub slot_at : (s : ComponentDefinedType) (k : ℕ) (ty : Option ComponentValType) → option_map second (slice_get (value_parts s) k) ≡ Some ty → (r : Role) × (slice_get (value_slots (value_parts s)) k ≡ Some (r, option_slot ty))
slot_at s k ty e =
    let w = found_slot (slice_get (value_parts s) k) ty e in
    (w.0, slice_get-map value_slot_of (value_parts s) k ∙ w.1)

-- those from the k-th on
next_value : (s : ComponentDefinedType) (k : ℕ) (ty : Option ComponentValType) → option_map second (slice_get (value_parts s) k) ≡ Some ty →
    parts_in (drop k (value_slots (value_parts s))) ≡ slot_refs (option_slot ty) ++ parts_in (drop (k + 1) (value_slots (value_parts s)))
next_value s k ty e =
    let ss : Slots = value_slots (value_parts s) in
    let w = slot_at s k ty e in
    let x : Role × Slot = (w.0, option_slot ty) in
    ap parts_in (drop-cons ss k x (slice_get_within ss k x w.1) ∙ ap (λ (y : Role × Slot). y ∷ drop (suc k) ss) (get_or_from_slice_get ss k x x w.1)) ∙
    ap (λ (j : ℕ). slot_refs (option_slot ty) ++ parts_in (drop j ss)) (sym (add-one k))

-- they are pushed behind others
pub value_pushed : (s : ComponentDefinedType) (k : ℕ) (ty : Option ComponentValType) (ps qs : List Part) → option_map second (slice_get (value_parts s) k) ≡ Some ty → qs ≡ ps ++ slot_refs (option_slot ty) →
    qs ++ parts_in (drop (k + 1) (value_slots (value_parts s))) ≡ ps ++ parts_in (drop k (value_slots (value_parts s)))
value_pushed s k ty ps qs e h =
    ap (λ (rs : List Part). rs ++ parts_in (drop (k + 1) (value_slots (value_parts s)))) h ∙ append_assoc ps (slot_refs (option_slot ty)) (parts_in (drop (k + 1) (value_slots (value_parts s)))) ∙
    ap (λ (rs : List Part). ps ++ rs) (sym (next_value s k ty e))

-- and their parts
pub next_part : (s : ComponentDefinedType) (k : ℕ) (ty : Option ComponentValType) (o : Option Part) → option_map (λ (x : Role × Option ComponentValType). x.1) (slice_get (value_parts s) k) ≡ Some ty → option_to_list o ≡ slot_refs (option_slot ty) →
    parts_in (drop k (value_slots (value_parts s))) ≡ option_to_list o ++ parts_in (drop (k + 1) (value_slots (value_parts s)))
next_part s k ty o e i = next_value s k ty e ∙ ap (λ (qs : List Part). qs ++ parts_in (drop (k + 1) (value_slots (value_parts s)))) (sym i)

pub no_value : (s : ComponentDefinedType) (k : ℕ) → length (value_parts s) ≤ k → parts_in (drop k (value_slots (value_parts s))) ≡ []
no_value s k h = ap parts_in (drop_of_length-le (value_slots (value_parts s)) (omega (arith, h, length-mapped value_slot_of (value_parts s))))

-- those before the k-th, and the k-th
pub count_value : (s : ComponentDefinedType) (k : ℕ) (ty : Option ComponentValType) → option_map second (slice_get (value_parts s) k) ≡ Some ty →
    length (parts_in (take (k + 1) (value_slots (value_parts s)))) ≡ length (parts_in (take k (value_slots (value_parts s)))) + length (slot_refs (option_slot ty))
count_value s k ty e =
    let ss : Slots = value_slots (value_parts s) in
    let w = slot_at s k ty e in
    let x : Role × Slot = (w.0, option_slot ty) in
    let all : parts_in (take (k + 1) ss) ≡ parts_in (take k ss) ++ slot_refs (option_slot ty) =
    ap (λ (j : ℕ). parts_in (take j ss)) (add-one k) ∙ ap parts_in (take-next ss k x w.1) ∙ parts_in-append (take k ss) (x ∷ []) ∙
    ap (λ (qs : List Part). parts_in (take k ss) ++ qs) (append-nil (slot_refs (option_slot ty))) in
    ap (λ (qs : List Part). length qs) all ∙ length-append (parts_in (take k ss)) (slot_refs (option_slot ty))

-- all of them
pub all_values : (s : ComponentDefinedType) (k : ℕ) → length (value_parts s) ≤ k → take k (value_slots (value_parts s)) ≡ value_slots (value_parts s)
all_values s k h = take_all k (value_slots (value_parts s)) (omega (arith, h, length-mapped value_slot_of (value_parts s)))

-- all slots
pub all_slots : (s : ComponentDefinedType) (k : ℕ) → handles s ≡ false → length (value_parts s) ≤ k → take k (defined_slots s) ≡ defined_slots s
all_slots s k v h = ap (take k) (slots_of_values s v) ∙ all_values s k h ∙ sym (slots_of_values s v)

pub handle_slot : (s : ComponentDefinedType) → handles s ≡ true → (r : AliasableResourceId) × (defined_slots s ≡ (here, at (p.Resource r)) ∷ [])
handle_slot (d.Own r) h = (r, refl)
handle_slot (d.Borrow r) h = (r, refl)
handle_slot x h = absurd (false≢true h)

-- ## Parameters

field_at : (fs : List (Text × ComponentValType)) (rest : Slots) (k : ℕ) (f : Text × ComponentValType) → slice_get fs k ≡ Some f → slice_get (field_slots fs rest) k ≡ Some (label f.0, value_slot f.1)
field_at [] rest k f e = absurd (cc)
field_at (g ∷ fs) rest zero f e =
    let same : g ≡ f = cc in
    ap (λ (x : Text × ComponentValType). Some (label x.0, value_slot x.1)) same
field_at (g ∷ fs) rest (suc k) f e = field_at fs rest k f e

behind_fields : (fs : List (Text × ComponentValType)) (x : Role × Slot) → slice_get (field_slots fs (x ∷ [])) (length fs) ≡ Some x
behind_fields [] x = refl
behind_fields (f ∷ fs) x = behind_fields fs x

-- what stands in the k-th parameter, and in what stands behind them
pub given_stands : (a : Arena) (fs : List (Text × ComponentValType)) (x : Role × Slot) (k : ℕ) (f : Text × ComponentValType) → All (Stands a) (parts_in (field_slots fs (x ∷ []))) → k < length fs → f ≡ get_or fs k f → SlotStands a (value_slot f.1)
given_stands a fs x k f h w e = slot_stands_at a (field_slots fs (x ∷ [])) k (label f.0, value_slot f.1) h (field_at fs (x ∷ []) k f (slice_get_read fs (length fs) k f refl w e))

pub given_result : (a : Arena) (fs : List (Text × ComponentValType)) (x : Role × Slot) → All (Stands a) (parts_in (field_slots fs (x ∷ []))) → SlotStands a x.1
given_result a fs x h = slot_stands_at a (field_slots fs (x ∷ [])) (length fs) x h (behind_fields fs x)

-- fields, and one more slot behind them
pub fields_behind : (fs : List (Text × ComponentValType)) (x : Role × Slot) → field_slots fs (x ∷ []) ≡ field_slots fs [] ++ x ∷ []
fields_behind [] x = refl
fields_behind (f ∷ fs) x = ap (λ (ss : Slots). (label f.0, value_slot f.1) ∷ ss) (fields_behind fs x)

fields_push : (fs : List (Text × ComponentValType)) (f : Text × ComponentValType) → field_slots (fs ++ f ∷ []) [] ≡ field_slots fs [] ++ (label f.0, value_slot f.1) ∷ []
fields_push [] f = refl
fields_push (g ∷ fs) f = ap (λ (ss : Slots). (label g.0, value_slot g.1) ∷ ss) (fields_push fs f)

pub fields_next : (fs : List (Text × ComponentValType)) (k : ℕ) (f : Text × ComponentValType) → k < length fs → f ≡ get_or fs k f → field_slots (take (k + 1) fs) [] ≡ field_slots (take k fs) [] ++ (label f.0, value_slot f.1) ∷ []
fields_next fs k f w e =
    ap (λ (j : ℕ). field_slots (take j fs) []) (add-one k) ∙ ap (λ gs. field_slots gs []) (take-next fs k f (slice_get_read fs (length fs) k f refl w e)) ∙ fields_push (take k fs) f

-- whether the fields from k on and what stands behind them are named
abbrev pub named_from : List Identity → List Type_tree → ComponentFuncType → ℕ → Bool
named_from ids ts s k = are_named ids (slot_parts ts (field_slots (drop k s.params.items) ((here, option_slot s.result) ∷ [])))

pub named_next : (ids : List Identity) (ts : List Type_tree) (s : ComponentFuncType) (k : ℕ) (f : Text × ComponentValType) → k < length s.params.items → f ≡ get_or s.params.items k f →
    named_from ids ts s k ≡ (is_named ids (slot_tree ts (value_slot f.1)) && named_from ids ts s (k + 1))
named_next ids ts s k f w e =
    let rest : Slots = (here, option_slot s.result) ∷ [] in
    ap (λ gs. are_named ids (slot_parts ts (field_slots gs rest))) (drop-cons s.params.items k f w ∙ ap (λ (g : Text × ComponentValType). g ∷ drop (suc k) s.params.items) (sym e)) ∙
    ap (λ (j : ℕ). is_named ids (slot_tree ts (value_slot f.1)) && named_from ids ts s j) (sym (add-one k))

pub named_last : (ids : List Identity) (ts : List Type_tree) (s : ComponentFuncType) (k : ℕ) → length s.params.items ≤ k → named_from ids ts s k ≡ is_named ids (slot_tree ts (option_slot s.result))
named_last ids ts s k h =
    ap (λ gs. are_named ids (slot_parts ts (field_slots gs ((here, option_slot s.result) ∷ [])))) (drop_of_length-le s.params.items h) ∙ and_true (is_named ids (slot_tree ts (option_slot s.result)))
  where
    and_true : (b : Bool) → (b && true) ≡ b
    and_true true = refl
    and_true false = refl
