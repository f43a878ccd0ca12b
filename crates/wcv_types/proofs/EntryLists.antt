-- The parts of entries, one entry after another.
use Rattle.std.proofs.Common.{◌≡◌, ℕ, zero, suc, ◌+◌, ◌-◌, ◌<◌, ◌≤◌, List, [], ◌∷◌, ◌++◌, length, take, drop, get_or, refl, sym, ◌∙◌, ap, arith, add-one, take-suc, take_all, drop-cons, length-append, append_assoc, append-nil}
use Rattle.std.specs.Prelude.{slice_get, option_to_list, Some, None}
use Rattle.std.proofs.Math.ListN.{drop_of_length-le}
use Rattle.wcv_types.specs.Entities.{entry_parts}
use Rattle.wcv_types.specs.Tree.{Text, Extern_name, Role}
use Rattle.wcv_types.specs.Unfold.{Slot, leaf, at, both, core, entity_slot, entry_slots, parts_in, slot_refs}
use Rattle.wcv_types.specs.declared.ids.Part.{Part}
use Rattle.wcv_types.specs.declared.item_map.ComponentItem.{ComponentItem}
use Rattle.wcv_types.proofs.Slots.{get_none}

abbrev pub Entry : Type 0
Entry = Text × ComponentItem

abbrev refs : Entry → List Part
refs e = slot_refs (entity_slot e.1.ty)

-- they are those of the slots, in whatever role
pub entry_parts-are : (role : Extern_name → Role) (es : List Entry) → parts_in (entry_slots role es) ≡ entry_parts es
entry_parts-are role [] = refl
entry_parts-are role (e ∷ es) = ap (λ (qs : List Part). refs e ++ qs) (entry_parts-are role es)

entry_parts-push : (es : List Entry) (e : Entry) → entry_parts (es ++ e ∷ []) ≡ entry_parts es ++ refs e
entry_parts-push [] e = append-nil (refs e)
entry_parts-push (x ∷ es) e = ap (λ (qs : List Part). refs x ++ qs) (entry_parts-push es e) ∙ sym (append_assoc (refs x) (entry_parts es) (refs e))

-- the first and the second part of a slot are all of them
pub entity_pushed : (s : Slot) → option_to_list (slice_get (slot_refs s) 0) ++ option_to_list (slice_get (slot_refs s) 1) ≡ slot_refs s
entity_pushed (leaf o) = refl
entity_pushed (at q) = refl
entity_pushed (both c r) = refl
entity_pushed (core e) = refl

-- from the k-th on
pub next_entry : (es : List Entry) (k : ℕ) (e : Entry) → k < length es → e ≡ get_or es k e → entry_parts (drop k es) ≡ slot_refs (entity_slot e.1.ty) ++ entry_parts (drop (k + 1) es)
next_entry es k e h r = ap entry_parts (drop-cons es k e h ∙ ap (λ (x : Entry). x ∷ drop (suc k) es) (sym r)) ∙ rw add-one refl

pub no_entry : (es : List Entry) (k : ℕ) → length es ≤ k → entry_parts (drop k es) ≡ []
no_entry es k h = ap entry_parts (drop_of_length-le es h)

-- before the k-th, and the k-th
pub count_next : (es : List Entry) (k : ℕ) (e : Entry) → k < length es → e ≡ get_or es k e → length (entry_parts (take (k + 1) es)) ≡ length (entry_parts (take k es)) + length (slot_refs (entity_slot e.1.ty))
count_next es k e h r =
    ap (λ (j : ℕ). length (entry_parts (take j es))) (add-one k) ∙ ap (λ (xs : List Entry). length (entry_parts xs)) (take-suc es k e h ∙ ap (λ (x : Entry). take k es ++ x ∷ []) (sym r)) ∙
    ap (λ (qs : List Part). length qs) (entry_parts-push (take k es) e) ∙ length-append (entry_parts (take k es)) (refs e)

pub all_counted : (es : List Entry) (k : ℕ) → length es ≤ k → take k es ≡ es
all_counted es k h = take_all k es h

-- ## One list of parts behind another

-- a part that is not among the first
pub get_behind : (qs rs : List Part) (k : ℕ) (q : Part) → None ≡ slice_get qs k → slice_get rs (k - length qs) ≡ Some q → slice_get (qs ++ rs) k ≡ Some q
get_behind [] rs k q h i = ap (slice_get rs) (omega arith) ∙ i
get_behind (p ∷ qs) rs zero q h i = absurd (cc)
get_behind (p ∷ qs) rs (suc k) q h i = get_behind qs rs k q h (ap (slice_get rs) (omega arith) ∙ i)

pub none_behind : (qs rs : List Part) (k : ℕ) → None ≡ slice_get qs k → None ≡ slice_get rs (k - length qs) → k < length (qs ++ rs) → ⊥
none_behind [] rs k h i l = get_none rs k (i ∙ ap (slice_get rs) (omega arith)) l
none_behind (p ∷ qs) rs zero h i l = cc
none_behind (p ∷ qs) rs (suc k) h i l = none_behind qs rs k h (i ∙ ap (slice_get rs) (omega arith)) (omega (arith, l))
