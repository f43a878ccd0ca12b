-- Parts that are put into slots, one after another.
use Rattle.std.proofs.Common.{◌≡◌, ℕ, zero, suc, ◌+◌, ◌<◌, List, [], ◌∷◌, ◌++◌, length, drop, get_or, refl, sym, ◌∙◌, ap, subst, arith, drop-cons, add-one, append_assoc}
use Rattle.wcv_types.specs.Tree.{Role}
use Rattle.wcv_types.specs.Unfold.{Slot, Slots}
use Rattle.wcv_types.specs.Rebuild.{Fills, refill_slot, after_slot, refill, after, Refilling}
use Rattle.wcv_types.specs.declared.ids.Part.{Part}

-- ## The parts that are left

pub next_within : (qs : List Part) (k : ℕ) → 0 < length (drop k qs) → k < length qs
next_within [] zero h = absurd (omega (arith, h))
next_within [] (suc k) h = absurd (omega (arith, h))
next_within (q ∷ qs) zero h = omega arith
next_within (q ∷ qs) (suc k) h = omega (arith, next_within qs k h)

pub next_first : (qs : List Part) (k : ℕ) (q : Part) → 0 < length (drop k qs) → q ≡ get_or qs k q → drop k qs ≡ q ∷ drop (k + 1) qs
next_first qs k q h e = drop-cons qs k q (next_within qs k h) ∙ ap (λ (r : Part). r ∷ drop (suc k) qs) (sym e) ∙ rw add-one refl

-- ## Slots in order

pub begun : (all : Slots) (qs : List Part) → Fills all qs → Refilling all qs all [] qs
begun all qs f = record { fills = f; slots = refl; left_is = refl }

pub went : (all : Slots) (qs : List Part) (s : Role × Slot) (rest made : Slots) (left left' : List Part) → left' ≡ after_slot s.1 left → Refilling all qs (s ∷ rest) made left →
    Refilling all qs rest (made ++ (s.0, refill_slot s.1 left) ∷ []) left'
went all qs s rest made left left' e r = record {
  fills = subst (Fills rest) (sym e) r.fills.1;
  slots = append_assoc made ((s.0, refill_slot s.1 left) ∷ []) (refill rest left') ∙ ap (λ (xs : List Part). made ++ (s.0, refill_slot s.1 left) ∷ refill rest xs) e ∙ r.slots;
  left_is = ap (after rest) e ∙ r.left_is;
}
