-- The ranks of entries, by which calls that go through them end.
use Rattle.std.proofs.Common.{◌≡◌, ℕ, zero, suc, ◌<◌, ◌≤◌, max, List, [], ◌∷◌, length, get_or, sym, subst, arith}
use Rattle.std.specs.Prelude.{All}
use Rattle.std.proofs.lemmas.List.Elements.{All-nil, All-cons, All-head, All-tail}
use Rattle.wcv_types.specs.Arena.{Arena}
use Rattle.wcv_types.specs.Entities.{entity_slot, EntryStands, SlotStands}
use Rattle.wcv_types.specs.Standing.{StandsBefore}
use Rattle.wcv_types.specs.Tree.{Text, Extern_name, Role}
use Rattle.wcv_types.specs.Unfold.{Slot, leaf, at, both, core, rank, entry_slots, slot_refs, parts_in}
use Rattle.wcv_types.specs.declared.item_map.ComponentItem.{ComponentItem}
use Rattle.wcv_types.proofs.Unfolding.{all_left, all_right}

-- ## The measure

-- the rank of what stands in a slot
abbrev pub slot_rank : Slot → ℕ
slot_rank (leaf o) = 0
slot_rank (at q) = rank q
slot_rank (both c r) = max (rank c) (rank r)
slot_rank (core e) = 0

-- the greatest among entries
abbrev pub entries_rank : List (Text × ComponentItem) → ℕ
entries_rank [] = 0
entries_rank (e ∷ es) = max (slot_rank (entity_slot e.1.ty)) (entries_rank es)

pub entry_rank : (es : List (Text × ComponentItem)) (k : ℕ) (e : Text × ComponentItem) → k < length es → e ≡ get_or es k e → slot_rank (entity_slot e.1.ty) ≤ entries_rank es
entry_rank [] k e w i = absurd (omega (arith, w))
entry_rank (d ∷ es) zero e w i = subst (λ (x : Text × ComponentItem). slot_rank (entity_slot x.1.ty) ≤ entries_rank (d ∷ es)) (sym i) (omega arith)
entry_rank (d ∷ es) (suc k) e w i = omega (arith, entry_rank es k e (omega (arith, w)) i)

module _ (a : Arena) (bound : ℕ) where
  slot_within : (s : Slot) → All (StandsBefore a bound) (slot_refs s) → 0 < bound → slot_rank s < bound
  slot_within (leaf o) h w = w
  slot_within (at q) h w = (All-head (StandsBefore a bound) q [] h).before
  slot_within (both c r) h w =
      omega (arith, (All-head (StandsBefore a bound) c (r ∷ []) h).before, (All-head (StandsBefore a bound) r [] (All-tail (StandsBefore a bound) c (r ∷ []) h)).before)
  slot_within (core e) h w = w

  slot_stands : (s : Slot) → All (StandsBefore a bound) (slot_refs s) → SlotStands a s
  slot_stands (leaf o) h = tt
  slot_stands (at q) h = (All-head (StandsBefore a bound) q [] h).stands
  slot_stands (both c r) h = ((All-head (StandsBefore a bound) c (r ∷ []) h).stands, (All-head (StandsBefore a bound) r [] (All-tail (StandsBefore a bound) c (r ∷ []) h)).stands)
  slot_stands (core e) h = tt

  module _ (role : Extern_name → Role) where
    -- entries among the parts of a node have smaller ranks
    pub entries_before : (es : List (Text × ComponentItem)) → All (StandsBefore a bound) (parts_in (entry_slots role es)) → 0 < bound → entries_rank es < bound
    entries_before [] h w = w
    entries_before (e ∷ es) h w =
        omega (
          arith,
          slot_within (entity_slot e.1.ty) (all_left (StandsBefore a bound) (slot_refs (entity_slot e.1.ty)) (parts_in (entry_slots role es)) h) w,
          entries_before es (all_right (StandsBefore a bound) (slot_refs (entity_slot e.1.ty)) (parts_in (entry_slots role es)) h) w,
        )

    -- and stand
    pub entries_stand : (es : List (Text × ComponentItem)) → All (StandsBefore a bound) (parts_in (entry_slots role es)) → All (EntryStands a) es
    entries_stand [] h = All-nil (EntryStands a)
    entries_stand (e ∷ es) h =
        All-cons (EntryStands a) e es (slot_stands (entity_slot e.1.ty) (all_left (StandsBefore a bound) (slot_refs (entity_slot e.1.ty)) (parts_in (entry_slots role es)) h))
        (entries_stand es (all_right (StandsBefore a bound) (slot_refs (entity_slot e.1.ty)) (parts_in (entry_slots role es)) h))

-- ## Entries that are lent

pub entries_ready : (a : Arena) (bound : ℕ) (role : Extern_name → Role) (es ds : List (Text × ComponentItem)) → ds ≡ es → All (StandsBefore a (suc bound)) (parts_in (entry_slots role es)) → (entries_rank ds < suc bound) × All (EntryStands a) ds
entries_ready a bound role es ds e h =
    subst (λ (xs : List (Text × ComponentItem)). (entries_rank xs < suc bound) × All (EntryStands a) xs) (sym e) (entries_before a (suc bound) role es h (omega arith), entries_stand a (suc bound) role es h)
