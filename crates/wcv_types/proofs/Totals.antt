-- One more entry, and what is known of nodes that are made of entries.
use Rattle.std.proofs.Common.{◌≡◌, ℕ, ◌+◌, ◌<◌, min, max, refl, sym, ◌∙◌, ap, arith, add-one, List, [], ◌∷◌, ◌++◌, length, take, get_or, ◌||◌}
use Rattle.std.specs.Prelude.{All}
use Rattle.std.proofs.lemmas.Option.{slice_get_read}
use Rattle.std.proofs.lemmas.List.{map-append}
use Rattle.std.proofs.lemmas.List.Elements.{All-nil, All-cons}
use Rattle.wcv_types.specs.Arena.{Arena}
use Rattle.wcv_types.specs.Entities.{EntryStands}
use Rattle.wcv_types.specs.EntrySums.{IsTotalOf, IsTotalOfParts}
use Rattle.wcv_types.specs.Standing.{Stands}
use Rattle.wcv_types.specs.Tree.{Text, Extern_name, Role}
use Rattle.wcv_types.specs.Unfold.{Type_tree, Slot, Slots, entity_slot, entry_name, entry_slots, parts_in, slot_refs, slot_tree, slot_parts}
use Rattle.wcv_types.specs.declared.entry_facts.Total.{Total}
use Rattle.wcv_types.specs.declared.item_map.ComponentItem.{ComponentItem}
use Rattle.wcv_types.proofs.Knowing.{take-next, refs_stand}
use Rattle.wcv_types.proofs.Sums.{sizes-push, depths-push, mentions-push}
use Rattle.wcv_types.proofs.Unfolding.{all_left, all_right}

-- ## Totals

pub total_push : (old new more : Total) (ts : List Type_tree) (ss : Slots) (s : Role × Slot) → IsTotalOfParts old (slot_parts ts ss) → IsTotalOf more (slot_tree ts s.1) →
    new.size ≡ min (old.size + more.size) 4294967295 → new.depth ≡ max old.depth more.depth → new.refers ≡ (old.refers || more.refers) → IsTotalOfParts new (slot_parts ts (ss ++ s ∷ []))
total_push old new more ts ss s h m e1 e2 e3 = record {
  size = omega (arith, e1, h.size, m.size, sizes-push ts s ss);
  depth = omega (arith, e2, h.depth, m.depth, depths-push ts s ss);
  refers = e3 ∙ (λ j. h.refers j || m.refers j) ∙ sym (mentions-push ts s ss);
}

-- ## Entries one after another

module _ (role : Extern_name → Role) where
  abbrev slot_of : Text × ComponentItem → Role × Slot
  slot_of e = (role (entry_name e), entity_slot e.1.ty)

  pub entries_next : (es : List (Text × ComponentItem)) (k : ℕ) (e : Text × ComponentItem) → k < length es → e ≡ get_or es k e → entry_slots role (take (k + 1) es) ≡ entry_slots role (take k es) ++ (role (entry_name e), entity_slot e.1.ty) ∷ []
  entries_next es k e w r =
      ap (λ (j : ℕ). entry_slots role (take j es)) (add-one k) ∙ ap (entry_slots role) (take-next es k e (slice_get_read es (length es) k e refl w r)) ∙ map-append slot_of (take k es) (e ∷ [])

  -- what an entry names is of the arena
  pub entries_stand : (a : Arena) (es : List (Text × ComponentItem)) → All (Stands a) (parts_in (entry_slots role es)) → All (EntryStands a) es
  entries_stand a [] h = All-nil (EntryStands a)
  entries_stand a (e ∷ es) h =
      All-cons (EntryStands a) e es (refs_stand a (entity_slot e.1.ty) (all_left (Stands a) (slot_refs (entity_slot e.1.ty)) (parts_in (entry_slots role es)) h))
      (entries_stand a es (all_right (Stands a) (slot_refs (entity_slot e.1.ty)) (parts_in (entry_slots role es)) h))
