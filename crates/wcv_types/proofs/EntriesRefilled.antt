-- Entries with other parts, one entry after another.
use Rattle.std.proofs.Common.{◌≡◌, ℕ, suc, ◌+◌, ◌<◌, ◌≤◌, List, [], ◌∷◌, ◌++◌, length, drop, get_or, refl, sym, ◌∙◌, ap, subst, drop-cons, add-one, append-nil}
use Rattle.std.specs.Map.{keys_of}
use Rattle.std.specs.Prelude.{Option}
use Rattle.std.proofs.Math.ListN.{drop_of_length-le}
use Rattle.std.proofs.lemmas.List.{map-append}
use Rattle.wcv_types.specs.Entities.{entry_parts}
use Rattle.wcv_types.specs.Rebuild.{SameSorts, FillsSlot, Fills, refill_slot, after_slot, refill, after, Refilling}
use Rattle.wcv_types.specs.Tree.{Text, Extern_name, Role, import, export}
use Rattle.wcv_types.specs.Unfold.{Slot, Slots, entity_slot, entry_name, entry_slots}
use Rattle.wcv_types.specs.declared.ids.Part.{Part}
use Rattle.wcv_types.proofs.EntryLists.{Entry, entry_parts-are}
use Rattle.wcv_types.proofs.Rebuilding.{fills_sorts}
use Rattle.wcv_types.proofs.Refilling.{begun, went}

-- the entries before were made again
abbrev pub Refilled : List Entry → List Part → ℕ → List Entry → List Part → Type 0
Refilled es qs k made left = (role : Extern_name → Role) → Refilling (entry_slots role es) qs (entry_slots role (drop k es)) (entry_slots role made) left

-- the name of an entry, from what it says beside it
abbrev named : Text → Option Text → Option Text → Option Text → Extern_name
named t i v x = record { name = t; implements = i; version_suffix = v; external_id = x }

-- an entry with another part joins those that were made
pub one_more : (e y : Entry) (made made' : List Entry) (left : List Part) → made' ≡ made ++ y ∷ [] → y.0 ≡ e.0 → y.1.implements ≡ e.1.implements → y.1.version_suffix ≡ e.1.version_suffix → y.1.external_id ≡ e.1.external_id →
    entity_slot y.1.ty ≡ refill_slot (entity_slot e.1.ty) left → (role : Extern_name → Role) → entry_slots role made' ≡ entry_slots role made ++ (role (entry_name e), refill_slot (entity_slot e.1.ty) left) ∷ []
one_more e y made made' left m n i v x slot role =
    let last : (role (entry_name y), entity_slot y.1.ty) ≡ (role (entry_name e), refill_slot (entity_slot e.1.ty) left) = λ j. (role (named (n j) (i j) (v j) (x j)), slot j) in
    ap (entry_slots role) m ∙ map-append (λ (z : Entry). (role (entry_name z), entity_slot z.1.ty)) made (y ∷ []) ∙ ap (λ (t : Role × Slot). entry_slots role made ++ t ∷ []) last

module _ (es : List Entry) (qs : List Part) where
  slots_next : (role : Extern_name → Role) (k : ℕ) (e : Entry) → k < length es → e ≡ get_or es k e → entry_slots role (drop k es) ≡ (role (entry_name e), entity_slot e.1.ty) ∷ entry_slots role (drop (k + 1) es)
  slots_next role k e h r = ap (entry_slots role) (drop-cons es k e h ∙ ap (λ (x : Entry). x ∷ drop (suc k) es) (sym r)) ∙ rw add-one refl

  pub none_yet : (made : List Entry) (left : List Part) → made ≡ [] → left ≡ qs → ((role : Extern_name → Role) → Fills (entry_slots role es) qs) → Refilled es qs 0 made left
  none_yet made left e h f role =
      subst (λ (ys : List Entry). Refilling (entry_slots role es) qs (entry_slots role es) (entry_slots role ys) left) (sym e)
      (subst (λ (rs : List Part). Refilling (entry_slots role es) qs (entry_slots role es) [] rs) (sym h) (begun (entry_slots role es) qs (f role)))

  pub next_fills : (role : Extern_name → Role) (k : ℕ) (e : Entry) (made : List Entry) (left : List Part) → k < length es → e ≡ get_or es k e → Refilled es qs k made left → FillsSlot (entity_slot e.1.ty) left
  next_fills role k e made left h r f = (subst (λ (ss : Slots). Fills ss left) (slots_next role k e h r) (f role).fills).0

  pub next_made : (k : ℕ) (e : Entry) (made made' : List Entry) (left left' : List Part) → k < length es → e ≡ get_or es k e →
      ((role : Extern_name → Role) → entry_slots role made' ≡ entry_slots role made ++ (role (entry_name e), refill_slot (entity_slot e.1.ty) left) ∷ []) → left' ≡ after_slot (entity_slot e.1.ty) left →
      Refilled es qs k made left → Refilled es qs (k + 1) made' left'
  next_made k e made made' left left' h r m l f role =
      let s : Role × Slot = (role (entry_name e), entity_slot e.1.ty) in
      let rest : Slots = entry_slots role (drop (k + 1) es) in
      let all : Slots = entry_slots role es in
      subst (λ (ss : Slots). Refilling all qs rest ss left') (sym (m role))
      (went all qs s rest (entry_slots role made) left left' l (subst (λ (ss : Slots). Refilling all qs ss (entry_slots role made) left) (slots_next role k e h r) (f role)))

  pub all_made : (k : ℕ) (made : List Entry) (left : List Part) → length es ≤ k → Refilled es qs k made left → (role : Extern_name → Role) → (entry_slots role made ≡ refill (entry_slots role es) qs) × (left ≡ after (entry_slots role es) qs)
  all_made k made left h f role =
      let none : entry_slots role (drop k es) ≡ [] = ap (entry_slots role) (drop_of_length-le es h) in
      let t : Refilling (entry_slots role es) qs [] (entry_slots role made) left = subst (λ (ss : Slots). Refilling (entry_slots role es) qs ss (entry_slots role made) left) none (f role) in
      (sym (append-nil (entry_slots role made)) ∙ t.slots, t.left_is)

  -- parts of the same sorts fill them
  pub entries_fill : SameSorts (entry_parts es) qs → (role : Extern_name → Role) → Fills (entry_slots role es) qs
  entries_fill h role = fills_sorts (entry_slots role es) qs (subst (λ (ps : List Part). SameSorts ps qs) (sym (entry_parts-are role es)) h)

-- the name under which a slot stands, where it is one of an entry
abbrev name_at : Slots → Text
name_at ((import n, x) ∷ ss) = n.name
name_at ((export n, x) ∷ ss) = n.name
name_at ss = []

-- entries with other parts have the same names
pub names_again : (es made : List Entry) (qs : List Part) → entry_slots import made ≡ refill (entry_slots import es) qs → keys_of made ≡ keys_of es
names_again [] [] qs h = refl
names_again [] (y ∷ made) qs h = cc h
names_again (e ∷ es) [] qs h = cc h
names_again (e ∷ es) (y ∷ made) qs h =
    let name : y.0 ≡ e.0 = ap name_at h in
    let rest : entry_slots import made ≡ refill (entry_slots import es) (after_slot (entity_slot e.1.ty) qs) = cc h in
    λ j. name j ∷ names_again es made (after_slot (entity_slot e.1.ty) qs) rest j
