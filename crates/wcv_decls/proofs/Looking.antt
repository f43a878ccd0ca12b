-- Lists of value types that were looked up in order.
use Rattle.std.proofs.Common.{◌≡◌, ℕ, List, [], ◌∷◌, ◌++◌, map, refl, sym, ◌∙◌, ap, subst, append_assoc, append-nil, Some, None}
use Rattle.std.specs.Prelude.{Option, All}
use Rattle.std.specs.Option.{option_and_then}
use Rattle.std.proofs.lemmas.List.{map-append}
use Rattle.std.proofs.lemmas.List.Elements.{All-append, All-cons, All-nil}
use Rattle.wcv_core.specs.Refusal.{error_kind}
use Rattle.wcv_core.specs.declared.error.Error.{Error}
use Rattle.wcv_core.specs.declared.error.ErrorKind.{ErrorKind}
use Rattle.wcv_core.specs.declared.features.WasmFeatures.{WasmFeatures}
use Rattle.wcv_syntax.specs.declared.component_type.ComponentValType.{ComponentValType as Written_value}
use Rattle.wcv_types.specs.Arena.{Arena}
use Rattle.wcv_types.specs.Entities.{SlotStands}
use Rattle.wcv_types.specs.Standing.{Stands}
use Rattle.wcv_types.specs.Tree.{Role}
use Rattle.wcv_types.specs.Unfold.{Type_tree, Slot, leaf, at, both, core, Slots, option_slot, value_slots, slot_refs, parts_in, slot_tree, trees}
use Rattle.wcv_types.specs.declared.shapes.ComponentValType.{ComponentValType}
use Rattle.wcv_types.proofs.Knowing.{parts_in-append}
use Rattle.wcv_lower.specs.Checks.{Cause, IsFree}
use Rattle.wcv_lower.specs.Mapped.{map_parts}
use Rattle.wcv_lower.specs.Readers.{Made_parts}
use Rattle.wcv_lower.specs.Trees.{Tree_context, tree_reader}
use Rattle.wcv_lower.specs.Values.{option_entry, Written_parts, behind, parts_entries, option_checks, parts_checks}
use Rattle.wcv_lower.proofs.Causes.{cause_left, cause_right, free_both, free_left, free_right}
use Rattle.wcv_spaces.specs.Promises.{MemoryOrCausedBy}
use Rattle.wcv_spaces.proofs.Calls.{caused_more}
use Rattle.wcv_decls.specs.Resolved.{IsOption, AreSlots}

-- ## One more part

-- the entries of parts
abbrev Made : Type 0
Made = Made_parts tree_reader

slots_push : (f : Slot → Type_tree) (ss : Slots) (x : Role × Slot) → map_parts f (ss ++ x ∷ []) ≡ map_parts f ss ++ (x.0, f x.1) ∷ []
slots_push f ss x = map-append (λ (p : Role × Slot). (p.0, f p.1)) ss (x ∷ [])

entries_push : (c : Tree_context) (ps : Written_parts) (p : Role × Option Written_value) (qs : Made) (t : Type_tree) → parts_entries c ps ≡ Some qs → option_entry c p.1 ≡ Some t → parts_entries c (ps ++ p ∷ []) ≡ Some (qs ++ (p.0, t) ∷ [])
entries_push c [] p qs t e f =
    let same : [] ≡ qs = cc in
    ap (option_and_then (behind tree_reader p.0 (Some []))) f ∙ ap (λ (rs : Made). Some (rs ++ (p.0, t) ∷ [])) same
entries_push c (q ∷ ps) p qs t e f = go (option_entry c q.1) (parts_entries c ps) refl refl e (λ rs j. entries_push c ps p rs t j f)
  where
    go : (o : Option Type_tree) (r : Option Made) → option_entry c q.1 ≡ o → parts_entries c ps ≡ r → option_and_then (behind tree_reader q.0 r) o ≡ Some qs →
        ((rs : Made) → parts_entries c ps ≡ Some rs → parts_entries c (ps ++ p ∷ []) ≡ Some (rs ++ (p.0, t) ∷ [])) →
        option_and_then (behind tree_reader q.0 (parts_entries c (ps ++ p ∷ []))) (option_entry c q.1) ≡ Some (qs ++ (p.0, t) ∷ [])
    go None r i j k more = cc
    go (Some u) None i j k more = cc
    go (Some u) (Some rs) i j k more =
        let same : (q.0, u) ∷ rs ≡ qs = cc in
        (λ l. option_and_then (behind tree_reader q.0 (more rs j l)) (i l)) ∙ ap (λ (xs : Made). Some (xs ++ (p.0, t) ∷ [])) same

pub refs_of : (a : Arena) (s : Slot) → SlotStands a s → All (Stands a) (slot_refs s)
refs_of a (leaf o) h = All-nil (Stands a)
refs_of a (core e) h = All-nil (Stands a)
refs_of a (at q) h = All-cons (Stands a) q [] h (All-nil (Stands a))
refs_of a (both c r) h = All-cons (Stands a) c (r ∷ []) h.0 (All-cons (Stands a) r [] h.1 (All-nil (Stands a)))

pub are_no_slots : (a : Arena) (c : Tree_context) → AreSlots a c [] []
are_no_slots a c = record { stands = All-nil (Stands a); trees = refl }

pub are_slots_push : (a : Arena) (c : Tree_context) (ps : Written_parts) (ss : Slots) (p : Role × Option Written_value) (v : Option ComponentValType) → AreSlots a c ps ss → IsOption a c p.1 v → AreSlots a c (ps ++ p ∷ []) (ss ++ (p.0, option_slot v) ∷ [])
are_slots_push a c ps ss p v h o = record {
  stands = subst (All (Stands a)) (sym (parts_in-append ss ((p.0, option_slot v) ∷ [])))
      (All-append (Stands a) (parts_in ss) (slot_refs (option_slot v) ++ []) h.stands (subst (All (Stands a)) (sym (append-nil (slot_refs (option_slot v)))) (refs_of a (option_slot v) o.stands)));
  trees = entries_push c ps p (map_parts (slot_tree (trees a.nodes)) ss) (slot_tree (trees a.nodes) (option_slot v)) h.trees o.tree ∙ ap Some (sym (slots_push (slot_tree (trees a.nodes)) ss (p.0, option_slot v)));
}

pub free_push : (fs : WasmFeatures) (c : Tree_context) (ps : Written_parts) (p : Role × Option Written_value) → IsFree (parts_checks fs c ps) → IsFree (option_checks fs c p.1) → IsFree (parts_checks fs c (ps ++ p ∷ []))
free_push fs c [] p h o = free_both (option_checks fs c p.1) [] o tt
free_push fs c (q ∷ ps) p h o =
    free_both (option_checks fs c q.1) (parts_checks fs c (ps ++ p ∷ [])) (free_left (option_checks fs c q.1) (parts_checks fs c ps) h) (free_push fs c ps p (free_right (option_checks fs c q.1) (parts_checks fs c ps) h) o)

pub cause_in : (fs : WasmFeatures) (c : Tree_context) (ps : Written_parts) (p : Role × Option Written_value) (qs : Written_parts) (k : ErrorKind) → Cause (option_checks fs c p.1) k → Cause (parts_checks fs c (ps ++ p ∷ qs)) k
cause_in fs c [] p qs k h = cause_left (option_checks fs c p.1) (parts_checks fs c qs) k h
cause_in fs c (q ∷ ps) p qs k h = cause_right (option_checks fs c q.1) (parts_checks fs c (ps ++ p ∷ qs)) k (cause_in fs c ps p qs k h)

-- ## A list, as far as it was looked up

module _ {X Y : Type 0} (a : Arena) (c : Tree_context) (fs : WasmFeatures) (g : X → Role × Option Written_value) (h : Y → Role × Option ComponentValType) where
  -- the others are left
  pub record Looked (items rest : List X) (out : List Y) : Type 0 where
    pub done : List X
    pub all : done ++ rest ≡ items
    pub slots : AreSlots a c (map g done) (value_slots (map h out))
    pub free : IsFree (parts_checks fs c (map g done))

  pub looked_next : (items rest : List X) (out : List Y) (x : X) (y : Y) → Looked items (x ∷ rest) out → (h y).0 ≡ (g x).0 → IsOption a c (g x).1 (h y).1 → IsFree (option_checks fs c (g x).1) → Looked items rest (out ++ y ∷ [])
  looked_next items rest out x y w e o f =
      let ps : map g (w.done ++ x ∷ []) ≡ map g w.done ++ g x ∷ [] = map-append g w.done (x ∷ []) in
      let ss : value_slots (map h (out ++ y ∷ [])) ≡ value_slots (map h out) ++ ((g x).0, option_slot (h y).1) ∷ [] =
      ap value_slots (map-append h out (y ∷ [])) ∙ map-append (λ p. (p.0, option_slot p.1)) (map h out) (h y ∷ []) ∙
      ap (λ (r : Role). value_slots (map h out) ++ (r, option_slot (h y).1) ∷ []) e in
      record {
        done = w.done ++ x ∷ [];
        all = append_assoc w.done (x ∷ []) rest ∙ w.all;
        slots = subst (λ qs. AreSlots a c qs (value_slots (map h (out ++ y ∷ [])))) (sym ps) (subst (AreSlots a c (map g w.done ++ g x ∷ [])) (sym ss) (are_slots_push a c (map g w.done) (value_slots (map h out)) (g x) (h y).1 w.slots o));
        free = subst (λ qs. IsFree (parts_checks fs c qs)) (sym ps) (free_push fs c (map g w.done) (g x) w.free f);
      }

  pub looked_caused : {M : Type 0} (items rest : List X) (out : List Y) (x : X) (offset : ℕ) (e : Error M) → Looked items (x ∷ rest) out → MemoryOrCausedBy (option_checks fs c (g x).1) offset e → MemoryOrCausedBy (parts_checks fs c (map g items)) offset e
  looked_caused items rest out x offset e w t =
      caused_more (option_checks fs c (g x).1) (parts_checks fs c (map g items)) offset e
      (λ k. subst (λ xs. Cause (parts_checks fs c (map g xs)) (error_kind e)) w.all
      (subst (λ qs. Cause (parts_checks fs c qs) (error_kind e)) (sym (map-append g w.done (x ∷ rest))) (cause_in fs c (map g w.done) (g x) (map g rest) (error_kind e) k))) t
