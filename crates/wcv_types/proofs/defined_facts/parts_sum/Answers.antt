use Rattle.std.proofs.Common.{rules, ◌≡◌, ◌≤◌, ◌+◌, ℕ, List, [], ◌∷◌, ◌++◌, length, take, refl, sym, ◌∙◌, ap, subst, add-one, Some, true}
use Rattle.std.specs.Prelude.{slice_get}
use Rattle.wcv_types.specs.Sums.{IsSumOf}
use Rattle.wcv_types.specs.Tree.{Role, here}
use Rattle.wcv_types.specs.Unfold.{Type_tree, Slot, at, Slots, option_slot, value_parts, defined_slots, handles, slot_parts, trees}
use Rattle.wcv_types.specs.declared.ids.Part.TheVariants as p
use Rattle.wcv_types.proofs.Forming.{sum_align, slots_of_values}
use Rattle.wcv_types.proofs.Knowing.{take-next, slot_stands_at, slot_at, all_slots, handle_slot}
use Rattle.wcv_types.proofs.defined_facts.parts_sum.Goals as goal

pub returns-then-is_handle-clause-sum : goal.returns-then-is_handle-clause-sum
returns-then-is_handle-clause-sum c =
    let h : handles c.args.shape.now ≡ true = search rules in
    let w = handle_slot c.args.shape.now h in
    subst (λ (ss : Slots). IsSumOf c.add.new.self (slot_parts (trees c.args.types.now.nodes) ss)) (sym w.1)
    (c.add.ensures (trees c.args.types.now.nodes) [] (here, at (p.Resource w.0)) c.new-sum.ensures (c.reference_facts.ensures.facts w.0) refl)

pub returns-then-is_handle-clause-parts : goal.returns-then-is_handle-clause-parts
returns-then-is_handle-clause-parts c = sum_align c.add.new.self _ (returns-then-is_handle-clause-sum c)

pub value_facts-requires : goal.value_facts-requires
value_facts-requires c =
    let w = slot_at c.args.shape.now c.loop-k.k c.value_at.result c.value_at.ensures in
    slot_stands_at c.args.types.now (defined_slots c.args.shape.now) c.loop-k.k (w.0, option_slot c.value_at.result) c.requires
    (ap (λ (ss : Slots). slice_get ss c.loop-k.k) (slots_of_values c.args.shape.now c.loop-k.invariant.1) ∙ w.1)

pub loop-k-preserved : goal.loop-k-preserved
loop-k-preserved c =
    let ts : List Type_tree = trees c.args.types.now.nodes in
    let ss : Slots = defined_slots c.args.shape.now in
    let w = slot_at c.args.shape.now c.loop-k.k c.value_at.result c.value_at.ensures in
    let x : Role × Slot = (w.0, option_slot c.value_at.result) in
    let found : slice_get ss c.loop-k.k ≡ Some x = ap (λ (rs : Slots). slice_get rs c.loop-k.k) (slots_of_values c.args.shape.now c.loop-k.invariant.1) ∙ w.1 in
    let next : take (c.loop-k.k + 1) ss ≡ take c.loop-k.k ss ++ x ∷ [] = ap (λ (j : ℕ). take j ss) (add-one c.loop-k.k) ∙ take-next ss c.loop-k.k x found in (
      subst (λ (rs : Slots). IsSumOf c.add-in-loop-k.new.self (slot_parts ts rs)) (sym next)
          (c.add-in-loop-k.ensures ts (take c.loop-k.k ss) x c.loop-k.invariant.0 c.value_facts.ensures.facts c.value_facts.ensures.plain),
      c.loop-k.invariant.1,
    )

pub returns-clause-sum : goal.returns-clause-sum
returns-clause-sum c =
    let h : length (value_parts c.args.shape.now) ≤ c.loop-k.k = search rules in
    subst (λ (ss : Slots). IsSumOf c.loop-k.sum (slot_parts (trees c.args.types.now.nodes) ss)) (all_slots c.args.shape.now c.loop-k.k c.loop-k.invariant.1 h) c.loop-k.invariant.0

pub returns-clause-parts : goal.returns-clause-parts
returns-clause-parts c = sum_align c.loop-k.sum _ (returns-clause-sum c)
