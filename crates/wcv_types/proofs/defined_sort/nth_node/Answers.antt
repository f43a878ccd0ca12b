use Rattle.std.proofs.Common.{◌≡◌, ◌+◌, ◌-◌, ℕ, zero, suc, List, ◌++◌, drop, refl, sym, ◌∙◌, ap, Some, arith}
use Rattle.std.specs.Prelude.{Option, slice_get, option_to_list}
use Rattle.wcv_types.specs.Unfold.{parts_in, value_parts, value_slots}
use Rattle.wcv_types.specs.declared.ids.Part.{Part}
use Rattle.wcv_types.proofs.Knowing.{next_part}
use Rattle.wcv_types.proofs.defined_sort.nth_node.Goals as goal
use Rattle.wcv_types.proofs.defined_sort.nth_node.Goals.{in-Some+else-left-eq0, in_default}

found : (o : Option Part) (q : Part) (rest : List Part) (left : ℕ) → o ≡ Some q → left ≡ 0 → slice_get (option_to_list o ++ rest) left ≡ Some q
found o q rest left e z = (λ j. slice_get (option_to_list (e j) ++ rest) (z j))

later : (o : Option Part) (q : Part) (rest : List Part) (left : ℕ) → o ≡ Some q → (left ≡ 0 → ⊥) → slice_get (option_to_list o ++ rest) left ≡ slice_get rest (left - 1)
later o q rest left e n = ap (λ (x : Option Part). slice_get (option_to_list x ++ rest) left) e ∙ go left n
  where
    go : (k : ℕ) → (k ≡ 0 → ⊥) → slice_get (option_to_list (Some q) ++ rest) k ≡ slice_get rest (k - 1)
    go zero h = absurd (h refl)
    go (suc k) h = ap (slice_get rest) (omega arith)

pub returns-then-left-eq0 : goal.returns-then-left-eq0
returns-then-left-eq0 c =
    let rest : List Part = parts_in (drop (c.loop-at.at + 1) (value_slots (value_parts c.args.shape.now))) in
    sym (c.loop-at.invariant ∙ ap (λ (qs : List Part). slice_get qs c.loop-at.left) (next_part c.args.shape.now c.loop-at.at c.value_at.result c.option_part.result c.value_at.ensures c.option_part.ensures) ∙
    found c.option_part.result c.in-Some.part rest c.loop-at.left c.in-Some.is c.if-left-eq0.true)

pub loop-at-preserved : goal.loop-at-preserved
loop-at-preserved c =
    let rest : List Part = parts_in (drop (c.loop-at.at + 1) (value_slots (value_parts c.args.shape.now))) in
    let all : slice_get (parts_in (value_slots (value_parts c.args.shape.now))) c.args.k ≡ slice_get (option_to_list c.option_part.result ++ rest) c.loop-at.left =
    c.loop-at.invariant ∙ ap (λ (qs : List Part). slice_get qs c.loop-at.left) (next_part c.args.shape.now c.loop-at.at c.value_at.result c.option_part.result c.value_at.ensures c.option_part.ensures) in
    elim c.match-option_part.branch [
      | in-Some+else-left-eq0 w ↦ all ∙ later c.option_part.result w.in-Some.part rest c.loop-at.left w.in-Some.is w.if-left-eq0.false ∙ ap (slice_get rest) (sym w.left-is)
      | in_default w ↦ all ∙ ap (λ (x : Option Part). slice_get (option_to_list x ++ rest) c.loop-at.left) w.in_default.is ∙ ap (slice_get rest) (sym w.left-is)
    ]
