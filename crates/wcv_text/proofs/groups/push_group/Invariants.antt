use Rattle.std.proofs.Common.{◌≡◌, ◌∷◌, [], string_bytes}
use Rattle.wcv_types.specs.Text.{Written, write_groups}
use Rattle.wcv_types.specs.Tree.{Text}
use Rattle.wcv_text.specs.Groups.{all_done, all_steps}
use Rattle.wcv_text.specs.Numbers.{Shows}
use Rattle.wcv_text.proofs.groups.push_group.Given as goal

-- what was written, with what is left to be done, is what is to be written
abbrev pub invariant-loop-step : goal.invariant-loop-step
invariant-loop-step l = record {
  goes : (before : Text × Text) (w : Written) → Shows l.initial.numbers before (string_bytes l.initial.text) w →
      (v : Written) × Shows l.numbers before (string_bytes l.text) v × (all_done l.steps.items v ≡ write_groups w (l.fn.id.index ∷ []));
  core : l.numbers.core ≡ l.initial.numbers.core;
}

abbrev pub decreases-loop-step : goal.decreases-loop-step
decreases-loop-step l = all_steps l.numbers.core.now l.steps.items
