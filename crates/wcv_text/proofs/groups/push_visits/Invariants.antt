use Rattle.std.proofs.Common.{◌≡◌, suc, sum_by, ◌+◌, ◌-◌, List, drop, length}
use Rattle.wcv_core.specs.CoreForm.{Group}
use Rattle.wcv_types.specs.Text.{Written, write_groups}
use Rattle.wcv_text.specs.Groups.{all_done, visit_steps, all_steps}
use Rattle.wcv_text.proofs.groups.push_visits.Given as goal

abbrev pub invariant-loop-k : goal.invariant-loop-k
invariant-loop-k l = record {
  done : (w : Written) → all_done l.steps.items w ≡ all_done l.initial.steps.items (write_groups w (drop (length l.ids - l.k) l.ids));
  count : (gs : List Group) → all_steps gs l.steps.items ≡ all_steps gs l.initial.steps.items + sum_by (λ i. visit_steps (suc i) gs i) (drop (length l.ids - l.k) l.ids);
}
