use Rattle.std.proofs.Common.{◌≡◌, take, false}
use Rattle.wcv_types.specs.ByName.{texts_in}
use Rattle.wcv_lower.specs.Checks.{has_repeat}
use Rattle.wcv_instances.proofs.core_instances.check_differ.Given as goal

abbrev pub invariant-loop-k : goal.invariant-loop-k
invariant-loop-k g l = record {
  seen : l.seen ≡ take l.k (texts_in l.entries);
  apart : has_repeat (take l.k (texts_in l.entries)) ≡ false;
}
