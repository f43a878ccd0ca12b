use Rattle.std.proofs.Common.{take, map}
use Rattle.wcv_core.specs.Label.{lower_case}
use Rattle.wcv_lower.specs.Checks.{IsFree, label_checks}
use Rattle.wcv_spaces.specs.Parts.{AreKeys}
use Rattle.wcv_spaces.specs.NameLists.{list_names}
use Rattle.wcv_decls.proofs.names.check_labels.Given as goal

abbrev pub invariant-loop-k : goal.invariant-loop-k
invariant-loop-k l = record {
  keys : AreKeys l.keys (map lower_case (take l.k (list_names l.list)));
  free : IsFree (label_checks (take l.k (list_names l.list)));
}
