use Rattle.std.proofs.Common.{◌≡◌, take, true}
use Rattle.std.specs.List.{list_all}
use Rattle.wcv_core.specs.Label.{is_label}
use Rattle.wcv_spaces.specs.NameLists.{list_names}
use Rattle.wcv_decls.proofs.alike.are_labels.Given as goal

abbrev pub invariant-loop-k : goal.invariant-loop-k
invariant-loop-k l = list_all is_label (take l.k (list_names l.list)) ≡ true
