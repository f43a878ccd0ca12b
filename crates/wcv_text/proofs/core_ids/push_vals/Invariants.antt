use Rattle.std.proofs.Common.{◌≡◌, ◌++◌, drop}
use Rattle.wcv_core.specs.CoreIds.{all_ids, val_ids}
use Rattle.wcv_text.proofs.core_ids.push_vals.Given as goal

abbrev pub invariant-loop-ty : goal.invariant-loop-ty
invariant-loop-ty l = l.ids ++ all_ids val_ids (drop l.ty-index l.types) ≡ l.initial.ids ++ all_ids val_ids l.types
