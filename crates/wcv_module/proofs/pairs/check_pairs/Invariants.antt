use Rattle.std.proofs.Common.{◌≡◌, false, take}
use Rattle.wcv_syntax.specs.Model.{Text}
use Rattle.wcv_syntax.specs.ModuleTypes.{is_pair_among, import_pairs, pairs_repeat}
use Rattle.wcv_module.proofs.pairs.check_pairs.Given as goal

abbrev pub invariant-loop-import : goal.invariant-loop-import
invariant-loop-import l = record {
  seen : (p : Text × Text) → is_pair_among p l.seen ≡ is_pair_among p (take l.import-index (import_pairs l.imports));
  none : pairs_repeat (take l.import-index (import_pairs l.imports)) ≡ false;
}
