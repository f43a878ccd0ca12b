use Rattle.std.proofs.Common.{◌≡◌, drop}
use Rattle.wcv_types.specs.ByName.{texts_in}
use Rattle.wcv_types.proofs.by_name.have_names.Given as goal

-- those before have the same texts
abbrev pub invariant-loop-k : goal.invariant-loop-k
invariant-loop-k g l = texts_in (drop l.k l.pairs) ≡ texts_in (drop l.k l.others) → texts_in l.pairs ≡ texts_in l.others
