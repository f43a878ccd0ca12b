use Rattle.std.proofs.Common.{◌≡◌, drop}
use Rattle.wcv_lower.specs.CanonOptions.{first, encoding_in}
use Rattle.wcv_canon.proofs.lists.first_encoding.Given as goal

abbrev pub invariant-loop-option : goal.invariant-loop-option
invariant-loop-option l = record {
  rest : first encoding_in l.options ≡ first encoding_in (drop l.option-index l.options);
}
