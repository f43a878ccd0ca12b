use Rattle.std.proofs.Common.{◌≡◌, drop}
use Rattle.wcv_lower.specs.CanonOptions.{first}
use Rattle.wcv_flat.specs.CodeRows.{name_of}
use Rattle.wcv_canon.specs.Options.{index_in}
use Rattle.wcv_canon.proofs.lists.first_index.Given as goal

abbrev pub invariant-loop-option : goal.invariant-loop-option
invariant-loop-option l = record {
  rest : first (index_in (name_of l.name)) l.options ≡ first (index_in (name_of l.name)) (drop l.option-index l.options);
}
