use Rattle.wcv_types.specs.ShapeNumbers.{codes_in, Keeps, Numbered}
use Rattle.wcv_types.specs.Unfold.{trees}
use Rattle.wcv_types.proofs.NamedBySet.{value_rank}
use Rattle.wcv_types.proofs.ShapeCodes.{Written}
use Rattle.wcv_types.proofs.shape_numbers.+value_number.Given as goal

abbrev pub decreases-value_number : goal.decreases-value_number
decreases-value_number l = value_rank l.ty

abbrev pub invariant-loop-k : goal.invariant-loop-k
invariant-loop-k l = record {
  numbers : Numbered l.types.nodes l.numbers;
  keeps : Keeps (codes_in l.fn.numbers.codes) (codes_in l.numbers.codes);
  written : Written (codes_in l.numbers.codes) (trees l.types.nodes) l.shape l.k l.code;
}
