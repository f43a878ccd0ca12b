use Rattle.wcv_types.proofs.ShapeNumbers.{same_numbers}
use Rattle.wcv_types.proofs.equal_numbers_are_equal_shapes.Goals as goal

pub returns : goal.returns
returns c m s t a b w e f = same_numbers m w s t a b e f
