use Rattle.std.proofs.Common.{◌≡◌, Some}
use Rattle.wcv_types.specs.ShapeNumbers.{codes_in, shape_number}
use Rattle.wcv_types.specs.Unfold.{Type_tree, option_slot, slot_tree, trees}
use Rattle.wcv_types.proofs.ShapeCodes.{number_stays}
use Rattle.wcv_types.proofs.ShapeNumbers.{decides_same}
use Rattle.wcv_types.proofs.same_types.same_value.Goals as goal

pub returns-clause-same : goal.returns-clause-same
returns-clause-same c =
    let a : Type_tree = slot_tree (trees c.args.types.now.nodes) (option_slot c.args.a) in
    let b : Type_tree = slot_tree (trees c.args.types.now.nodes) (option_slot c.args.b) in
    let kept : shape_number (codes_in c.value_number-2.new.numbers.codes) a ≡ Some c.in_ok-x.x =
    number_stays (codes_in c.value_number.new.numbers.codes) (codes_in c.value_number-2.new.numbers.codes) c.in_ok-y.ensures.keeps a c.in_ok-x.x c.in_ok-x.ensures.number in
    decides_same (codes_in c.value_number-2.new.numbers.codes) c.in_ok-y.ensures.numbers.apart a b c.in_ok-x.x c.in_ok-y.y kept c.in_ok-y.ensures.number
