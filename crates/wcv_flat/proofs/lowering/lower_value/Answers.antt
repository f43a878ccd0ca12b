use Rattle.wcv_types.specs.Unfold.{option_slot, slot_tree, trees}
use Rattle.wcv_flat.specs.RowTypes.{taking}
use Rattle.wcv_flat.proofs.lowering.lower_value.Goals as goal

pub returns-clause-ok : goal.returns-clause-ok
returns-clause-ok c =
    c.lowered.ensures.ok (taking (slot_tree (trees c.args.types.now.nodes) (option_slot c.args.ty))) c.passed_value.ensures.params c.passed_value.ensures.gives
