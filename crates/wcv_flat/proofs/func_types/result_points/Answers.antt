use Rattle.std.proofs.Common.{sym, ◌∙◌}
use Rattle.wcv_types.specs.Tree.{here}
use Rattle.wcv_types.specs.Unfold.{option_slot}
use Rattle.wcv_types.proofs.Knowing.{given_result}
use Rattle.wcv_flat.proofs.Signing.{result_has}
use Rattle.wcv_flat.proofs.func_types.result_points.Goals as goal

pub value_points-requires : goal.value_points-requires
value_points-requires c = given_result c.args.types.now c.args.ty.now.params.items (here, option_slot c.args.ty.now.result) c.requires

pub returns : goal.returns
returns c = c.value_points.ensures ∙ sym (result_has c.args.types.now c.args.ty.now)
