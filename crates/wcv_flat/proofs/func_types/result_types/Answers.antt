use Rattle.std.proofs.Common.{take, sym, ◌∙◌, ap}
use Rattle.wcv_types.specs.Tree.{here}
use Rattle.wcv_types.specs.Unfold.{option_slot}
use Rattle.wcv_types.proofs.Knowing.{given_result}
use Rattle.wcv_flat.proofs.Signing.{result_alone}
use Rattle.wcv_flat.proofs.func_types.result_types.Goals as goal

pub flat_types-requires : goal.flat_types-requires
flat_types-requires c = given_result c.args.types.now c.args.ty.now.params.items (here, option_slot c.args.ty.now.result) c.requires

pub returns : goal.returns
returns c = c.flat_types.ensures ∙ ap (take 17) (sym (result_alone c.args.types.now c.args.ty.now))
