use Rattle.std.proofs.Common.{sym, ap, ◌∙◌, subst}
use Rattle.wcv_names.specs.Shapes.{ParamsStand, rest_of}
use Rattle.wcv_names.proofs.FuncTrees.{rest_params}
use Rattle.wcv_names.proofs.functions.taken.Goals as goal

pub first_type-requires-in-Method : goal.first_type-requires-in-Method
first_type-requires-in-Method c =
    subst (ParamsStand c.args.types.now) (sym (c.behind_first.ensures ∙ ap rest_of c.as_slice-params.ensures.value))
    (rest_params c.args.types.now c.args.func.now.params.items c.requires.params)
