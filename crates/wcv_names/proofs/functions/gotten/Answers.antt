use Rattle.std.proofs.Common.{sym, ◌∙◌}
use Rattle.wcv_names.proofs.FuncTrees.{entity_func}
use Rattle.wcv_names.proofs.functions.gotten.Goals as goal

pub func_of-func-requires : goal.func_of-func-requires
func_of-func-requires c = entity_func c.args.types.now c.args.ty.now c.in-Some.id c.requires (sym c.func_part.ensures ∙ c.in-Some.is)
