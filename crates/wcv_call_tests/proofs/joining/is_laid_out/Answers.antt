use Rattle.wcv_lower.specs.Context.{in_types}
use Rattle.wcv_types.specs.declared.ids.ComponentAnyTypeId.TheVariants as any
use Rattle.wcv_spaces.proofs.Found.{stands_at}
use Rattle.wcv_call_tests.proofs.joining.is_laid_out.Goals as goal

pub abi_info-requires : goal.abi_info-requires
abi_info-requires c = (stands_at c.args.types.now c.args.state.now c.requires.stands in_types c.last_index.result (any.Defined c.in-Ok.id) c.in-Ok.ensures.ok).0

pub is_free-requires : goal.is_free-requires
is_free-requires c = (stands_at c.args.types.now c.args.state.now c.requires.stands in_types c.last_index.result (any.Defined c.in-Ok.id) c.in-Ok.ensures.ok).0
