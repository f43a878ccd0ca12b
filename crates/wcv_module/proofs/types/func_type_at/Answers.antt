use Rattle.wcv_module.proofs.Indices.{known_at}
use Rattle.wcv_module.proofs.types.func_type_at.Goals as goal

pub get-requires : goal.get-requires
get-requires c = known_at _ c.args.types.now c.args.index _ c.in_ok-id.ensures.ok c.requires

pub returns-clause-known : goal.returns-clause-known
returns-clause-known c = known_at _ c.args.types.now c.args.index _ c.in_ok-id.ensures.ok c.requires
