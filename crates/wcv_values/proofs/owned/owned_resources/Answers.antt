use Rattle.wcv_values.proofs.IdPasses.{owned_none}
use Rattle.wcv_values.proofs.owned.owned_resources.Goals as goal

pub returns-in_default : goal.returns-in_default
returns-in_default c = owned_none c.args.types.now c.args.id c.requires c.in_default.not-Instance
