use Rattle.wcv_spaces.proofs.Uses.{set_used}
use Rattle.wcv_spaces.proofs.values.use_value.Goals as goal

pub returns-clause-marked : goal.returns-clause-marked
returns-clause-marked c = set_used c.args.values.now c.args.index c.in_ok-value.value c.in_ok-value.ensures.ok
