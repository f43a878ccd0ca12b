use Rattle.wcv_text.proofs.Firsts.{place_within}
use Rattle.wcv_text.proofs.core_place.place.Goals as goal

pub returns-then-id-len-clause-within : goal.returns-then-id-len-clause-within
returns-then-id-len-clause-within c = place_within c.args.core.now c.args.id.index c.group_of.result.0.index c.group_of.result.1 c.group_of.ensures
