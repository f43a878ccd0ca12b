use Rattle.wcv_world.proofs.ToTypes.{growth-over, type-over, token-over}
use Rattle.wcv_world.proofs.laws.values_grow_as_their_types.Goals as goal

pub returns-clause-items : goal.returns-clause-items
returns-clause-items c fs names p s f = growth-over names p fs s f

pub returns-clause-types : goal.returns-clause-types
returns-clause-types c fs names p s t = type-over names fs p s t

pub returns-clause-resource : goal.returns-clause-resource
returns-clause-resource c fs names r p s rep dtor = token-over names p r fs s rep dtor
