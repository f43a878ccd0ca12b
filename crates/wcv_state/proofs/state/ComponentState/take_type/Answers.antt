use Rattle.std.proofs.Common.{ap, refl}
use Rattle.wcv_spaces.specs.Contents.{spent}
use Rattle.wcv_state.proofs.Finishing.{finish_is, names_apart}
use Rattle.wcv_state.proofs.state.ComponentState.take_type.Goals as goal

pub returns-in-Err-clause-err : goal.returns-in-Err-clause-err
returns-in-Err-clause-err c = (refl, c.in-Err.ensures.err)

pub returns-in-Err-clause-left : goal.returns-in-Err-clause-left
returns-in-Err-clause-left c = ap spent c.self.view_is

pub returns-clause-ok : goal.returns-clause-ok
returns-clause-ok c = finish_is c.args.types.now c.args.self.now c.moved_type.result c.in-Ok.paths c.requires.stands (names_apart c.self.inside c.args.self.now c.self.view_is c.self.invariant c.requires.live) c.in-Ok.ensures.ok c.moved_type.ensures.ok
