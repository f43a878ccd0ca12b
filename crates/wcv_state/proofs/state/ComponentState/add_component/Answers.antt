use Rattle.std.proofs.Common.{subst, sym}
use Rattle.wcv_types.specs.Standing.{Extends}
use Rattle.wcv_types.proofs.Grown.{extends_refl}
use Rattle.wcv_state.proofs.state.ComponentState.add_component.Goals as goal

pub returns-in-Err-clause-grown : goal.returns-in-Err-clause-grown
returns-in-Err-clause-grown c = subst (Extends c.args.types.now) (sym c.in-Err.ensures.err) (extends_refl c.args.types.now)
