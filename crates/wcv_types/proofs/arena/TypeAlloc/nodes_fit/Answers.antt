use Rattle.std.proofs.Common.{subst}
use Rattle.wcv_types.specs.Standing.{AllFit}
use Rattle.wcv_types.proofs.AddedAgain.{fits_again}
use Rattle.wcv_types.proofs.arena.TypeAlloc.nodes_fit.Goals as goal

pub returns-clause-all : goal.returns-clause-all
returns-clause-all c = subst AllFit c.self.view_is c.self.invariant

pub returns-clause-again : goal.returns-clause-again
returns-clause-again c k x h = fits_again c.args.self.now k x (subst AllFit c.self.view_is c.self.invariant) h
