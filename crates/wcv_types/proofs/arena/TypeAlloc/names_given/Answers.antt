use Rattle.std.proofs.Common.{subst}
use Rattle.wcv_types.specs.Given.{AllNamesGiven}
use Rattle.wcv_types.proofs.Giving.{all_given}
use Rattle.wcv_types.proofs.arena.TypeAlloc.names_given.Goals as goal

pub returns : goal.returns
returns c = subst AllNamesGiven c.self.view_is (all_given _ c.self.invariant)
