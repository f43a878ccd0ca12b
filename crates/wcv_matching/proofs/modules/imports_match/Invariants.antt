use Rattle.wcv_closed.specs.CoreModules.{same_pair}
use Rattle.wcv_closed.specs.Found.{Found}
use Rattle.wcv_matching.specs.ModuleItems.{ItemsMatch}
use Rattle.wcv_matching.specs.Standings.{EachBefore}
use Rattle.wcv_matching.proofs.modules.imports_match.Given as goal

abbrev pub invariant-loop-k : goal.invariant-loop-k
invariant-loop-k l = EachBefore (λ e. Found same_pair (ItemsMatch l.types.core) l.b e.0 e.1) l.a l.k
