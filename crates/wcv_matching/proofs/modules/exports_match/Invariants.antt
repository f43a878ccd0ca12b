use Rattle.std.proofs.Common.{bytes_eq}
use Rattle.wcv_closed.specs.Found.{Found}
use Rattle.wcv_matching.specs.ModuleItems.{ItemsMatch}
use Rattle.wcv_matching.specs.Standings.{EachBefore}
use Rattle.wcv_matching.proofs.modules.exports_match.Given as goal

abbrev pub invariant-loop-k : goal.invariant-loop-k
invariant-loop-k l = EachBefore (λ e. Found bytes_eq (ItemsMatch l.types.core) l.a e.0 e.1) l.b l.k
