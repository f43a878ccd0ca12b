use Rattle.wcv_closed.specs.CoreModules.{IsServed}
use Rattle.wcv_matching.specs.CoreArguments.{argument_exports}
use Rattle.wcv_matching.specs.ModuleItems.{ItemsMatch}
use Rattle.wcv_matching.specs.Standings.{EachBefore}
use Rattle.wcv_matching.proofs.core_args.imports_served.Given as goal

abbrev pub invariant-loop-k : goal.invariant-loop-k
invariant-loop-k l = EachBefore (λ e. IsServed (ItemsMatch l.types.core) (argument_exports l.types l.args) e.0 e.1) l.imports l.k
