use Rattle.std.proofs.Common.{arith}
use Rattle.std.proofs.lemmas.Bool.Decides.{nat_tests}
use Rattle.wcv_encode.proofs.Exports.{ordered_drop, ordered_end}
use Rattle.wcv_encode.proofs.module.are_ordered.Goals as goal

pub returns-then-rank-least : goal.returns-then-rank-least
returns-then-rank-least c =
    let e = ordered_drop c.loop-decl.least c.args.decls.now c.loop-decl.decl-index c.decl-item.result (omega arith) c.decl-item.is in
    grind (arith, nat_tests)

pub loop-decl-preserved : goal.loop-decl-preserved
loop-decl-preserved c =
    let e = ordered_drop c.loop-decl.least c.args.decls.now c.loop-decl.decl-index c.decl-item.result (omega arith) c.decl-item.is in
    grind (arith, nat_tests)

pub returns : goal.returns
returns c =
    let e = ordered_end c.loop-decl.least c.args.decls.now c.loop-decl.decl-index (omega arith) in
    grind (arith, nat_tests)
