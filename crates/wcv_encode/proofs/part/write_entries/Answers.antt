use Rattle.std.proofs.Common.{arith}
use Rattle.wcv_encode.proofs.Joins.{joins}
use Rattle.wcv_encode.proofs.Parts.{added_drop, added_end}
use Rattle.wcv_encode.proofs.part.write_entries.Goals as goal

pub returns-in_err-write_entry : goal.returns-in_err-write_entry
returns-in_err-write_entry c =
    let e = added_drop c.args.part c.args.decls.now c.loop-decl.decl-index c.decl-item.result (omega arith) c.decl-item.is in
    grind (arith, joins)

pub loop-decl-preserved : goal.loop-decl-preserved
loop-decl-preserved c =
    let e = added_drop c.args.part c.args.decls.now c.loop-decl.decl-index c.decl-item.result (omega arith) c.decl-item.is in
    grind (arith, joins)

pub returns : goal.returns
returns c =
    let e = added_end c.args.part c.args.decls.now c.loop-decl.decl-index (omega arith) in
    grind (arith, joins)
