use Rattle.std.proofs.Common.{arith}
use Rattle.wcv_encode.proofs.Joins.{joins}
use Rattle.wcv_encode.proofs.Lists.{each_drop, each_end}
use Rattle.wcv_encode.proofs.list.write_each.Goals as goal

pub returns-in_err-write : goal.returns-in_err-write
returns-in_err-write g c =
    let e = each_drop g.T.ToBytes.spelled c.args.items.now c.loop-item.item-index c.item-item.result (omega arith) c.item-item.is in
    grind (arith, joins)

pub loop-item-preserved : goal.loop-item-preserved
loop-item-preserved g c =
    let e = each_drop g.T.ToBytes.spelled c.args.items.now c.loop-item.item-index c.item-item.result (omega arith) c.item-item.is in
    grind (arith, joins)

pub returns : goal.returns
returns g c =
    let e = each_end g.T.ToBytes.spelled c.args.items.now c.loop-item.item-index (omega arith) in
    grind (arith, joins)
