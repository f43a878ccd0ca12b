use Rattle.std.proofs.Common.{arith}
use Rattle.wcv_encode.proofs.Joins.{joins}
use Rattle.wcv_encode.proofs.Forms.{items_drop, items_end}
use Rattle.wcv_encode.proofs.component.+write_item.Goals as goal

pub write_component-returns-in_err-write_item : goal.write_component-returns-in_err-write_item
write_component-returns-in_err-write_item t c =
    let e = items_drop c.args.items.now c.loop-item.item-index c.item-item.result (omega arith) c.item-item.is in
    grind (arith, joins)

pub write_component-loop-item-preserved : goal.write_component-loop-item-preserved
write_component-loop-item-preserved t c =
    let e = items_drop c.args.items.now c.loop-item.item-index c.item-item.result (omega arith) c.item-item.is in
    grind (arith, joins)

pub write_component-returns : goal.write_component-returns
write_component-returns t c =
    let e = items_end c.args.items.now c.loop-item.item-index (omega arith) in
    grind (arith, joins)
