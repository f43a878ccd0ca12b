use Rattle.std.proofs.Common.{◌-◌, arith}
use Rattle.wcv_binary.proofs.Deeper.{too_deep, one_deeper}
use Rattle.wcv_binary.proofs.component.+components.Goals as goal

pub read_nested-returns-then-depth-eq0 : goal.read_nested-returns-then-depth-eq0
read_nested-returns-then-depth-eq0 t c = rw c.saturating_sub.ensures (too_deep c.args.depth c.args.end c.args.room c.args.bytes.now (omega arith))

pub read_nested-returns : goal.read_nested-returns
read_nested-returns t c = rw (one_deeper c.args.depth (c.args.depth - 1) c.args.end c.args.room c.args.bytes.now (omega arith)) c.read_component.ensures
