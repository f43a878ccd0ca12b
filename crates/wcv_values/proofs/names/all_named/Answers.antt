use Rattle.std.proofs.Common.{arith, sym, bytes_eq, is_some}
use Rattle.std.specs.Map.{lookup}
use Rattle.wcv_types.specs.Tree.{Text}
use Rattle.wcv_types.specs.declared.item_map.ComponentItem.{ComponentItem}
use Rattle.wcv_matching.proofs.Entries.{not_past}
use Rattle.wcv_atoms.proofs.Walking.{each_holds, one_does_not, there_told}
use Rattle.wcv_values.proofs.names.all_named.Goals as goal
use Rattle.wcv_values.proofs.names.all_named.Goals.{in-Some+else-is_none, in_default}

pub returns-then-is_none : goal.returns-then-is_none
returns-then-is_none c = one_does_not (λ (e : Text × ComponentItem). is_some (lookup (bytes_eq e.0) c.args.b.now)) c.args.a.now c.loop-k.k c.in-Some.entry.now (sym c.in-Some.ensures) c.loop-k.invariant
    (there_told c.get.result (lookup (bytes_eq c.in-Some.entry.now.0) c.args.b.now) c.get.ensures c.if-is_none.ensures)

pub loop-k-preserved : goal.loop-k-preserved
loop-k-preserved c = elim c.match-get_index.branch [
  | in-Some+else-is_none w ↦ each_holds (λ (e : Text × ComponentItem). is_some (lookup (bytes_eq e.0) c.args.b.now)) c.args.a.now c.loop-k.k w.in-Some.entry.now (sym w.in-Some.ensures) c.loop-k.invariant
      (there_told w.get.result (lookup (bytes_eq w.in-Some.entry.now.0) c.args.b.now) w.get.ensures w.if-is_none.ensures)
  | in_default w ↦ not_past c.args.a.now c.loop-k.k (omega arith) w.in_default.ensures
]
