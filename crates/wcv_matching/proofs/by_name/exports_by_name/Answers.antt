use Rattle.std.proofs.Common.{◌∷◌, ◌∙◌, sym, ap, arith, drop, ◌-◌}
use Rattle.wcv_types.specs.Tree.{Text}
use Rattle.wcv_matching.proofs.ByName.{before_end, is_there, name_joins}
use Rattle.wcv_matching.proofs.by_name.exports_by_name.Goals as goal

pub loop-left-preserved-in_ok-insert : goal.loop-left-preserved-in_ok-insert
loop-left-preserved-in_ok-insert c = record {
  held = name_joins c.loop-left.items c.insert.new.self c.as_str.result _ (drop c.loop-left.left c.args.exports.now) (drop (c.loop-left.left - 1) c.args.exports.now) c.in_ok-insert.ensures.updates
      (before_end c.args.exports.now c.loop-left.left c.in-Some.entry.now (omega arith) c.in-Some.ensures ∙ ap (λ (t : Text). (t, c.in-Some.entry.now.1) ∷ drop c.loop-left.left c.args.exports.now) (sym c.as_str.ensures))
      c.loop-left.invariant.held;
  within = omega arith;
}

pub loop-left-preserved : goal.loop-left-preserved
loop-left-preserved c = Prim.absurd (is_there c.args.exports.now (c.loop-left.left - 1) (omega arith) c.in_default.ensures)
