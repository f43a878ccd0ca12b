use Rattle.std.proofs.Common.{◌∷◌, ◌∙◌, sym, ap, arith, drop, ◌-◌}
use Rattle.wcv_types.specs.Tree.{Text}
use Rattle.wcv_matching.proofs.ByName.{before_end, is_there, pair_joins}
use Rattle.wcv_matching.proofs.by_name.imports_by_pair.Goals as goal

pub loop-left-preserved-in_ok-insert : goal.loop-left-preserved-in_ok-insert
loop-left-preserved-in_ok-insert c = record {
  held = pair_joins c.loop-left.items c.insert.new.self (c.as_str.result, c.as_str-in-Some.result) _ (drop c.loop-left.left c.args.imports.now) (drop (c.loop-left.left - 1) c.args.imports.now) c.in_ok-insert.ensures.updates
      (before_end c.args.imports.now c.loop-left.left c.in-Some.entry.now (omega arith) c.in-Some.ensures ∙
      (ap (λ (t : Text). ((t, c.in-Some.entry.now.0.1), c.in-Some.entry.now.1) ∷ drop c.loop-left.left c.args.imports.now) (sym c.as_str.ensures) ∙
      ap (λ (t : Text). ((c.as_str.result.now, t), c.in-Some.entry.now.1) ∷ drop c.loop-left.left c.args.imports.now) (sym c.as_str-in-Some.ensures)))
      c.loop-left.invariant.held;
  within = omega arith;
}

pub loop-left-preserved : goal.loop-left-preserved
loop-left-preserved c = Prim.absurd (is_there c.args.imports.now (c.loop-left.left - 1) (omega arith) c.in_default.ensures)
