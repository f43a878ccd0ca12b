use Rattle.std.proofs.Common.{arith, sym, subst, ◌≤◌, ◌+◌}
use Rattle.wcv_encode.specs.Modules.{count_of}
use Rattle.wcv_encode.specs.declared.counts.Counts.{Counts}
use Rattle.wcv_encode.proofs.Joins.{joins}
use Rattle.wcv_encode.proofs.Exports.{exported_drop, exported_end, next_of, none_of}
use Rattle.wcv_encode.proofs.module.write_exports_from.Goals as goal

pub loop-decl-init : goal.loop-decl-init
loop-decl-init c = record {
  written = cc;
  few = λ k. subst (λ (x : Counts). count_of x k ≤ 0) (sym c.none-counts.ensures) (omega (arith, none_of k));
}

pub returns-in_err-write_export_at : goal.returns-in_err-write_export_at
returns-in_err-write_export_at c =
    let e = exported_drop c.loop-decl.counts c.args.decls.now c.loop-decl.decl-index c.decl-item.result (omega arith) c.decl-item.is in
    grind (arith, joins)

pub loop-decl-preserved : goal.loop-decl-preserved
loop-decl-preserved c = record {
  written =
      let e = exported_drop c.loop-decl.counts c.args.decls.now c.loop-decl.decl-index c.decl-item.result (omega arith) c.decl-item.is in
      grind (arith, joins);
  few = λ k. subst (λ (x : Counts). count_of x k ≤ c.loop-decl.decl-index + 1) (sym c.behind-counts.ensures) (next_of c.decl-item.result c.loop-decl.counts c.loop-decl.decl-index c.loop-decl.invariant.few k);
}

pub returns : goal.returns
returns c =
    let e = exported_end c.loop-decl.counts c.args.decls.now c.loop-decl.decl-index (omega arith) in
    grind (arith, joins)
