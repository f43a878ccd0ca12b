use Rattle.std.proofs.Common.{take, map}
use Rattle.wcv_core.specs.Checks.{IsFree, all_checks}
use Rattle.wcv_syntax.specs.ModuleTypes.{decl_left}
use Rattle.wcv_module.proofs.limits.check_each.Given as goal

abbrev pub invariant-loop-decl : goal.invariant-loop-decl
invariant-loop-decl g l = record {
  free : IsFree (all_checks decl_left (take l.decl-index (map g.D.ModuleDeclaration.form l.decls)));
}
