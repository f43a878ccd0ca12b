use Rattle.std.proofs.Common.{◌≡◌, map, Some, subst}
use Rattle.wcv_core.specs.Checks.{IsFree, MemoryOrCausedBy}
use Rattle.wcv_syntax.specs.ModuleTypes.{Module_type, all_declared, module_checks}
use Rattle.wcv_types.proofs.Grown.{keeps_trees}
use Rattle.wcv_module.proofs.Declaring.{empty_known, empty_counted}
use Rattle.wcv_module.proofs.module.Module.declare.Goals as goal

pub add_declarations-requires : goal.add_declarations-requires
add_declarations-requires g c = record {
  known = empty_known c.args.types.now.core c.args.features c.new-made.result c.new-made.ensures;
  around = c.requires.around;
  counted = empty_counted c.args.types.now.core c.args.features c.new-made.result c.new-made.ensures;
}

pub returns-in-Ok-clause-ok : goal.returns-in-Ok-clause-ok
returns-in-Ok-clause-ok g c =
    subst (λ (m : Module_type). all_declared (g.O.OuterTypes.spaces c.args.outers.now) c.args.types.now.core m (map g.D.ModuleDeclaration.form c.args.decls.items) ≡ Some (c.add_declarations.new.types.core, c.add_declarations.new.self)) c.new-made.ensures c.in-Ok.ensures.ok

pub returns-in-Ok-clause-free : goal.returns-in-Ok-clause-free
returns-in-Ok-clause-free g c =
    subst (λ (m : Module_type). IsFree (module_checks (g.O.OuterTypes.spaces c.args.outers.now) c.args.types.now.core m (map g.D.ModuleDeclaration.form c.args.decls.items))) c.new-made.ensures c.in-Ok.ensures.free

pub returns-in-Err-clause-cause : goal.returns-in-Err-clause-cause
returns-in-Err-clause-cause g c =
    subst (λ (m : Module_type). MemoryOrCausedBy (module_checks (g.O.OuterTypes.spaces c.args.outers.now) c.args.types.now.core m (map g.D.ModuleDeclaration.form c.args.decls.items)) c.args.offset c.in-Err.err) c.new-made.ensures c.in-Err.ensures.cause

pub returns-in-Ok-clause-stay : goal.returns-in-Ok-clause-stay
returns-in-Ok-clause-stay g c = keeps_trees c.args.types.now c.add_declarations.new.types c.add_declarations.ensures.grown

pub returns-in-Err-clause-stay : goal.returns-in-Err-clause-stay
returns-in-Err-clause-stay g c = keeps_trees c.args.types.now c.add_declarations.new.types c.add_declarations.ensures.grown
