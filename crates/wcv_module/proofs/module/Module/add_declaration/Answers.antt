use Rattle.std.proofs.Common.{subst}
use Rattle.std.proofs.lemmas.Result.{err_from_is_err_and}
use Rattle.wcv_core.specs.Checks.{IsFree, MemoryOrCausedBy}
use Rattle.wcv_core.specs.CoreForm.{group_form}
use Rattle.wcv_core.specs.CoreGroups.{total}
use Rattle.wcv_syntax.specs.ModuleTypes.{group_joins}
use Rattle.wcv_core.proofs.Closing.{caused_same}
use Rattle.wcv_module.proofs.Declaring.{group_made, group_causes}
use Rattle.wcv_module.proofs.Growing.{alias_known}
use Rattle.wcv_module.proofs.module.Module.add_declaration.Goals as goal

pub returns-in_err-add_types-in-Ty-clause-cause : goal.returns-in_err-add_types-in-Ty-clause-cause
returns-in_err-add_types-in-Ty-clause-cause g c =
    let p = err_from_is_err_and c.from_residual.result c.from_residual.ensures.1 in
    rw p.1
    (subst (λ cs. MemoryOrCausedBy cs c.args.offset p.0) (group_causes (g.O.OuterTypes.spaces c.args.outers.now) c.args.types.now.core c.args.self.now c.in-Ty.rec c.args.decl c.in-Ty.is)
    (caused_same (group_joins c.args.types.now.core c.args.self.now (group_form c.in-Ty.rec)) c.args.offset c.in_err-add_types-in-Ty.field-0.0 p.0 p.2.0 p.2.1 c.in_err-add_types-in-Ty.ensures.cause))

pub returns-in_ok-add_types-in-Ty-clause-ok : goal.returns-in_ok-add_types-in-Ty-clause-ok
returns-in_ok-add_types-in-Ty-clause-ok g c =
    group_made (g.O.OuterTypes.spaces c.args.outers.now) c.args.types.now.core c.add_types.new.types.core c.args.self.now c.add_types.new.self c.in-Ty.rec c.args.decl c.in-Ty.is c.in_ok-add_types-in-Ty.ensures.ok

pub returns-in_ok-add_types-in-Ty-clause-free : goal.returns-in_ok-add_types-in-Ty-clause-free
returns-in_ok-add_types-in-Ty-clause-free g c =
    subst IsFree (group_causes (g.O.OuterTypes.spaces c.args.outers.now) c.args.types.now.core c.args.self.now c.in-Ty.rec c.args.decl c.in-Ty.is) c.in_ok-add_types-in-Ty.ensures.free

pub returns-in_ok-add_outer_alias-in-OuterAlias-clause-known : goal.returns-in_ok-add_outer_alias-in-OuterAlias-clause-known
returns-in_ok-add_outer_alias-in-OuterAlias-clause-known g c =
    alias_known c.add_outer_alias.result (total c.args.types.now.core) (g.O.OuterTypes.spaces c.args.outers.now) c.args.self.now c.add_outer_alias.new.self c.in-OuterAlias.count c.in-OuterAlias.index
    c.add_outer_alias.ensures.ok c.add_outer_alias.ensures.err c.requires.known c.requires.around
