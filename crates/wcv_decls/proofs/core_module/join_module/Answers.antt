use Rattle.std.proofs.Common.{refl, subst, sym, true}
use Rattle.std.proofs.lemmas.Result.{err_from_is_err_and}
use Rattle.wcv_spaces.specs.Contents.{Contents}
use Rattle.wcv_spaces.specs.Promises.{Keeps}
use Rattle.wcv_spaces.proofs.Keeping.{keeps_marked_in, keeps_grown_marked}
use Rattle.wcv_decls.specs.CoreItems.{JoinedModule, core_space}
use Rattle.wcv_decls.proofs.CoreModules.{module_joined, module_joins_with}
use Rattle.wcv_decls.proofs.core_module.join_module.Goals as goal

pub returns-in_err-push_module-in-Ok-clause-keeps : goal.returns-in_err-push_module-in-Ok-clause-keeps
returns-in_err-push_module-in-Ok-clause-keeps c =
    let p = err_from_is_err_and c.from_residual.result c.from_residual.ensures.1 in
    let s : Contents = c.args.state.now in
    subst (λ (z : Contents). Keeps c.args.types.now c.store_module.new.types s z) (sym c.in_err-push_module-in-Ok.ensures.err)
    (keeps_grown_marked c.args.types.now c.store_module.new.types s s true c.in-Ok.ensures.ok.arena refl c.requires.stands)

pub returns-in_ok-push_module-in-Ok-clause-ok : goal.returns-in_ok-push_module-in-Ok-clause-ok
returns-in_ok-push_module-in-Ok-clause-ok c =
    module_joined c.args.space c.args.types.now c.store_module.new.types c.args.state.now c.push_module.new.state c.args.made c.in-Ok.id c.requires.stands c.requires.live c.in-Ok.ensures.ok c.in_ok-push_module-in-Ok.ensures.ok

pub returns-in_ok-push_module-in-Ok-clause-types : goal.returns-in_ok-push_module-in-Ok-clause-types
returns-in_ok-push_module-in-Ok-clause-types c =
    module_joins_with c.args.space c.args.types.now c.store_module.new.types c.args.state.now c.push_module.new.state c.args.made c.in-Ok.id c.in-Ok.ensures.ok c.in_ok-push_module-in-Ok.ensures.ok

pub returns-in_ok-push_module-in-Ok-clause-keeps : goal.returns-in_ok-push_module-in-Ok-clause-keeps
returns-in_ok-push_module-in-Ok-clause-keeps c =
    let w : JoinedModule (core_space c.args.space) c.args.types.now c.store_module.new.types c.args.state.now c.push_module.new.state c.args.made =
    module_joined c.args.space c.args.types.now c.store_module.new.types c.args.state.now c.push_module.new.state c.args.made c.in-Ok.id c.requires.stands c.requires.live c.in-Ok.ensures.ok c.in_ok-push_module-in-Ok.ensures.ok in
    w.keeps

pub returns-in-Err-clause-keeps : goal.returns-in-Err-clause-keeps
returns-in-Err-clause-keeps c =
    let s : Contents = c.args.state.now in
    subst (λ (z : Contents). Keeps c.args.types.now c.store_module.new.types s z) (sym c.mark_spent.ensures)
    (keeps_marked_in c.args.types.now c.store_module.new.types s s true c.in-Err.ensures.err refl c.requires.stands)
