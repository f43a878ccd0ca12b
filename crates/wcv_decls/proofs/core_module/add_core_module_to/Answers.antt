use Rattle.std.proofs.Common.{[], ap, map, refl, subst, sym, ◌∙◌, true, inl}
use Rattle.wcv_syntax.specs.ModuleTypes.{empty_module}
use Rattle.wcv_syntax.specs.View.{code_decl_view}
use Rattle.wcv_lower.specs.Context.{core_modules}
use Rattle.wcv_lower.specs.CoreItems.{module_made}
use Rattle.wcv_lower.proofs.ModulesMade.{made_same}
use Rattle.wcv_spaces.specs.Contents.{Contents}
use Rattle.wcv_spaces.specs.Promises.{Keeps}
use Rattle.wcv_spaces.proofs.Keeping.{state_stands, keeps_grown_marked}
use Rattle.wcv_decls.proofs.CoreModules.{core_module_grew, core_module_refused, joins_made}
use Rattle.wcv_decls.proofs.core_module.add_core_module_to.Goals as goal

pub join_module-requires-clause-stands : goal.join_module-requires-clause-stands
join_module-requires-clause-stands c = state_stands c.args.types.now c.declare_module.new.types c.in-Ok.ensures.grown c.args.state.now c.requires.stands

pub returns-in-Ok-join_module-clause-ok : goal.returns-in-Ok-join_module-clause-ok
returns-in-Ok-join_module-clause-ok c =
    core_module_grew c.args.types.now c.declare_module.new.types c.join_module.new.types c.args.state.now c.join_module.new.state c.in-Ok.made c.requires.stands c.in-Ok.ensures.rest c.in-Ok.ensures.grown c.in-Ok-join_module.ensures.ok
    (map code_decl_view c.args.decls.items) c.in-Ok.ensures.ok c.in-Ok.ensures.free

pub returns-in-Ok-join_module-clause-types : goal.returns-in-Ok-join_module-clause-types
returns-in-Ok-join_module-clause-types c =
    let a = c.args.types.now in
    let s : Contents = c.args.state.now in
    let ds = map code_decl_view c.args.decls.items in
    λ outer. joins_made core_modules c.join_module.new.types s c.join_module.new.state c.declare_module.new.types.core c.in-Ok.made (module_made [] a.core (empty_module s.features) ds)
    (made_same [] a.core (empty_module s.features) ds c.in-Ok.ensures.free ∙ c.in-Ok.ensures.ok) c.in-Ok-join_module.ensures.types

pub returns-in-Err-join_module-clause-err : goal.returns-in-Err-join_module-clause-err
returns-in-Err-join_module-clause-err c =
    core_module_refused c.args.types.now c.join_module.new.types c.args.state.now c.join_module.new.state (map code_decl_view c.args.decls.items) c.args.offset c.in-Err-join_module.err c.in-Err-join_module.ensures.spent (inl c.in-Err-join_module.ensures.err)

pub returns-in-Err-clause-err : goal.returns-in-Err-clause-err
returns-in-Err-clause-err c =
    core_module_refused c.args.types.now c.declare_module.new.types c.args.state.now c.mark_spent.new.self (map code_decl_view c.args.decls.items) c.args.offset c.in-Err.err (ap (λ (z : Contents). z.spent) c.mark_spent.ensures) c.in-Err.ensures.err

pub returns-in-Err-clause-keeps : goal.returns-in-Err-clause-keeps
returns-in-Err-clause-keeps c =
    let s : Contents = c.args.state.now in
    subst (λ (z : Contents). Keeps c.args.types.now c.declare_module.new.types s z) (sym c.mark_spent.ensures)
    (keeps_grown_marked c.args.types.now c.declare_module.new.types s s true c.in-Err.ensures.grown refl c.requires.stands)
