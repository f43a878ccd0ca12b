use Rattle.std.proofs.Common.{◌++◌}
use Rattle.std.proofs.lemmas.Result.{err_from_is_err_and, on_ok_weaker, IfErr-weaker}
use Rattle.wcv_core.specs.Refusal.{error_kind}
use Rattle.wcv_syntax.specs.View.{type_view}
use Rattle.wcv_lower.specs.Checks.{Checks, no_type_room}
use Rattle.wcv_lower.specs.Context.{counts}
use Rattle.wcv_lower.specs.Trees.{tree_maker}
use Rattle.wcv_lower.specs.Types.{tree_checks}
use Rattle.wcv_lower.proofs.Causes.{cause_left, cause_right, free_both}
use Rattle.wcv_spaces.specs.Contents.{context_of, stack_of}
use Rattle.wcv_spaces.proofs.Calls.{caused_more}
use Rattle.wcv_core.proofs.Closing.{caused_same}
use Rattle.wcv_decls.proofs.declare.declare.Goals as goal

pub returns-in_err-check_types-clause-err : goal.returns-in_err-check_types-clause-err
returns-in_err-check_types-clause-err c =
    let p = err_from_is_err_and c.from_residual.result c.from_residual.ensures.1 in
    let x = context_of c.args.types.now c.args.state.now in
    let e = c.in_err-check_types.field-0.0 in
    let room : Checks = no_type_room c.args.check_limit (counts x) in
    rw p.1 (λ outer n q. let tree : Checks = tree_checks c.args.state.now.features (tree_maker n q) (stack_of c.args.types.now c.args.state.now outer) (type_view c.args.ty) in
    caused_more room (tree ++ room) c.args.offset p.0 (cause_right tree room (error_kind p.0))
    (caused_same room c.args.offset e p.0 p.2.0 p.2.1 c.in_err-check_types.ensures.err))

pub returns-clause-free : goal.returns-clause-free
returns-clause-free c =
    let x = context_of c.args.types.now c.args.state.now in
    let room : Checks = no_type_room c.args.check_limit (counts x) in
    on_ok_weaker c.add_plain.result
    (λ z outer n q. let tree : Checks = tree_checks c.args.state.now.features (tree_maker n q) (stack_of c.args.types.now c.args.state.now outer) (type_view c.args.ty) in
    free_both tree room (z outer n q) c.in_ok-check_types.ensures.ok)
    c.add_plain.ensures.free

pub returns-clause-err : goal.returns-clause-err
returns-clause-err c =
    let x = context_of c.args.types.now c.args.state.now in
    let room : Checks = no_type_room c.args.check_limit (counts x) in
    IfErr-weaker c.add_plain.result _ _
    (λ e z outer n q. let tree : Checks = tree_checks c.args.state.now.features (tree_maker n q) (stack_of c.args.types.now c.args.state.now outer) (type_view c.args.ty) in
    caused_more tree (tree ++ room) c.args.offset e (cause_left tree room (error_kind e)) (z outer n q))
    c.add_plain.ensures.err
