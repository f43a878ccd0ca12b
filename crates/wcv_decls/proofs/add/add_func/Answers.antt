use Rattle.std.proofs.Common.{refl, subst}
use Rattle.std.proofs.lemmas.Result.{err_from_is_err_and}
use Rattle.wcv_core.specs.declared.features.WasmFeatures.{WasmFeatures}
use Rattle.wcv_syntax.specs.Model.{Func_form}
use Rattle.wcv_syntax.specs.View.{func_view}
use Rattle.wcv_types.specs.Arena.{Arena}
use Rattle.wcv_types.specs.declared.arena.Node.TheVariants as node
use Rattle.wcv_lower.specs.Checks.{Checks, IsFree, if_found}
use Rattle.wcv_lower.specs.Defined.{has_borrow, size_checks, node_checks}
use Rattle.wcv_lower.specs.Trees.{Tree_context, tree_reader, tree_maker}
use Rattle.wcv_lower.specs.Types.{func_own_checks, func_parts, func_made}
use Rattle.wcv_lower.specs.Values.{option_entry, parts_checks}
use Rattle.wcv_spaces.specs.Contents.{context_of}
use Rattle.wcv_spaces.specs.Promises.{MemoryOrCausedBy}
use Rattle.wcv_core.proofs.Closing.{caused_same}
use Rattle.wcv_decls.specs.Resolved.{func_resolve_checks}
use Rattle.wcv_decls.proofs.Adding.{func_added, all_free, func_sizes_same, func_own_caused, func_resolve_caused, func_size_caused}
use Rattle.wcv_types.specs.Unfold.{tree_of, trees}
use Rattle.wcv_decls.proofs.add.add_func.Goals as goal

pub returns-in_err-check_func-clause-err : goal.returns-in_err-check_func-clause-err
returns-in_err-check_func-clause-err c =
    let p = err_from_is_err_and c.from_residual.result c.from_residual.ensures.1 in
    rw (p.1, p.2) (λ n q. func_own_caused c.args.state.now.features (tree_maker n q) (context_of c.args.types.now c.args.state.now) (func_view c.args.func) c.args.offset c.in_err-check_func.field-0.0 (subst (λ (fs : WasmFeatures). MemoryOrCausedBy (func_own_checks fs (func_view c.args.func)) c.args.offset c.in_err-check_func.field-0.0) c.features.ensures c.in_err-check_func.ensures.err))

pub returns-in_err-shape-clause-err : goal.returns-in_err-shape-clause-err
returns-in_err-shape-clause-err c =
    let p = err_from_is_err_and c.from_residual-in_err-shape.result c.from_residual-in_err-shape.ensures.1 in
    let x : Tree_context = context_of c.args.types.now c.args.state.now in
    let f : Func_form = func_view c.args.func in
    let fs : WasmFeatures = c.args.state.now.features in
    rw p.1 (λ n q. func_resolve_caused fs (tree_maker n q) x f c.args.offset p.0 (caused_same (func_resolve_checks fs x f) c.args.offset c.in_err-shape.field-0.0 p.0 p.2.0 p.2.1 c.in_err-shape.ensures.err))

pub returns-in_err-store_func-clause-err : goal.returns-in_err-store_func-clause-err
returns-in_err-store_func-clause-err c =
    let p = err_from_is_err_and c.from_residual-in_err-store_func.result c.from_residual-in_err-store_func.ensures.1 in
    let a : Arena = c.args.types.now in
    let x : Tree_context = context_of a c.args.state.now in
    let f : Func_form = func_view c.args.func in
    rw p.1 (λ n q. func_size_caused c.args.state.now.features (tree_maker n q) x f c.args.offset p.0
    (subst (λ (cs : Checks). MemoryOrCausedBy cs c.args.offset p.0) (func_sizes_same a x f c.in_ok-shape.shape c.in_ok-shape.ensures.ok n q)
    (caused_same (size_checks tree_reader (tree_of (trees a.nodes) (node.Func c.in_ok-shape.shape))) c.args.offset c.in_err-store_func.field-0.0 p.0 p.2.0 p.2.1 c.in_err-store_func.ensures.err)))

pub returns-clause-ok : goal.returns-clause-ok
returns-clause-ok c =
    func_added c.args.types.now (context_of c.args.types.now c.args.state.now) (func_view c.args.func) c.in_ok-shape.shape c.in_ok-shape.ensures.ok c.store_func.new.types c.args.state.now c.store_func.new.state refl c.in_ok-store_func.ensures.ok

pub returns-clause-free : goal.returns-clause-free
returns-clause-free c =
    let a : Arena = c.args.types.now in
    let x : Tree_context = context_of a c.args.state.now in
    let f : Func_form = func_view c.args.func in
    let fs : WasmFeatures = c.args.state.now.features in
    λ n q. all_free (func_own_checks fs f) (parts_checks fs x (func_parts f)) (if_found (has_borrow tree_reader) (option_entry x f.result)) (if_found (node_checks (tree_maker n q)) (func_made x f)) (subst (λ (gs : WasmFeatures). IsFree (func_own_checks gs (func_view c.args.func))) c.features.ensures c.in_ok-check_func.ensures.ok) c.in_ok-shape.ensures.free (subst IsFree (func_sizes_same a x f c.in_ok-shape.shape c.in_ok-shape.ensures.ok n q) c.in_ok-store_func.ensures.free)
