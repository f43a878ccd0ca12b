use Rattle.std.proofs.Common.{refl, subst}
use Rattle.std.proofs.lemmas.Result.{err_from_is_err_and}
use Rattle.wcv_core.specs.declared.features.WasmFeatures.{WasmFeatures}
use Rattle.wcv_syntax.specs.Model.{Defined_form}
use Rattle.wcv_syntax.specs.View.{defined_view}
use Rattle.wcv_types.specs.Arena.{Arena}
use Rattle.wcv_types.specs.declared.arena.Node.TheVariants as node
use Rattle.wcv_lower.specs.Checks.{Checks, IsFree, if_found}
use Rattle.wcv_lower.specs.Defined.{own_checks, made_checks, handle_index, written_parts, content_checks, size_checks, node_checks, defined_made}
use Rattle.wcv_lower.specs.Trees.{Tree_context, tree_reader, tree_maker}
use Rattle.wcv_spaces.specs.Contents.{context_of}
use Rattle.wcv_spaces.specs.Promises.{MemoryOrCausedBy}
use Rattle.wcv_core.proofs.Closing.{caused_same}
use Rattle.wcv_decls.specs.Resolved.{resolve_checks}
use Rattle.wcv_decls.proofs.Adding.{shape_fits, defined_added, all_free, sizes_same, own_caused, resolve_caused, size_caused}
use Rattle.wcv_types.specs.Unfold.{tree_of, trees}
use Rattle.wcv_decls.proofs.add.add_defined.Goals as goal

pub returns-in_err-check_defined-clause-err : goal.returns-in_err-check_defined-clause-err
returns-in_err-check_defined-clause-err c =
    let p = err_from_is_err_and c.from_residual.result c.from_residual.ensures.1 in
    rw (p.1, p.2) (λ n q. own_caused c.args.state.now.features (tree_maker n q) (context_of c.args.types.now c.args.state.now) (defined_view c.args.ty) c.args.offset c.in_err-check_defined.field-0.0 (subst (λ (fs : WasmFeatures). MemoryOrCausedBy (own_checks fs (defined_view c.args.ty)) c.args.offset c.in_err-check_defined.field-0.0) c.features.ensures c.in_err-check_defined.ensures.err))

pub returns-in_err-shape-clause-err : goal.returns-in_err-shape-clause-err
returns-in_err-shape-clause-err c =
    let p = err_from_is_err_and c.from_residual-in_err-shape.result c.from_residual-in_err-shape.ensures.1 in
    let x : Tree_context = context_of c.args.types.now c.args.state.now in
    let d : Defined_form = defined_view c.args.ty in
    let fs : WasmFeatures = c.args.state.now.features in
    rw p.1 (λ n q. resolve_caused fs (tree_maker n q) x d c.args.offset p.0 (caused_same (resolve_checks fs x d) c.args.offset c.in_err-shape.field-0.0 p.0 p.2.0 p.2.1 c.in_err-shape.ensures.err))

pub store_defined-requires-clause-fits : goal.store_defined-requires-clause-fits
store_defined-requires-clause-fits c = shape_fits c.args.types.now (context_of c.args.types.now c.args.state.now) (defined_view c.args.ty) c.in_ok-shape.shape c.in_ok-shape.ensures.ok

pub returns-in_err-store_defined-clause-err : goal.returns-in_err-store_defined-clause-err
returns-in_err-store_defined-clause-err c =
    let p = err_from_is_err_and c.from_residual-in_err-store_defined.result c.from_residual-in_err-store_defined.ensures.1 in
    let a : Arena = c.args.types.now in
    let x : Tree_context = context_of a c.args.state.now in
    let d : Defined_form = defined_view c.args.ty in
    rw p.1 (λ n q. size_caused c.args.state.now.features (tree_maker n q) x d c.args.offset p.0
    (subst (λ (cs : Checks). MemoryOrCausedBy cs c.args.offset p.0) (sizes_same a x d c.in_ok-shape.shape c.in_ok-shape.ensures.ok n q)
    (caused_same (size_checks tree_reader (tree_of (trees a.nodes) (node.Defined c.in_ok-shape.shape))) c.args.offset c.in_err-store_defined.field-0.0 p.0 p.2.0 p.2.1 c.in_err-store_defined.ensures.err)))

pub returns-clause-ok : goal.returns-clause-ok
returns-clause-ok c =
    defined_added c.args.types.now (context_of c.args.types.now c.args.state.now) (defined_view c.args.ty) c.in_ok-shape.shape c.in_ok-shape.ensures.ok c.store_defined.new.types c.args.state.now c.store_defined.new.state refl c.in_ok-store_defined.ensures.ok

pub returns-clause-free : goal.returns-clause-free
returns-clause-free c =
    let a : Arena = c.args.types.now in
    let x : Tree_context = context_of a c.args.state.now in
    let d : Defined_form = defined_view c.args.ty in
    let fs : WasmFeatures = c.args.state.now.features in
    λ n q. all_free (own_checks fs d) (made_checks fs x (handle_index d) (written_parts d)) (content_checks x d) (if_found (node_checks (tree_maker n q)) (defined_made x d)) (subst (λ (gs : WasmFeatures). IsFree (own_checks gs (defined_view c.args.ty))) c.features.ensures c.in_ok-check_defined.ensures.ok) c.in_ok-shape.ensures.free (subst IsFree (sizes_same a x d c.in_ok-shape.shape c.in_ok-shape.ensures.ok n q) c.in_ok-store_defined.ensures.free)
