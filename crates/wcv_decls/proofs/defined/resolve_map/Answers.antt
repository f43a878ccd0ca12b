use Rattle.std.proofs.Common.{[], ◌∷◌, ◌++◌, Some}
use Rattle.std.proofs.lemmas.Result.{err_from_is_err_and}
use Rattle.wcv_core.specs.declared.features.WasmFeatures.{WasmFeatures}
use Rattle.wcv_types.specs.Arena.{Arena}
use Rattle.wcv_types.specs.Tree.{here}
use Rattle.wcv_types.specs.Unfold.{value_slot, slot_tree, trees}
use Rattle.wcv_lower.specs.Checks.{Checks, if_found}
use Rattle.wcv_lower.specs.Trees.{Tree_context, tree_reader}
use Rattle.wcv_lower.specs.Defined.{bad_key, bad_map_value}
use Rattle.wcv_lower.specs.Values.{value_entry, parts_checks}
use Rattle.wcv_lower.proofs.Causes.{free_both}
use Rattle.wcv_spaces.specs.Contents.{context_of}
use Rattle.wcv_decls.proofs.Shapes.{two_free, second_caused, looked_up, found_free}
use Rattle.wcv_decls.proofs.defined.resolve_map.Goals as goal

pub returns-in_err-value-clause-err : goal.returns-in_err-value-clause-err
returns-in_err-value-clause-err c =
    let p = err_from_is_err_and c.from_residual-in_err-value.result c.from_residual-in_err-value.ensures.1 in
    let a : Arena = c.args.types.now in
    let x : Tree_context = context_of a c.args.state.now in
    let fs : WasmFeatures = c.args.state.now.features in
    rw (p.1, p.2) (looked_up a x fs ((here, Some c.args.key) ∷ (here, Some c.args.value) ∷ []) (if_found (bad_key tree_reader) (value_entry x c.args.key) ++ if_found (bad_map_value tree_reader) (value_entry x c.args.value)) c.args.offset c.in_err-value.field-0.0
    (second_caused a x fs (Some c.args.key) (Some c.args.value) c.args.offset c.in_err-value.field-0.0 c.in_err-value.ensures.err))

pub returns-clause-free : goal.returns-clause-free
returns-clause-free c =
    let a : Arena = c.args.types.now in
    let x : Tree_context = context_of a c.args.state.now in
    let fs : WasmFeatures = c.args.state.now.features in
    let key : Checks = if_found (bad_key tree_reader) (value_entry x c.args.key) in
    let value : Checks = if_found (bad_map_value tree_reader) (value_entry x c.args.value) in
    free_both (parts_checks fs x ((here, Some c.args.key) ∷ (here, Some c.args.value) ∷ [])) (key ++ value) (two_free a x fs (Some c.args.key) (Some c.args.value) c.in_ok-key.ensures.free c.in_ok-value.ensures.free)
    (free_both key value
    (found_free a x fs (bad_key tree_reader) (value_entry x c.args.key) (slot_tree (trees a.nodes) (value_slot c.in_ok-key.key)) c.in_ok-key.ensures.ok.tree c.in_ok-check_key.ensures.ok)
    (found_free a x fs (bad_map_value tree_reader) (value_entry x c.args.value) (slot_tree (trees a.nodes) (value_slot c.in_ok-value.value)) c.in_ok-value.ensures.ok.tree c.in_ok-check_map_value.ensures.ok))
