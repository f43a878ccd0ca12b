use Rattle.std.proofs.Common.{◌≡◌, ℕ, List, Some, length, take, ◌∙◌, ap, subst}
use Rattle.std.specs.Prelude.{slice_get, option_to_list}
use Rattle.std.proofs.lemmas.Result.{err_from_is_err_and}
use Rattle.wcv_core.proofs.Closing.{caused_same}
use Rattle.wcv_types.specs.declared.ids.ComponentFuncTypeId.{ComponentFuncTypeId}
use Rattle.wcv_lower.specs.Checks.{IsFree}
use Rattle.wcv_lower.specs.Context.{in_funcs}
use Rattle.wcv_spaces.specs.Contents.{IdStands, used_at}
use Rattle.wcv_spaces.specs.Parts.{lists}
use Rattle.wcv_spaces.specs.Promises.{MemoryOrCausedBy}
use Rattle.wcv_state.specs.Starting.{Params, count_checks, argument_checks, room_checks, with_given}
use Rattle.wcv_spaces.specs.Values.{Values}
use Rattle.wcv_spaces.proofs.BroughtPaths.{all_taken}
use Rattle.wcv_spaces.proofs.Keeping.{all_at}
use Rattle.wcv_state.proofs.Starts.{written_back, counts_caused, arguments_caused, room_caused, is_started}
use Rattle.wcv_state.proofs.start.start.Goals as goal

pub func_of-func-requires : goal.func_of-func-requires
func_of-func-requires c = all_at (IdStands c.args.types.now in_funcs) (lists c.args.spaces.now).funcs c.args.func_index c.in_ok-id.id c.requires.funcs (subst (λ (xs : List ComponentFuncTypeId). slice_get xs c.args.func_index ≡ Some c.in_ok-id.id) c.deref.ensures.value c.in_ok-id.ensures.ok)

pub returns-in_err-check_counts-clause-err : goal.returns-in_err-check_counts-clause-err
returns-in_err-check_counts-clause-err c =
    let r = err_from_is_err_and c.from_residual-in_err-check_counts.result c.from_residual-in_err-check_counts.ensures.1 in
    rw r.1 (counts_caused c.args.types.now (lists c.args.spaces.now) c.args.func_index c.args.args.now c.args.results c.in_ok-id.id (subst (λ (xs : List ComponentFuncTypeId). slice_get xs c.args.func_index ≡ Some c.in_ok-id.id) c.deref.ensures.value c.in_ok-id.ensures.ok) c.func_of-func.result.now c.func_of-func.ensures.tree c.func_of-func.ensures.stands c.args.offset r.0
    (caused_same (count_checks (length c.args.args.now) (length c.func_of-func.result.now.params.items) c.args.results (length (option_to_list c.func_of-func.result.now.result))) c.args.offset c.in_err-check_counts.field-0.0 r.0 r.2.0 r.2.1 c.in_err-check_counts.ensures.err))

pub returns-in_err-use_arguments-clause-err : goal.returns-in_err-use_arguments-clause-err
returns-in_err-use_arguments-clause-err c =
    let r = err_from_is_err_and c.from_residual-in_err-use_arguments.result c.from_residual-in_err-use_arguments.ensures.1 in
    rw (r.1, r.2) (arguments_caused c.args.types.now (lists c.args.spaces.now) c.args.func_index c.args.args.now c.args.results c.in_ok-id.id (subst (λ (xs : List ComponentFuncTypeId). slice_get xs c.args.func_index ≡ Some c.in_ok-id.id) c.deref.ensures.value c.in_ok-id.ensures.ok) c.func_of-func.result.now c.func_of-func.ensures.tree c.func_of-func.ensures.stands c.args.offset c.in_err-use_arguments.field-0.0
    (subst (λ (vs : Values). MemoryOrCausedBy (argument_checks c.args.types.now vs c.args.args.now c.func_of-func.result.now.params.items) c.args.offset c.in_err-use_arguments.field-0.0) c.deref_mut.ensures.value
    (subst (λ (ps : Params). MemoryOrCausedBy (argument_checks c.args.types.now c.deref_mut.result.now c.args.args.now ps) c.args.offset c.in_err-use_arguments.field-0.0) c.deref-2.ensures.value c.in_err-use_arguments.ensures.err)))

pub returns-in_err-use_arguments-clause-left : goal.returns-in_err-use_arguments-clause-left
returns-in_err-use_arguments-clause-left c =
    let r = err_from_is_err_and c.from_residual-in_err-use_arguments.result c.from_residual-in_err-use_arguments.ensures.1 in
    let w = c.in_err-use_arguments.ensures.left in
    rw r.1 ((w.0, ap (λ (vs : Values). record (lists c.args.spaces.now) { values = vs }) (written_back c.args.spaces.now.values c.use_arguments.new.values (take w.0 c.args.args.now) (w.1 ∙ ap (used_at (take w.0 c.args.args.now)) c.deref_mut.ensures.value))))

pub returns-in_err-push_given-clause-err : goal.returns-in_err-push_given-clause-err
returns-in_err-push_given-clause-err c =
    let r = err_from_is_err_and c.from_residual-in_err-push_given.result c.from_residual-in_err-push_given.ensures.1 in
    let used = written_back c.args.spaces.now.values c.use_arguments.new.values c.args.args.now (c.in_ok-use_arguments.ensures.ok ∙ ap (used_at c.args.args.now) c.deref_mut.ensures.value) in
    let gives = c.func_of-func.result.now.result in
    rw r.1 (room_caused c.args.types.now (lists c.args.spaces.now) c.args.func_index c.args.args.now c.args.results c.in_ok-id.id (subst (λ (xs : List ComponentFuncTypeId). slice_get xs c.args.func_index ≡ Some c.in_ok-id.id) c.deref.ensures.value c.in_ok-id.ensures.ok) c.func_of-func.result.now c.func_of-func.ensures.tree c.func_of-func.ensures.stands c.args.offset r.0 (caused_same (room_checks (used_at c.args.args.now c.args.spaces.now.values.items) gives) c.args.offset c.in_err-push_given.field-0.0 r.0 r.2.0 r.2.1
    (subst (λ (vs : Values). MemoryOrCausedBy (room_checks vs gives) c.args.offset c.in_err-push_given.field-0.0) used c.in_err-push_given.ensures.err)))

pub returns-in_err-push_given-clause-left : goal.returns-in_err-push_given-clause-left
returns-in_err-push_given-clause-left c =
    let r = err_from_is_err_and c.from_residual-in_err-push_given.result c.from_residual-in_err-push_given.ensures.1 in
    let args = c.args.args.now in
    let used = written_back c.args.spaces.now.values c.use_arguments.new.values args (c.in_ok-use_arguments.ensures.ok ∙ ap (used_at args) c.deref_mut.ensures.value) in
    rw r.1 ((length args, ap (λ (vs : Values). record (lists c.args.spaces.now) { values = vs }) (c.in_err-push_given.ensures.left ∙ used ∙ ap (λ (ks : List ℕ). used_at ks c.args.spaces.now.values.items) (all_taken args))))

pub returns-clause-ok : goal.returns-clause-ok
returns-clause-ok c =
    let used = written_back c.args.spaces.now.values c.use_arguments.new.values c.args.args.now (c.in_ok-use_arguments.ensures.ok ∙ ap (used_at c.args.args.now) c.deref_mut.ensures.value) in
    let gives = c.func_of-func.result.now.result in
    is_started c.args.types.now (lists c.args.spaces.now) c.args.func_index c.args.args.now c.args.results c.in_ok-id.id (subst (λ (xs : List ComponentFuncTypeId). slice_get xs c.args.func_index ≡ Some c.in_ok-id.id) c.deref.ensures.value c.in_ok-id.ensures.ok) c.func_of-func.result.now c.func_of-func.ensures.tree c.func_of-func.ensures.stands _ c.in_ok-check_counts.ensures.ok
    (subst (λ (vs : Values). IsFree (argument_checks c.args.types.now vs c.args.args.now c.func_of-func.result.now.params.items)) c.deref_mut.ensures.value
    (subst (λ (ps : Params). IsFree (argument_checks c.args.types.now c.deref_mut.result.now c.args.args.now ps)) c.deref-2.ensures.value c.in_ok-use_arguments.ensures.free))
    (subst (λ (vs : Values). IsFree (room_checks vs gives)) used c.in_ok-push_given.ensures.free)
    (ap (λ (vs : Values). record (lists c.args.spaces.now) { values = vs }) (c.in_ok-push_given.ensures.ok ∙ ap (with_given gives) used))
