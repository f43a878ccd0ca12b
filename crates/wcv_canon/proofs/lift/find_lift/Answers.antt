use Rattle.std.proofs.Common.{◌∙◌, [], ap, inr, subst, sym}
use Rattle.std.specs.Prelude.{slice_get}
use Rattle.std.specs.Option.{option_map}
use Rattle.std.proofs.lemmas.Result.{err_from_is_err_and}
use Rattle.wcv_core.specs.CoreForm.{CompositeForm, func_form}
use Rattle.wcv_core.specs.CoreGroups.{total}
use Rattle.wcv_core.specs.declared.features.WasmFeatures.{WasmFeatures}
use Rattle.wcv_core.proofs.Closing.{caused_same}
use Rattle.wcv_types.specs.Tree.{is_func, parts}
use Rattle.wcv_types.specs.Unfold.{Type_tree}
use Rattle.wcv_flat.specs.Functions.{func_parts}
use Rattle.wcv_flat.specs.Options.{pointer_size, type_checks}
use Rattle.wcv_flat.specs.Signature.{core_type}
use Rattle.wcv_flat.specs.declared.options.Abi.TheVariants as abi
use Rattle.wcv_flat.specs.declared.options.CanonicalOptions.{CanonicalOptions}
use Rattle.wcv_lower.specs.CanonOptions.{options_read}
use Rattle.wcv_lower.specs.Checks.{IsFree, missing, missing_of, no_room}
use Rattle.wcv_lower.specs.Context.{core_funcs, counts}
use Rattle.wcv_lower.specs.Outlines.{outline, is_async_func}
use Rattle.wcv_spaces.specs.Contents.{context_of}
use Rattle.wcv_spaces.specs.Looking.{any_sort}
use Rattle.wcv_spaces.specs.Promises.{MemoryOrCausedBy}
use Rattle.wcv_spaces.proofs.Found.{core_stands_at}
use Rattle.wcv_canon.specs.Lifting.{async_checks, post_checks}
use Rattle.wcv_canon.proofs.LiftChecks.{func_missing, type_missing, options_caused, room_caused, async_caused, post_caused, type_caused, signature_caused, lift_free, func_stands}
use Rattle.wcv_canon.proofs.PlainForms.{IsPlainForm, core_type_plain, plain_closed}
use Rattle.wcv_canon.proofs.lift.find_lift.Goals as goal

pub returns-in_err-core-clause-err : goal.returns-in_err-core-clause-err
returns-in_err-core-clause-err c =
    let q = err_from_is_err_and c.from_residual.result c.from_residual.ensures.1 in
    rw q.1 (λ outer.
    func_missing c.args.types.now c.args.state.now c.requires.stands outer c.args.core_index c.args.type_index c.args.options.now c.args.offset q.0
    (caused_same (missing (slice_get c.args.state.now.spaces.core_funcs c.args.core_index)) c.args.offset c.in_err-core.field-0.0 q.0 q.2.0 q.2.1 (inr c.in_err-core.ensures.err)))

pub returns-in_err-id-clause-err : goal.returns-in_err-id-clause-err
returns-in_err-id-clause-err c =
    let q = err_from_is_err_and c.from_residual-in_err-id.result c.from_residual-in_err-id.ensures.1 in
    rw q.1 (λ outer.
    type_missing c.args.types.now c.args.state.now c.requires.stands outer c.args.core_index c.args.type_index c.args.options.now c.args.offset q.0
    (caused_same (missing_of is_func (option_map any_sort (slice_get c.args.state.now.spaces.types c.args.type_index))) c.args.offset c.in_err-id.field-0.0 q.0 q.2.0 q.2.1 (inr c.in_err-id.ensures.err)))

pub returns-in_err-read-clause-err : goal.returns-in_err-read-clause-err
returns-in_err-read-clause-err c =
    let q = err_from_is_err_and c.from_residual-in_err-read.result c.from_residual-in_err-read.ensures.1 in
    rw (q.1, q.2) (λ outer.
    options_caused c.args.types.now c.args.state.now c.requires.stands outer c.args.core_index c.args.type_index c.args.options.now c.args.offset c.in_err-read.field-0.0 (c.in_err-read.ensures.err outer))

pub returns-in_err-check_room-clause-err : goal.returns-in_err-check_room-clause-err
returns-in_err-check_room-clause-err c =
    let q = err_from_is_err_and c.from_residual-in_err-check_room.result c.from_residual-in_err-check_room.ensures.1 in
    rw q.1 (λ outer.
    room_caused c.args.types.now c.args.state.now c.requires.stands outer c.args.core_index c.args.type_index c.args.options.now c.args.offset q.0
    (caused_same (no_room (counts (context_of c.args.types.now c.args.state.now)) is_func) c.args.offset c.in_err-check_room.field-0.0 q.0 q.2.0 q.2.1 c.in_err-check_room.ensures.err))

pub get-shape-requires : goal.get-shape-requires
get-shape-requires c = func_stands c.args.types.now c.args.state.now c.requires.stands [] c.args.core_index c.args.type_index c.args.options.now c.in_ok-id.id c.in_ok-id.ensures.ok

pub returns-in_err-check_async-clause-err : goal.returns-in_err-check_async-clause-err
returns-in_err-check_async-clause-err c =
    let q = err_from_is_err_and c.from_residual-in_err-check_async.result c.from_residual-in_err-check_async.ensures.1 in
    rw q.1 (λ outer.
    async_caused c.args.types.now c.args.state.now c.requires.stands outer c.args.core_index c.args.type_index c.args.options.now c.in_ok-id.id c.in_ok-id.ensures.ok c.in_ok-core.core c.in_ok-core.ensures.ok c.args.offset q.0 c.get-shape.result.now.async_
    (sym (ap (λ (t : Type_tree). is_async_func (outline t)) c.get-shape.ensures.unfolds))
    (subst (λ (fs : WasmFeatures). MemoryOrCausedBy (async_checks fs (options_read (context_of c.args.types.now c.args.state.now) c.args.options.now).concurrency c.get-shape.result.now.async_) c.args.offset q.0) c.features.ensures
    (subst (λ (o : CanonicalOptions). MemoryOrCausedBy (async_checks c.features.result.now o.concurrency c.get-shape.result.now.async_) c.args.offset q.0) c.in_ok-read.ensures.ok
    (caused_same (async_checks c.features.result.now c.in_ok-read.read.concurrency c.get-shape.result.now.async_) c.args.offset c.in_err-check_async.field-0.0 q.0 q.2.0 q.2.1 c.in_err-check_async.ensures.err))))

pub check_post_return-requires-clause-core : goal.check_post_return-requires-clause-core
check_post_return-requires-clause-core c = core_stands_at c.args.types.now c.args.state.now c.requires.stands core_funcs c.args.core_index c.in_ok-core.core c.in_ok-core.ensures.ok

pub returns-in_err-check_post_return-clause-err : goal.returns-in_err-check_post_return-clause-err
returns-in_err-check_post_return-clause-err c =
    let q = err_from_is_err_and c.from_residual-in_err-check_post_return.result c.from_residual-in_err-check_post_return.ensures.1 in
    rw (q.1, q.2) (λ outer.
    post_caused c.args.types.now c.args.state.now c.requires.stands outer c.args.core_index c.args.type_index c.args.options.now c.in_ok-id.id c.in_ok-id.ensures.ok c.in_ok-core.core c.in_ok-core.ensures.ok c.args.offset c.in_err-check_post_return.field-0.0
    (subst (λ (o : CanonicalOptions). MemoryOrCausedBy (post_checks c.args.types.now.core c.args.state.now.spaces c.in_ok-core.core o.post_return) c.args.offset c.in_err-check_post_return.field-0.0) c.in_ok-read.ensures.ok c.in_err-check_post_return.ensures.err))

pub returns-in_err-lifted-clause-err : goal.returns-in_err-lifted-clause-err
returns-in_err-lifted-clause-err c =
    let q = err_from_is_err_and c.from_residual-in_err-lifted.result c.from_residual-in_err-lifted.ensures.1 in
    rw q.1 (λ outer.
    type_caused c.args.types.now c.args.state.now c.requires.stands outer c.args.core_index c.args.type_index c.args.options.now c.in_ok-id.id c.in_ok-id.ensures.ok c.in_ok-core.core c.in_ok-core.ensures.ok c.args.offset q.0
    (subst (λ (t : Type_tree). MemoryOrCausedBy (type_checks (options_read (context_of c.args.types.now c.args.state.now) c.args.options.now) abi.Lift (parts t)) c.args.offset q.0) (sym c.get-shape.ensures.unfolds)
    (subst (λ (o : CanonicalOptions). MemoryOrCausedBy (type_checks o abi.Lift (func_parts c.args.types.now c.get-shape.result.now)) c.args.offset q.0) c.in_ok-read.ensures.ok
    (caused_same (type_checks c.in_ok-read.read abi.Lift (func_parts c.args.types.now c.get-shape.result.now)) c.args.offset c.in_err-lifted.field-0.0 q.0 q.2.0 q.2.1 c.in_err-lifted.ensures.err))))

pub check_signature-requires-clause-closed : goal.check_signature-requires-clause-closed
check_signature-requires-clause-closed c =
    plain_closed c.args.types.now (total c.args.types.now.core) c.in_ok-lifted.lifted.params.items c.in_ok-lifted.lifted.results.items
    (subst (IsPlainForm (total c.args.types.now.core)) (sym c.in_ok-lifted.ensures.ok) (core_type_plain (total c.args.types.now.core) (pointer_size c.in_ok-read.read) abi.Lift c.in_ok-read.read.concurrency (func_parts c.args.types.now c.get-shape.result.now)))

pub check_signature-requires-clause-core : goal.check_signature-requires-clause-core
check_signature-requires-clause-core c = core_stands_at c.args.types.now c.args.state.now c.requires.stands core_funcs c.args.core_index c.in_ok-core.core c.in_ok-core.ensures.ok

pub returns-in_err-check_signature-clause-err : goal.returns-in_err-check_signature-clause-err
returns-in_err-check_signature-clause-err c =
    let q = err_from_is_err_and c.from_residual-in_err-check_signature.result c.from_residual-in_err-check_signature.ensures.1 in
    let w : CompositeForm = func_form c.in_ok-lifted.lifted.params.items c.in_ok-lifted.lifted.results.items in
    rw (q.1, q.2) (λ outer.
    signature_caused c.args.types.now c.args.state.now c.requires.stands outer c.args.core_index c.args.type_index c.args.options.now c.in_ok-id.id c.in_ok-id.ensures.ok c.in_ok-core.core c.in_ok-core.ensures.ok c.args.offset c.in_err-check_signature.field-0.0 w
    (c.in_ok-lifted.ensures.ok ∙ λ j. core_type (pointer_size (c.in_ok-read.ensures.ok j)) abi.Lift (c.in_ok-read.ensures.ok j).concurrency (parts (sym c.get-shape.ensures.unfolds j))) c.in_err-check_signature.ensures.err)

pub returns-clause-free : goal.returns-clause-free
returns-clause-free c = λ outer.
    let w : CompositeForm = func_form c.in_ok-lifted.lifted.params.items c.in_ok-lifted.lifted.results.items in
    lift_free c.args.types.now c.args.state.now c.requires.stands outer c.args.core_index c.args.type_index c.args.options.now c.in_ok-id.id c.in_ok-id.ensures.ok c.in_ok-core.core c.in_ok-core.ensures.ok c.get-shape.result.now.async_
    (sym (ap (λ (t : Type_tree). is_async_func (outline t)) c.get-shape.ensures.unfolds)) w
    (c.in_ok-lifted.ensures.ok ∙ λ j. core_type (pointer_size (c.in_ok-read.ensures.ok j)) abi.Lift (c.in_ok-read.ensures.ok j).concurrency (parts (sym c.get-shape.ensures.unfolds j)))
    (c.in_ok-read.ensures.free outer) c.in_ok-check_room.ensures.ok
    (subst (λ (fs : WasmFeatures). IsFree (async_checks fs (options_read (context_of c.args.types.now c.args.state.now) c.args.options.now).concurrency c.get-shape.result.now.async_)) c.features.ensures
    (subst (λ (o : CanonicalOptions). IsFree (async_checks c.features.result.now o.concurrency c.get-shape.result.now.async_)) c.in_ok-read.ensures.ok c.in_ok-check_async.ensures.ok))
    (subst (λ (o : CanonicalOptions). IsFree (post_checks c.args.types.now.core c.args.state.now.spaces c.in_ok-core.core o.post_return)) c.in_ok-read.ensures.ok c.in_ok-check_post_return.ensures.ok)
    (subst (λ (t : Type_tree). IsFree (type_checks (options_read (context_of c.args.types.now c.args.state.now) c.args.options.now) abi.Lift (parts t))) (sym c.get-shape.ensures.unfolds)
    (subst (λ (o : CanonicalOptions). IsFree (type_checks o abi.Lift (func_parts c.args.types.now c.get-shape.result.now))) c.in_ok-read.ensures.ok c.in_ok-lifted.ensures.free)) c.in_ok-check_signature.ensures.ok
