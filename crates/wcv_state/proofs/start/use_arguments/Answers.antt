use Rattle.std.proofs.Common.{◌≡◌, ◌+◌, ◌<◌, ℕ, length, get_or, refl, subst, Some, false}
use Rattle.std.specs.Prelude.{slice_get}
use Rattle.std.proofs.lemmas.Option.{slice_get-get_or, slice_get_read}
use Rattle.std.proofs.lemmas.Result.{err_from_is_err_and}
use Rattle.wcv_lower.specs.Context.{in_values}
use Rattle.wcv_spaces.specs.Contents.{IdStands}
use Rattle.wcv_spaces.specs.Values.{value_at_checks}
use Rattle.wcv_spaces.proofs.Keeping.{all_at}
use Rattle.wcv_state.proofs.Starts.{used_stands, used_next, next_unused, next_unsuited, arguments_next, arguments_free}
use Rattle.wcv_state.proofs.UsedItems.{same_cause}
use Rattle.wcv_state.proofs.start.use_arguments.Goals as goal

pub returns-in_err-found-clause-err : goal.returns-in_err-found-clause-err
returns-in_err-found-clause-err c =
    let k = c.loop-k.k in
    let args = c.args.args.now in
    let ps = c.args.params.now in
    let x = get_or args k 0 in
    let e : slice_get args k ≡ Some x = slice_get-get_or args k 0 c.loop-k-test.true in
    let r = err_from_is_err_and c.from_residual.result c.from_residual.ensures.1 in
    rw r.1 (next_unused c.args.types.now c.args.values.now args ps k c.loop-k.values c.loop-k.invariant x e c.args.offset r.0 (same_cause (value_at_checks c.loop-k.values x) c.args.offset c.in_err-found.field-0.0 r.0 r.2.0 r.2.1 c.in_err-found.ensures.err))

pub check_argument-requires-clause-found : goal.check_argument-requires-clause-found
check_argument-requires-clause-found c =
    all_at (IdStands c.args.types.now in_values) c.loop-k.values (get_or c.args.args.now c.loop-k.k 0) (c.in_ok-found.found, false)
    (used_stands c.args.types.now c.args.values.now c.args.args.now c.args.params.now c.loop-k.k c.loop-k.values c.loop-k.invariant c.requires.values) c.in_ok-found.ensures.ok

pub returns-in_err-check_argument-clause-err : goal.returns-in_err-check_argument-clause-err
returns-in_err-check_argument-clause-err c =
    let k = c.loop-k.k in
    let args = c.args.args.now in
    let ps = c.args.params.now in
    let x = get_or args k 0 in
    let e : slice_get args k ≡ Some x = slice_get-get_or args k 0 c.loop-k-test.true in
    let p = c.index-params-k.result in
    let f : slice_get ps k ≡ Some p = slice_get_read ps (length ps) k p refl (subst (λ (n : ℕ). k < n) c.requires.count c.loop-k-test.true) c.index-params-k.is in
    let r = err_from_is_err_and c.from_residual-in_err-check_argument.result c.from_residual-in_err-check_argument.ensures.1 in
    rw (r.1, r.2) (next_unsuited c.args.types.now c.args.values.now args ps k c.loop-k.values c.loop-k.invariant x e p f c.in_ok-found.found c.in_ok-found.ensures.ok c.args.offset c.in_err-check_argument.field-0.0 c.in_err-check_argument.ensures.err)

pub returns-in_err-check_argument-clause-left : goal.returns-in_err-check_argument-clause-left
returns-in_err-check_argument-clause-left c =
    let k = c.loop-k.k in
    let args = c.args.args.now in
    let ps = c.args.params.now in
    let x = get_or args k 0 in
    let e : slice_get args k ≡ Some x = slice_get-get_or args k 0 c.loop-k-test.true in
    let r = err_from_is_err_and c.from_residual-in_err-check_argument.result c.from_residual-in_err-check_argument.ensures.1 in
    rw r.1 ((k + 1, used_next c.args.types.now c.args.values.now args ps k c.loop-k.values c.loop-k.invariant x e c.use_value.new.values c.in_ok-found.ensures.marked))

pub loop-k-preserved : goal.loop-k-preserved
loop-k-preserved c =
    let k = c.loop-k.k in
    let args = c.args.args.now in
    let ps = c.args.params.now in
    let x = get_or args k 0 in
    let e : slice_get args k ≡ Some x = slice_get-get_or args k 0 c.loop-k-test.true in
    let p = c.index-params-k.result in
    let f : slice_get ps k ≡ Some p = slice_get_read ps (length ps) k p refl (subst (λ (n : ℕ). k < n) c.requires.count c.loop-k-test.true) c.index-params-k.is in
    arguments_next c.args.types.now c.args.values.now args ps k c.loop-k.values c.loop-k.invariant x e p f c.in_ok-found.found c.in_ok-found.ensures.ok c.use_value.new.values c.in_ok-found.ensures.marked c.in_ok-check_argument.ensures.ok

pub returns-clause-free : goal.returns-clause-free
returns-clause-free c = arguments_free c.args.types.now c.args.values.now c.args.args.now c.args.params.now c.loop-k.k c.loop-k.values c.loop-k.invariant c.loop-k-test.false
