use Rattle.std.proofs.Common.{◌<◌, ◌∙◌, ap, subst, sym, inr}
use Rattle.std.specs.Prelude.{slice_get}
use Rattle.std.proofs.lemmas.Result.{err_from_is_err_and}
use Rattle.wcv_core.specs.CoreForm.{Group, SubForm, sub_form}
use Rattle.std.specs.Prelude.{List}
use Rattle.wcv_core.specs.CoreGroups.{total}
use Rattle.wcv_core.proofs.Closing.{caused_same}
use Rattle.wcv_lower.specs.Checks.{missing}
use Rattle.wcv_lower.specs.Context.{core_funcs}
use Rattle.wcv_lower.specs.Types.{form_takes_and_gives}
use Rattle.wcv_spaces.proofs.Found.{core_stands_at}
use Rattle.wcv_canon.proofs.Found.{found_form, func_missing, func_free, func_other}
use Rattle.wcv_canon.proofs.items.check_core_func.Goals as goal

pub get-found-requires : goal.get-found-requires
get-found-requires c =
    subst (λ (gs : List Group). c.in_ok-id.id.index < total gs) (sym c.core_types.ensures) (core_stands_at c.args.types.now c.args.state.now c.requires.stands core_funcs c.args.index c.in_ok-id.id c.in_ok-id.ensures.ok)

pub returns-in_err-id-clause-err : goal.returns-in_err-id-clause-err
returns-in_err-id-clause-err c =
    let p = err_from_is_err_and c.from_residual.result c.from_residual.ensures.1 in
    rw p.1 (func_missing c.args.types.now c.args.state.now c.args.index c.args.params.now c.args.results.now c.args.offset p.0
    (caused_same (missing (slice_get c.args.state.now.spaces.core_funcs c.args.index)) c.args.offset c.in_err-id.field-0.0 p.0 p.2.0 p.2.1 (inr c.in_err-id.ensures.err)))

pub returns-then-takes_and_gives-clause-ok : goal.returns-then-takes_and_gives-clause-ok
returns-then-takes_and_gives-clause-ok c =
    func_free c.args.types.now c.args.state.now c.args.index c.args.params.now c.args.results.now c.in_ok-id.id c.in_ok-id.ensures.ok
    (ap (λ (f : SubForm). form_takes_and_gives c.args.params.now c.args.results.now f.inner) (sym (found_form c.core_types.result.now c.args.types.now.core c.in_ok-id.id.index (sub_form c.get-found.result.now) c.get-found.ensures c.core_types.ensures)) ∙ sym c.if-takes_and_gives.ensures)

pub returns-clause-err : goal.returns-clause-err
returns-clause-err c =
    func_other c.args.types.now c.args.state.now c.args.index c.args.params.now c.args.results.now c.args.offset c.told.result c.in_ok-id.id c.in_ok-id.ensures.ok
    (ap (λ (f : SubForm). form_takes_and_gives c.args.params.now c.args.results.now f.inner) (sym (found_form c.core_types.result.now c.args.types.now.core c.in_ok-id.id.index (sub_form c.get-found.result.now) c.get-found.ensures c.core_types.ensures)) ∙ sym c.if-takes_and_gives.ensures)
    c.told.ensures.kind c.told.ensures.offset
