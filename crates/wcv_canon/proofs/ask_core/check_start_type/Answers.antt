use Rattle.std.proofs.Common.{◌<◌, ◌∙◌, List, subst, sym, inr}
use Rattle.std.specs.Prelude.{slice_get}
use Rattle.std.proofs.lemmas.Result.{err_from_is_err_and}
use Rattle.wcv_core.specs.CoreForm.{Group, sub_form}
use Rattle.wcv_core.specs.CoreGroups.{total}
use Rattle.wcv_core.specs.CoreWritten.{entry_checks}
use Rattle.wcv_core.proofs.Closing.{caused_same}
use Rattle.wcv_lower.specs.Canons.{is_start}
use Rattle.wcv_spaces.specs.Contents.{core_entries_of}
use Rattle.wcv_canon.proofs.Found.{entry_within, found_form, start_type_missing, start_type_free, start_type_other}
use Rattle.wcv_canon.proofs.ask_core.check_start_type.Goals as goal

pub get-ty-requires : goal.get-ty-requires
get-ty-requires c =
    subst (λ (gs : List Group). c.in_ok-id.id.index < total gs) (sym c.core_types.ensures) (entry_within c.args.types.now c.args.state.now c.requires.stands c.args.index c.in_ok-id.id c.in_ok-id.ensures.ok)

pub returns-in_err-id-clause-err : goal.returns-in_err-id-clause-err
returns-in_err-id-clause-err c =
    let p = err_from_is_err_and c.from_residual.result c.from_residual.ensures.1 in
    rw p.1 (start_type_missing c.args.types.now c.args.state.now c.requires.stands c.args.index c.args.offset p.0
    (caused_same (entry_checks (slice_get (core_entries_of c.args.state.now) c.args.index)) c.args.offset c.in_err-id.field-0.0 p.0 p.2.0 p.2.1 (inr c.in_err-id.ensures.err)))

pub returns-then-is_start-clause-ok : goal.returns-then-is_start-clause-ok
returns-then-is_start-clause-ok c =
    let e = found_form c.core_types.result.now c.args.types.now.core c.in_ok-id.id.index (sub_form c.get-ty.result.now) c.get-ty.ensures c.core_types.ensures in
    start_type_free c.args.types.now c.args.state.now c.requires.stands c.args.index c.in_ok-id.id c.in_ok-id.ensures.ok ((λ j. is_start (sym c.features.ensures j) (sym e j)) ∙ sym c.if-is_start.ensures)

pub returns-clause-err : goal.returns-clause-err
returns-clause-err c =
    let e = found_form c.core_types.result.now c.args.types.now.core c.in_ok-id.id.index (sub_form c.get-ty.result.now) c.get-ty.ensures c.core_types.ensures in
    start_type_other c.args.types.now c.args.state.now c.requires.stands c.args.index c.in_ok-id.id c.in_ok-id.ensures.ok c.args.offset c.other.result
    ((λ j. is_start (sym c.features.ensures j) (sym e j)) ∙ sym c.if-is_start.ensures) c.other.ensures.kind c.other.ensures.offset
