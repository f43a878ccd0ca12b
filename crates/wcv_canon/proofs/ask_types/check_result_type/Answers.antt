use Rattle.std.proofs.Common.{sym, ◌∙◌, inr}
use Rattle.std.specs.Prelude.{slice_get}
use Rattle.std.specs.Option.{option_map}
use Rattle.std.proofs.lemmas.Result.{err_from_is_err_and}
use Rattle.wcv_core.proofs.Closing.{caused_same}
use Rattle.wcv_types.specs.Tree.{is_value}
use Rattle.wcv_types.specs.declared.ids.ComponentAnyTypeId.TheVariants as any
use Rattle.wcv_lower.specs.Checks.{missing_of}
use Rattle.wcv_lower.specs.Context.{in_types}
use Rattle.wcv_spaces.specs.Looking.{any_sort}
use Rattle.wcv_spaces.proofs.Found.{stands_at}
use Rattle.wcv_canon.proofs.Found.{value_caused, value_free, value_borrows}
use Rattle.wcv_canon.proofs.ask_types.check_result_type.Goals as goal

pub abi_info-info-requires : goal.abi_info-info-requires
abi_info-info-requires c = (stands_at c.args.types.now c.args.state.now c.requires.stands in_types c.args.index (any.Defined c.in_ok-id.id) c.in_ok-id.ensures.ok).0

pub returns-in_err-id-clause-err : goal.returns-in_err-id-clause-err
returns-in_err-id-clause-err c =
    let p = err_from_is_err_and c.from_residual.result c.from_residual.ensures.1 in
    rw p.1 (value_caused c.args.types.now c.args.state.now c.requires.stands c.args.index c.args.offset p.0
    (caused_same (missing_of is_value (option_map any_sort (slice_get c.args.state.now.spaces.types c.args.index))) c.args.offset c.in_err-id.field-0.0 p.0 p.2.0 p.2.1 (inr c.in_err-id.ensures.err)))

pub returns-then-info-clause-err : goal.returns-then-info-clause-err
returns-then-info-clause-err c =
    value_borrows c.args.types.now c.args.state.now c.requires.stands c.args.index c.in_ok-id.id c.in_ok-id.ensures.ok c.args.offset c.borrows.result (sym c.abi_info-info.ensures.contains_borrow ∙ c.if-info.true) c.borrows.ensures.kind c.borrows.ensures.offset

pub returns-clause-ok : goal.returns-clause-ok
returns-clause-ok c =
    value_free c.args.types.now c.args.state.now c.requires.stands c.args.index c.in_ok-id.id c.in_ok-id.ensures.ok (sym c.abi_info-info.ensures.contains_borrow ∙ c.if-info.false)
