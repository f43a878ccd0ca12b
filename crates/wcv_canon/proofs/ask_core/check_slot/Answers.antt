use Rattle.std.proofs.lemmas.Result.{err_from_is_err_and}
use Rattle.wcv_canon.proofs.Slots.{slot_type_caused}
use Rattle.wcv_canon.proofs.ask_core.check_slot.Goals as goal

pub returns-in_err-check_slot_type-clause-err : goal.returns-in_err-check_slot_type-clause-err
returns-in_err-check_slot_type-clause-err c =
    let p = err_from_is_err_and c.from_residual.result c.from_residual.ensures.1 in
    rw (p.1, p.2) (slot_type_caused c.args.types.now c.args.state.now c.args.ty c.args.slot c.args.offset c.in_err-check_slot_type.field-0.0 c.in_err-check_slot_type.ensures.err)
