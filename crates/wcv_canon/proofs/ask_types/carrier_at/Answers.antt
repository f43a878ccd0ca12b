use Rattle.std.proofs.lemmas.Result.{err_from_is_err_and}
use Rattle.wcv_lower.specs.Context.{in_types}
use Rattle.wcv_spaces.proofs.Found.{stands_at}
use Rattle.wcv_canon.proofs.Carriers.{carries, types_missing}
use Rattle.wcv_canon.proofs.ask_types.carrier_at.Goals as goal

pub carrier_of_type-requires : goal.carrier_of_type-requires
carrier_of_type-requires c = record { stands = (stands_at c.args.types.now c.args.state.now c.requires.stands in_types c.args.index c.in_ok-id.id c.in_ok-id.ensures.ok).0 }

pub returns-clause-ok : goal.returns-clause-ok
returns-clause-ok c = carries c.args.types.now c.args.state.now c.requires.stands c.args.index c.in_ok-id.id c.carrier_of_type.result c.in_ok-id.ensures.ok c.carrier_of_type.ensures

pub returns-in_err-id-clause-err : goal.returns-in_err-id-clause-err
returns-in_err-id-clause-err c =
    let p = err_from_is_err_and c.from_residual.result c.from_residual.ensures.1 in
    rw (p.1, p.2) (types_missing c.args.types.now c.args.state.now c.requires.stands c.args.index c.args.offset c.in_err-id.field-0.0 c.in_err-id.ensures.err)
