use Rattle.std.proofs.Common.{subst, sym}
use Rattle.std.specs.Prelude.{Option}
use Rattle.wcv_core.specs.Refusal.{error_kind}
use Rattle.wcv_types.specs.declared.shapes.ComponentValType.{ComponentValType}
use Rattle.wcv_lower.specs.Values.{type_at}
use Rattle.wcv_spaces.specs.Contents.{context_of}
use Rattle.wcv_canon.specs.Carriers.{IsPayload}
use Rattle.wcv_flat.specs.CodeRows.{carrier_sort}
use Rattle.wcv_canon.proofs.Carriers.{is_missing, nothing_carried}
use Rattle.wcv_canon.proofs.ask_types.payload_at.Goals as goal

pub returns-in-Ok : goal.returns-in-Ok
returns-in-Ok c = subst (λ (o : Option ComponentValType). IsPayload c.args.types.now (context_of c.args.types.now c.args.state.now) c.args.index (carrier_sort c.args.sort) o) (sym c.carried.ensures) (c.in-Ok.ensures.ok.payload (carrier_sort c.args.sort))

pub returns-in-Err : goal.returns-in-Err
returns-in-Err c =
    nothing_carried c.args.types.now c.args.state.now c.requires.stands c.args.index (carrier_sort c.args.sort)
    (is_missing (type_at (context_of c.args.types.now c.args.state.now) c.args.index) (error_kind c.in-Err.field-0) c.in-Err.ensures.err.0)
