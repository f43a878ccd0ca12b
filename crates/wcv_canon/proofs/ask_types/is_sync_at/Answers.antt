use Rattle.std.proofs.Common.{sym}
use Rattle.std.specs.Prelude.{slice_get}
use Rattle.wcv_core.specs.Refusal.{error_kind}
use Rattle.wcv_lower.specs.Context.{in_funcs}
use Rattle.wcv_spaces.proofs.Found.{stands_at}
use Rattle.wcv_canon.proofs.Carriers.{is_missing}
use Rattle.wcv_canon.proofs.Found.{async_looked, no_func}
use Rattle.wcv_canon.proofs.ask_types.is_sync_at.Goals as goal

pub get-requires : goal.get-requires
get-requires c = stands_at c.args.types.now c.args.state.now c.requires.stands in_funcs c.args.index c.in-Ok.id c.in-Ok.ensures.ok

pub returns-in-Ok : goal.returns-in-Ok
returns-in-Ok c = sym (async_looked c.args.types.now c.args.state.now c.requires.stands c.args.index c.in-Ok.id c.get.result.now c.in-Ok.ensures.ok c.get.ensures.unfolds)

pub returns-in-Err : goal.returns-in-Err
returns-in-Err c = sym (no_func c.args.types.now c.args.state.now c.requires.stands c.args.index (is_missing (slice_get c.args.state.now.spaces.funcs c.args.index) (error_kind c.in-Err.field-0) c.in-Err.ensures.err.0))
