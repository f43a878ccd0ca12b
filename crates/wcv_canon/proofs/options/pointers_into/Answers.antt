use Rattle.std.proofs.Common.{sym, ◌∙◌}
use Rattle.std.specs.Prelude.{slice_get}
use Rattle.wcv_core.specs.Refusal.{error_kind}
use Rattle.wcv_canon.proofs.Carriers.{is_missing}
use Rattle.wcv_canon.proofs.Found.{pointers_found, pointers_none}
use Rattle.wcv_canon.proofs.options.pointers_into.Goals as goal

pub returns-in-Ok : goal.returns-in-Ok
returns-in-Ok c = c.size_of.ensures ∙ sym (pointers_found c.args.types.now c.args.state.now c.args.index c.in-Ok.ty c.in-Ok.ensures.ok)

pub returns-in-Err : goal.returns-in-Err
returns-in-Err c = sym (pointers_none c.args.types.now c.args.state.now c.args.index (is_missing (slice_get c.args.state.now.spaces.core_memories c.args.index) (error_kind c.in-Err.field-0) c.in-Err.ensures.err.0))
