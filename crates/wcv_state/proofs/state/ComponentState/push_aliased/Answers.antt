use Rattle.std.proofs.Common.{ap}
use Rattle.wcv_state.specs.Aliasing.{is_entity}
use Rattle.wcv_state.proofs.state.ComponentState.push_aliased.Goals as goal

pub push_core_type-requires-clause-room : goal.push_core_type-requires-clause-room
push_core_type-requires-clause-room c = c.requires.room (ap is_entity c.in-CoreType.is)
