use Rattle.std.proofs.Common.{subst}
use Rattle.std.specs.Prelude.{OnOk, IfErr}
use Rattle.wcv_lower.specs.Checks.{Checks, IsFree}
use Rattle.wcv_spaces.specs.Parts.{lists}
use Rattle.wcv_spaces.specs.Promises.{MemoryOrCausedBy}
use Rattle.wcv_spaces.proofs.Rooms.{room_same}
use Rattle.wcv_spaces.proofs.entries.check_room.Goals as goal

pub returns-clause-ok : goal.returns-clause-ok
returns-clause-ok c =
    subst (λ (cs : Checks). OnOk c.check_count.result (IsFree cs)) (room_same c.args.types.now (lists c.args.spaces.now) c.args.ty.now c.room_limit.result c.room_count.result c.requires c.room_limit.ensures c.room_count.ensures) c.check_count.ensures.ok

pub returns-clause-err : goal.returns-clause-err
returns-clause-err c =
    subst (λ (cs : Checks). IfErr c.check_count.result (MemoryOrCausedBy cs c.args.offset)) (room_same c.args.types.now (lists c.args.spaces.now) c.args.ty.now c.room_limit.result c.room_count.result c.requires c.room_limit.ensures c.room_count.ensures) c.check_count.ensures.err
