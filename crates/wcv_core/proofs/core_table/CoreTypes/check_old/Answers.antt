use Rattle.std.proofs.Common.{arith, ◌≡◌, ◌+◌, ◌≤◌, length, ap}
use Rattle.wcv_core.specs.CoreForm.{sub_form, group_form}
use Rattle.wcv_core.specs.CoreGroups.{total}
use Rattle.wcv_core.proofs.Rowing.{length-map}
use Rattle.wcv_core.proofs.Joining.{old_room}
use Rattle.wcv_core.proofs.core_table.CoreTypes.check_old.Goals as goal

pub check_types-requires : goal.check_types-requires
check_types-requires c =
    let v : total c.self.inside.rows ≡ total c.args.self.now = ap total c.self.view_is in
    let m : length (group_form c.args.group.now) ≡ length c.args.group.now.types.items = length-map sub_form c.args.group.now.types.items in
    let r : c.args.first + length (group_form c.args.group.now) ≤ total c.args.self.now = old_room c.args.self.now (group_form c.args.group.now) c.args.first c.requires in
    omega (arith, c.len.ensures)

pub returns-in-Ok-clause-room : goal.returns-in-Ok-clause-room
returns-in-Ok-clause-room c = old_room c.args.self.now (group_form c.args.group.now) c.args.first c.requires
