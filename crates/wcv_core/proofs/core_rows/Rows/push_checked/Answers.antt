use Rattle.std.proofs.Common.{arith, ◌≡◌, ◌++◌, ◌∷◌, [], length, ap}
use Rattle.wcv_core.specs.CoreForm.{Group, sub_form, group_form}
use Rattle.wcv_core.specs.CoreGroups.{total}
use Rattle.wcv_core.proofs.Rowing.{length-map, total-append}
use Rattle.wcv_core.proofs.core_rows.Rows.push_checked.Goals as goal

pub check_types-requires : goal.check_types-requires
check_types-requires c =
    let g : Group = group_form c.args.group in
    let t : total c.push.new.self ≡ total (c.args.self.now ++ g ∷ []) = ap total c.in-Ok.ensures.ok in
    let m : length g ≡ length c.args.group.types.items = length-map sub_form c.args.group.types.items in
    omega (arith, c.len-count.ensures, c.len-first.ensures, total-append c.args.self.now g)
