use Rattle.std.proofs.Common.{arith, rules, ◌≡◌, length, None, inl}
use Rattle.wcv_core.specs.CoreForm.{Group, sub_form, group_form}
use Rattle.wcv_core.specs.CoreGroups.{id_of}
use Rattle.wcv_core.proofs.Joining.{limit_free}
use Rattle.wcv_core.proofs.Rowing.{length-map}
use Rattle.wcv_core.proofs.core_table.CoreTypes.intern.Goals as goal

pub returns-in-Ok-add-clause-free : goal.returns-in-Ok-add-clause-free
returns-in-Ok-add-clause-free c =
    let g : Group = group_form c.args.group in
    let m : length g ≡ length c.args.group.types.items = length-map sub_form c.args.group.types.items in
    let a : id_of c.args.self.now g ≡ None = search rules in
    limit_free c.args.self.now g c.len.result a (omega (arith, c.len.ensures)) c.in-Ok-check_room.ensures.ok

pub returns-in-Err-clause-cause : goal.returns-in-Err-clause-cause
returns-in-Err-clause-cause c = inl (search rules)
