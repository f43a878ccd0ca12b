use Rattle.std.proofs.Common.{arith}
use Rattle.wcv_core.specs.CoreGroups.{total, IsFieldWithin}
use Rattle.wcv_core.specs.CoreRules.{id_field}
use Rattle.wcv_core.proofs.Within.{mapped_within, mapped_seen}
use Rattle.wcv_core.proofs.core_rows.Rows.fields_shared.Goals as goal

pub id_field-field-requires : goal.id_field-field-requires
id_field-field-requires c = mapped_within (IsFieldWithin (total c.args.self.now) 0) (id_field c.args.first) c.args.fields.now c.loop-i.i _ c.requires (omega arith)

pub field_shared-requires : goal.field_shared-requires
field_shared-requires c =
    mapped_seen (IsFieldWithin (total c.args.self.now) 0) (id_field c.args.first) c.args.fields.now c.loop-i.i _ c.id_field-field.result c.requires (omega arith) c.id_field-field.ensures
