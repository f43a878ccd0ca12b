use Rattle.std.proofs.Common.{arith}
use Rattle.wcv_core.specs.CoreGroups.{total, IsValWithin}
use Rattle.wcv_core.specs.CoreRules.{id_val}
use Rattle.wcv_core.proofs.Within.{mapped_within, mapped_seen}
use Rattle.wcv_core.proofs.core_rows.Rows.vals_shared.Goals as goal

pub id_val-ty-requires : goal.id_val-ty-requires
id_val-ty-requires c = mapped_within (IsValWithin (total c.args.self.now) 0) (id_val c.args.first) c.args.types.now c.loop-i.i _ c.requires (omega arith)

pub val_shared-requires : goal.val_shared-requires
val_shared-requires c =
    mapped_seen (IsValWithin (total c.args.self.now) 0) (id_val c.args.first) c.args.types.now c.loop-i.i _ c.id_val-ty.result c.requires (omega arith) c.id_val-ty.ensures
