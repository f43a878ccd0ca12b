-- Items of a table match as their ids say.
use Rattle.std.proofs.Common.{List}
use Rattle.wcv_core.specs.CoreForm.{Group}
use Rattle.wcv_core.specs.CoreGroups.{total}
use Rattle.wcv_core.specs.CoreSizes.{IsEntityWithin}
use Rattle.wcv_core.specs.declared.core_types.EntityType.{EntityType}
use Rattle.wcv_core.specs.declared.core_types.EntityType.TheVariants as entity
use Rattle.wcv_closed.specs.ClosedTable.{IsTable}
use Rattle.wcv_closed.specs.ClosedValue.{closed_item}
use Rattle.wcv_closed.specs.ClosedMatching.{SupersKeepForm}
use Rattle.wcv_closed.specs.ClosedItems.{IsItemClosed, ItemKeepsForm}
use Rattle.wcv_closed.proofs.MatchingIds.{val_closed, val_keeps}

module _ (gs : List Group) (t : IsTable gs) where
  pub item_closed : (e : EntityType) → IsEntityWithin (total gs) e → IsItemClosed (closed_item gs e)
  item_closed (entity.Func i) w = tt
  item_closed (entity.Tag i) w = tt
  item_closed (entity.Table i) w = tt
  item_closed (entity.Memory m) w = tt
  item_closed (entity.Global g) w = val_closed gs t g.content_type w

  pub item_keeps : SupersKeepForm gs → (e : EntityType) → IsEntityWithin (total gs) e → ItemKeepsForm (closed_item gs e)
  item_keeps s (entity.Func i) w = tt
  item_keeps s (entity.Tag i) w = tt
  item_keeps s (entity.Table i) w = tt
  item_keeps s (entity.Memory m) w = tt
  item_keeps s (entity.Global g) w = val_keeps gs t s g.content_type w
