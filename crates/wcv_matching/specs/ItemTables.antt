-- Matching of tables, whatever the table of core types.
use Rattle.std.specs.Prelude.{List}
use Rattle.wcv_core.specs.CoreForm.{Group}
use Rattle.wcv_core.specs.CoreGroups.{IsHeapWithin, total}
use Rattle.wcv_core.specs.declared.core_types.EntityType.TheVariants as entity
use Rattle.wcv_core.specs.declared.core_types.TableType.{TableType}
use Rattle.wcv_closed.specs.ClosedItems.{ItemMatches}
use Rattle.wcv_closed.specs.ClosedTable.{IsTable}
use Rattle.wcv_closed.specs.ClosedValue.{closed_item}

-- the one table matches the other, over some table of core types that has those in both
pub record AnyTableMatches (a b : TableType) : Type 0 where
  pub groups : List Group
  pub kept : IsTable groups
  pub left : IsHeapWithin (total groups) 0 a.element_type.heap
  pub right : IsHeapWithin (total groups) 0 b.element_type.heap
  pub matches : ItemMatches (closed_item groups (entity.Table a)) (closed_item groups (entity.Table b))
