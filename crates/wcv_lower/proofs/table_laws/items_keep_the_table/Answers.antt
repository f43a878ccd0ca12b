use Rattle.wcv_lower.specs.Trees.{tree_maker}
use Rattle.wcv_lower.proofs.TableReading.{stands_at_first, inside_stands, ended_stands, type_stands, item_stands, items_stand}
use Rattle.wcv_lower.proofs.table_laws.items_keep_the_table.Goals as goal

pub returns : goal.returns
returns c = record {
  first = stands_at_first;
  item = item_stands;
  items = items_stand;
  declared = type_stands;
  opened = inside_stands;
  closed = λ k n p s t h e. ended_stands k (tree_maker n p) s t h e;
}
