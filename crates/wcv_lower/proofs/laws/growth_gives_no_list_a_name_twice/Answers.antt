use Rattle.wcv_lower.specs.Trees.{tree_reader, tree_maker}
use Rattle.wcv_lower.proofs.EntryLaws.{written_is}
use Rattle.wcv_lower.proofs.NewNames.{trees_tell, ids_tell}
use Rattle.wcv_lower.proofs.SidesKept.{item_differ, items_differ, decl_differ, inside_differ, bag_differs}
use Rattle.wcv_lower.proofs.laws.growth_gives_no_list_a_name_twice.Goals as goal

pub returns : goal.returns
returns c = record {
  item = λ fs n p s t f. item_differ fs (tree_maker n) p s t f;
  items = λ fs n p k s t is. items_differ fs (tree_maker n) p k s t is;
  declaration = λ fs n p s t d. decl_differ fs (tree_maker n) p s t d;
  opened = inside_differ;
  listed = bag_differs;
  told = trees_tell;
  told_of_ids = ids_tell;
  written = λ n p. written_is tree_reader (tree_maker n p);
}
