use Rattle.wcv_world.proofs.Features.{trees_blind, item_free, items_free, recorded_free, linked_free, root_free}
use Rattle.wcv_lower.specs.Trees.{tree_maker}
use Rattle.wcv_world.proofs.laws.growth_looks_at_no_feature.Goals as goal

pub returns : goal.returns
returns c = record {
  item = λ fs gs names p s f. item_free fs gs (tree_maker names) (trees_blind fs gs names) p s f;
  items = λ fs gs names p k s is. items_free fs gs (tree_maker names) (trees_blind fs gs names) p k s is;
  recorded = λ fs gs names hs is. recorded_free fs gs names hs is;
  linked = λ fs gs n w R is args. linked_free fs gs n w R is args;
  root = λ fs gs n w r is args. root_free fs gs n w r is args;
}
