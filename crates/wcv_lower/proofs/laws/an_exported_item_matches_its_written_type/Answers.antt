use Rattle.wcv_lower.specs.Trees.{tree_reader, tree_maker}
use Rattle.wcv_lower.proofs.EntryLaws.{written_is_matched}
use Rattle.wcv_lower.proofs.laws.an_exported_item_matches_its_written_type.Goals as goal

pub returns : goal.returns
returns c fs n p s e r q h = written_is_matched tree_reader fs (tree_maker n p) s e r q h
