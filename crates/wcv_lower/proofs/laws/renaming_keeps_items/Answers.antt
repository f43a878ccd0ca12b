use Rattle.wcv_lower.proofs.ItemLaws.{read_item-renamed, item_causes-renamed, item_there}
use Rattle.wcv_lower.proofs.laws.renaming_keeps_items.Goals as goal

pub returns : goal.returns
returns c = record { growth = read_item-renamed; causes = item_causes-renamed; free = item_there }
