use Rattle.wcv_lower.proofs.ItemLaws.{read_item-agrees, item_causes-agree}
use Rattle.wcv_lower.proofs.laws.items_look_at_names_of_their_places_alone.Goals as goal

pub returns : goal.returns
returns c = record { growth = read_item-agrees; causes = item_causes-agree }
