use Rattle.wcv_lower.specs.Trees.{tree_maker}
use Rattle.wcv_growth.proofs.OnlyGrew.{item_grew, items_grew, valid_grew}
use Rattle.wcv_growth.proofs.kept_laws.growth_keeps_what_stood.Goals as goal

pub returns : goal.returns
returns c = record { item = λ f names. item_grew f (tree_maker names); items = λ f names. items_grew f (tree_maker names); valid = valid_grew }
