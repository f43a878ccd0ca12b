use Rattle.wcv_growth.proofs.Ended.{valid_lists}
use Rattle.wcv_growth.proofs.NestedListed.{nested_list}
use Rattle.wcv_growth.proofs.laws.each_free_resource_is_listed.Goals as goal

pub returns : goal.returns
returns c = record { root = valid_lists; nested = nested_list }
