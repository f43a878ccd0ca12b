use Rattle.wcv_core.specs.CoreGroups.{total}
use Rattle.wcv_core.specs.CoreSizes.{IsEntityWithin}
use Rattle.wcv_matching.specs.ModuleItems.{ItemsMatch}
use Rattle.wcv_matching.specs.TableMatching.{ByIds}
use Rattle.wcv_matching.proofs.ItemTests.{item_to, item_from}
use Rattle.wcv_matching.proofs.ItemsInside.{matching-carried, opening-carried}
use Rattle.wcv_matching.proofs.laws.matching_is_told_by_ids.Goals as goal

pub returns-clause-to : goal.returns-clause-to
returns-clause-to c gs a b t i j m = matching-carried (IsEntityWithin (total gs)) (ItemsMatch gs) (ByIds gs) (item_from gs t) a b i j m

pub returns-clause-from : goal.returns-clause-from
returns-clause-from c gs a b t i j m = matching-carried (IsEntityWithin (total gs)) (ByIds gs) (ItemsMatch gs) (item_to gs t) a b i j m

pub returns-clause-opens : goal.returns-clause-opens
returns-clause-opens c gs s args x t i j o = opening-carried (IsEntityWithin (total gs)) (ItemsMatch gs) (ByIds gs) (item_from gs t) s args x i j o

pub returns-clause-opened : goal.returns-clause-opened
returns-clause-opened c gs s args x t i j o = opening-carried (IsEntityWithin (total gs)) (ByIds gs) (ItemsMatch gs) (item_to gs t) s args x i j o
