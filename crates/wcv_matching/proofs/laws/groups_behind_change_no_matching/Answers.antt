use Rattle.std.specs.Prelude.{◌++◌}
use Rattle.wcv_core.specs.CoreGroups.{total}
use Rattle.wcv_core.specs.CoreSizes.{IsEntityWithin}
use Rattle.wcv_matching.specs.ModuleItems.{ItemsMatch}
use Rattle.wcv_matching.proofs.ItemsInside.{items_stay, items_stood, matching-carried, opening-carried}
use Rattle.wcv_matching.proofs.laws.groups_behind_change_no_matching.Goals as goal

pub returns-clause-to : goal.returns-clause-to
returns-clause-to c gs hs a b i j m = matching-carried (IsEntityWithin (total gs)) (ItemsMatch gs) (ItemsMatch (gs ++ hs)) (items_stay gs hs) a b i j m

pub returns-clause-from : goal.returns-clause-from
returns-clause-from c gs hs a b i j m = matching-carried (IsEntityWithin (total gs)) (ItemsMatch (gs ++ hs)) (ItemsMatch gs) (items_stood gs hs) a b i j m

pub returns-clause-opens : goal.returns-clause-opens
returns-clause-opens c gs hs s args x i j o = opening-carried (IsEntityWithin (total gs)) (ItemsMatch gs) (ItemsMatch (gs ++ hs)) (items_stay gs hs) s args x i j o

pub returns-clause-opened : goal.returns-clause-opened
returns-clause-opened c gs hs s args x i j o = opening-carried (IsEntityWithin (total gs)) (ItemsMatch (gs ++ hs)) (ItemsMatch gs) (items_stood gs hs) s args x i j o
