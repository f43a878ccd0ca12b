use Rattle.wcv_safety.proofs.NoItems.{empty-safe}
use Rattle.wcv_safety.proofs.laws.a_root_without_items_is_safe.Goals as goal

pub returns : goal.returns
returns c fs w r t g args k root fit = empty-safe fs w r t g args k root
