use Rattle.wcv_types.proofs.AddedAgain.{led_stands}
use Rattle.wcv_types.proofs.store.TypeAllocNodeStore.view.Goals as goal

pub returns-clause-led : goal.returns-clause-led
returns-clause-led g c = led_stands _ _ _ (c.nodes_fit.ensures.again _ _ c.node.ensures.found) c.node.ensures.unfolds
