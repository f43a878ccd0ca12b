use Rattle.wcv_state.proofs.ItemsAt.{item_stands}
use Rattle.wcv_instances.proofs.component_instances.find_item.Goals as goal

pub check_lending-requires : goal.check_lending-requires
check_lending-requires c = item_stands c.args.types.now c.args.state.now c.requires c.args.export.now.kind c.args.export.now.index c.in_ok-item.item c.in_ok-item.ensures.ok
