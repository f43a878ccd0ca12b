use Rattle.wcv_growth.proofs.Ordering.{in-order}
use Rattle.wcv_growth.proofs.reached_laws.valid_items_leave_a_stack_in_order.Goals as goal

pub returns : goal.returns
returns c fs w k s r = in-order fs w k s r
