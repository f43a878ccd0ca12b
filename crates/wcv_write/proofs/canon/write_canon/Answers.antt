use Rattle.wcv_write.specs.Canons.{canon_data}
use Rattle.wcv_write.proofs.canon.write_canon.Goals as goal

pub returns-in-TaskReturn : goal.returns-in-TaskReturn
unfolding canon_data
returns-in-TaskReturn g c = rw c.in-TaskReturn.is (rw c.deref-in-TaskReturn.ensures.value at c.write_return_under.ensures)

pub returns-in-ErrorContextNew : goal.returns-in-ErrorContextNew
unfolding canon_data
returns-in-ErrorContextNew g c = rw c.in-ErrorContextNew.is (rw c.deref-in-ErrorContextNew.ensures.value at c.write_options_under.ensures)

pub returns-in-ErrorContextDebugMessage : goal.returns-in-ErrorContextDebugMessage
unfolding canon_data
returns-in-ErrorContextDebugMessage g c =
    rw c.in-ErrorContextDebugMessage.is (rw c.deref-in-ErrorContextDebugMessage.ensures.value at c.write_options_under-in-ErrorContextDebugMessage.ensures)
