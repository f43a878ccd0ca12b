use Rattle.wcv_write.specs.Externs.{ref_data}
use Rattle.wcv_write.proofs.externs.write_ref.Goals as goal

pub returns-in-Component : goal.returns-in-Component
unfolding ref_data
returns-in-Component g c = rw c.in-Component.is c.write_index_under-in-Component.ensures
