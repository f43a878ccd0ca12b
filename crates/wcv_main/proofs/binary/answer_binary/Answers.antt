use Rattle.wcv_main.specs.declared.reading.Reading.TheVariants.{Binary}
use Rattle.wcv_main.specs.Due.{due_of_short}
use Rattle.wcv_main.proofs.Ending.{nothing_ends}
use Rattle.wcv_main.proofs.binary.answer_binary.Goals as goal

pub returns-in-Err-OutOfMemory : goal.returns-in-Err-OutOfMemory
returns-in-Err-OutOfMemory g c = nothing_ends (due_of_short (Binary c.args.features) c.args.bytes.now) _ _
