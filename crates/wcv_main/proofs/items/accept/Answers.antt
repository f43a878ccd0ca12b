use Rattle.std.proofs.Common.{◌∙◌, Err, ap}
use Rattle.wcv_main.specs.declared.status.Status.TheVariants as status
use Rattle.wcv_main.proofs.Ending.{done_finishes, failed_finishes, memory_finishes}
use Rattle.wcv_main.proofs.items.accept.Goals as goal

pub returns-in-Ok : goal.returns-in-Ok
returns-in-Ok g c = done_finishes c.write_report.result status.Done _ _ _ _ _ c.write_report.ensures c.in-Ok.is

pub returns-in-Err-Failed : goal.returns-in-Err-Failed
returns-in-Err-Failed g c = failed_finishes c.write_report.result status.Done _ _ _ _ _ c.write_report.ensures (c.in-Err-Failed.is ∙ ap Err c.in-Err-Failed.field-0-is)

pub returns-in-Err-Memory : goal.returns-in-Err-Memory
returns-in-Err-Memory g c = memory_finishes c.write_report.result status.Done _ _ _ _ _ c.write_report.ensures (c.in-Err-Memory.is ∙ ap Err c.in-Err-Memory.field-0-is)
