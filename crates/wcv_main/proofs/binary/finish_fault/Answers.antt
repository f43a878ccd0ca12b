use Rattle.std.proofs.Common.{◌++◌, inr, refl, []}
use Rattle.std.specs.Prelude.{codes}
use Rattle.std.specs.Fmt.{decimal}
use Rattle.wcv_main.specs.Report.{line}
use Rattle.wcv_main.proofs.Known.{appends_nothing}
use Rattle.wcv_main.proofs.binary.finish_fault.Goals as goal

pub returns-in-Err : goal.returns-in-Err
returns-in-Err g c = (line (c.args.words.now ++ codes " at " ++ decimal c.args.fault.at) ++ line [], ([], refl), inr (inr (refl, (0, appends_nothing _), refl)))
