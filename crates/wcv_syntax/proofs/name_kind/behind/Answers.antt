use Rattle.wcv_syntax.proofs.Cuts.{strips}
use Rattle.wcv_syntax.proofs.name_kind.behind.Goals as goal

pub returns : goal.returns
returns c = strips c.args.mark.now c.args.text.now c.strip_prefix.result c.strip_prefix.ensures.cases
