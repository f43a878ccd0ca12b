use Rattle.wcv_syntax.proofs.Cuts.{splits, splits-whole}
use Rattle.wcv_syntax.proofs.name_kind.around.Goals as goal

pub returns-clause-cut : goal.returns-clause-cut
returns-clause-cut c = splits c.args.byte c.args.text.now c.split_once.result c.requires c.split_once.ensures.cases

pub returns-clause-whole : goal.returns-clause-whole
returns-clause-whole c = splits-whole c.args.byte c.args.text.now c.split_once.result c.requires c.split_once.ensures.cases
