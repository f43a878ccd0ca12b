use Rattle.std.proofs.Common.{◌∙◌, sym}
use Rattle.wcv_types.specs.Identity.{same_identity}
use Rattle.wcv_text.specs.Identity.{known}
use Rattle.wcv_text.proofs.Keys.{position_mapped, same_node}
use Rattle.wcv_text.proofs.numbers.Numbers.line.Goals as goal

pub returns : goal.returns
returns c = c.number.ensures ∙ sym (position_mapped known _ same_identity same_node c.args.node c.args.self.now.nodes)
