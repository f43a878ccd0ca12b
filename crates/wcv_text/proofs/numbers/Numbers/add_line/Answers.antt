use Rattle.std.proofs.Common.{◌∙◌, sym}
use Rattle.wcv_types.specs.Identity.{same_identity}
use Rattle.wcv_text.specs.Identity.{known}
use Rattle.wcv_text.proofs.Keys.{there_mapped, same_node}
use Rattle.wcv_text.proofs.numbers.Numbers.add_line.Goals as goal

pub push-requires : goal.push-requires
push-requires c = sym (there_mapped known _ same_identity same_node c.args.node c.args.self.now.nodes) ∙ c.requires
