use Rattle.std.proofs.Common.{◌∙◌, refl, sym}
use Rattle.wcv_core.specs.Names.{same}
use Rattle.wcv_text.specs.Numbers.{name_of}
use Rattle.wcv_text.proofs.Keys.{position_mapped}
use Rattle.wcv_text.proofs.numbers.Numbers.resource_number.Goals as goal

pub returns : goal.returns
returns c = c.number.ensures ∙ sym (position_mapped name_of _ same (λ x y. refl) c.args.resource c.args.self.now.resources)
