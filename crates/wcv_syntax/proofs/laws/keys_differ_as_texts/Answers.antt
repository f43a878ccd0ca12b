use Rattle.wcv_syntax.proofs.KeyTexts.{one_key}
use Rattle.wcv_syntax.proofs.laws.keys_differ_as_texts.Goals as goal

pub returns : goal.returns
returns c = one_key
