use Rattle.wcv_types.proofs.Replace.{substitute-ext}
use Rattle.wcv_types.proofs.replacing_looks_at_free_resources.Goals as goal

pub returns : goal.returns
returns c = substitute-ext
