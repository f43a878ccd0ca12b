use Rattle.wcv_types.proofs.Replace.{substitute-id}
use Rattle.wcv_types.proofs.replacing_by_itself_changes_nothing.Goals as goal

pub returns : goal.returns
returns c = substitute-id
