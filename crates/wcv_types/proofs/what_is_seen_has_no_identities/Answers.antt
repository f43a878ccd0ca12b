use Rattle.wcv_types.proofs.Seen.{seen-aside}
use Rattle.wcv_types.proofs.what_is_seen_has_no_identities.Goals as goal

pub returns : goal.returns
returns c = seen-aside
