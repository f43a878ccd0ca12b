use Rattle.std.proofs.Common.{subst}
use Rattle.json.specs.Token.{Token}
use Rattle.std.specs.Prelude.{List}
use Rattle.wcv_listing.specs.Root.{ReadsRoot}
use Rattle.wcv_listing.proofs.root.read_whole.Goals as goal

pub returns-in-None-clause-ok : goal.returns-in-None-clause-ok
returns-in-None-clause-ok c = subst (λ (ts : List Token). ReadsRoot c.args.reader.now ts c.read_root.new.seen) c.in-None.ensures.value.0 c.in_ok-read_root.ensures.ok
