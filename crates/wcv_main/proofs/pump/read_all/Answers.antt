use Rattle.std.proofs.Common.{rules}
use Rattle.wcv_main.proofs.Known.{at_most_more}
use Rattle.wcv_main.proofs.pump.read_all.Goals as goal

pub returns-in_err-read_some-clause-bounded : goal.returns-in_err-read_some-clause-bounded
returns-in_err-read_some-clause-bounded g c =
    at_most_more _ _ _ c.loop-chunk.bytes.items _ _ c.loop-chunk.invariant.bytes c.read_some.ensures.bounded (search rules)
