use Rattle.std.proofs.Common.{take}
use Rattle.wcv_types.specs.ByName.{AreFirsts, texts_in}
use Rattle.wcv_types.proofs.by_name.firsts_of.Given as goal

-- those of the pairs so far
abbrev pub invariant-loop-place : goal.invariant-loop-place
invariant-loop-place g l = AreFirsts l.firsts.by_number l.firsts.by_bytes (texts_in (take l.place l.entries))
