use Rattle.wcv_bytes.proofs.Numbers.{short_u32}
use Rattle.wcv_bytes.proofs.number.read_u32.Goals as goal

pub returns-then-b-lt128 : goal.returns-then-b-lt128
returns-then-b-lt128 c = short_u32 c.args.bytes.now c.in-len1-up.len_at_least c.if-b-lt128.true
