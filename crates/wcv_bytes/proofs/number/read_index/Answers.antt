use Rattle.wcv_bytes.proofs.Numbers.{short_index}
use Rattle.wcv_bytes.proofs.number.read_index.Goals as goal

pub returns-then-b-lt64 : goal.returns-then-b-lt64
returns-then-b-lt64 c = short_index c.args.bytes.now c.in-len1-up.len_at_least c.if-b-lt64.true
