use Rattle.wcv_core.specs.Limits.{max_listing}
use Rattle.std.proofs.Common.{◌<◌, ◌≤◌, List, ℕ, length, rules}
use Rattle.wcv_main.specs.declared.reading.Reading.{Reading}
use Rattle.wcv_main.proofs.Ending.{ends_short, ends_too_long}
use Rattle.wcv_main.proofs.top.answer.Goals as goal

pub returns-then-bytes-gt-MAX_LISTING : goal.returns-then-bytes-gt-MAX_LISTING
returns-then-bytes-gt-MAX_LISTING g c =
    let long : max_listing < length c.args.bytes.now = search rules in
    ends_too_long c.args.reading c.args.bytes.now c.answer_long.result _ _ _ _ long c.answer_long.ensures
