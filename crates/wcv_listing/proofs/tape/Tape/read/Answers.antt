use Rattle.std.proofs.Common.{◌≡◌, [], ap, ◌∙◌, arith}
use Rattle.wcv_listing.specs.Parsed.{value_in_range}
use Rattle.wcv_listing.proofs.Kept.{nothing_read}
use Rattle.wcv_listing.proofs.tape.Tape.read.Goals as goal

pub returns-in_err-token-clause-err : goal.returns-in_err-token-clause-err
returns-in_err-token-clause-err c invalid =
    let empty : c.args.reader.now ≡ [] = grind arith in
    ap (value_in_range c.args.depth) empty ∙ nothing_read c.args.depth
