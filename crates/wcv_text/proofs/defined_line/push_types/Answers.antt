use Rattle.std.proofs.Common.{◌≡◌, ◌++◌, codes, arith, rules, string_bytes}
use Rattle.wcv_text.specs.Mentions.{separator}
use Rattle.wcv_text.specs.Numbers.{so_far}
use Rattle.wcv_text.proofs.Pieces.{next_type}
use Rattle.wcv_text.proofs.defined_line.push_types.Goals as goal

pub loop-index-preserved : goal.loop-index-preserved
loop-index-preserved c = λ t.
    let before : string_bytes c.push_str.new.self ≡ string_bytes c.loop-index.text ++ separator (codes ", ") c.loop-index.index = search rules in
    next_type (so_far c.args.numbers.now t) (string_bytes c.loop-index.text) (string_bytes c.push_str.new.self) (string_bytes c.push_value.new.text) _ c.loop-index.index _ c.args.types.now (omega arith) before
    (c.in_ok-push_value.ensures t) (c.loop-index.invariant t)
