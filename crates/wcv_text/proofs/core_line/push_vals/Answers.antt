use Rattle.std.proofs.Common.{◌≡◌, ◌++◌, codes, arith, rules, string_bytes}
use Rattle.wcv_types.specs.CoreText.{val_text}
use Rattle.wcv_text.specs.Mentions.{separator}
use Rattle.wcv_text.specs.Numbers.{so_far}
use Rattle.wcv_text.proofs.Spacing.{next_spaced, all_spaced}
use Rattle.wcv_text.proofs.core_line.push_vals.Goals as goal

pub loop-index-preserved : goal.loop-index-preserved
loop-index-preserved c = λ t.
    let before : string_bytes c.push_str.new.self ≡ string_bytes c.loop-index.text ++ separator (codes " ") c.loop-index.index = search rules in
    next_spaced (val_text (so_far c.args.numbers.now t).core (so_far c.args.numbers.now t).groups) (string_bytes c.loop-index.text) (string_bytes c.push_str.new.self) (string_bytes c.push_val.new.text) _ c.loop-index.index _ c.args.types.now (omega arith) before
    (c.in_ok-push_val.ensures t) (c.loop-index.invariant t)

pub returns : goal.returns
returns c = λ t. all_spaced (val_text (so_far c.args.numbers.now t).core (so_far c.args.numbers.now t).groups) (string_bytes c.loop-index.text) _ (separator (codes " ") c.loop-index.index) c.loop-index.index c.args.types.now (search rules) (c.loop-index.invariant t)
