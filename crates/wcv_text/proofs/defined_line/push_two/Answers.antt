use Rattle.std.proofs.Common.{◌≡◌, ◌++◌, codes, rules, string_bytes}
use Rattle.std.proofs.lemmas.Result.{on_ok_weaker}
use Rattle.wcv_types.specs.Tree.{Text}
use Rattle.wcv_text.specs.Mentions.{option_text}
use Rattle.wcv_text.specs.Numbers.{so_far}
use Rattle.wcv_text.proofs.Pieces.{two_pieces}
use Rattle.wcv_text.proofs.defined_line.push_two.Goals as goal

pub returns : goal.returns
returns c =
    let start : Text = string_bytes c.args.text.now in
    let word : string_bytes c.push_str.new.self ≡ start ++ c.args.word.now = search rules in
    let space : string_bytes c.push_str-2.new.self ≡ string_bytes c.push_option.new.text ++ codes " " = search rules in
    on_ok_weaker c.push_option-2.result
    (λ last t. two_pieces start (string_bytes c.push_str.new.self) (string_bytes c.push_option.new.text) (string_bytes c.push_str-2.new.self) _ c.args.word.now
    (option_text (so_far c.args.numbers.now t) c.args.first) (option_text (so_far c.args.numbers.now t) c.args.second) word (c.in_ok-push_option.ensures t) space (last t))
    c.push_option-2.ensures
