use Rattle.std.proofs.Common.{◌≡◌, ◌++◌, [], codes, rules, string_bytes, OnOk}
use Rattle.std.proofs.lemmas.Result.{on_ok_weaker}
use Rattle.wcv_types.specs.Text.{listed}
use Rattle.wcv_types.specs.Tree.{Text}
use Rattle.wcv_text.specs.DefinedLine.{cases_said}
use Rattle.wcv_text.specs.Numbers.{so_far, Appends}
use Rattle.wcv_text.proofs.Pieces.{in_braces}
use Rattle.wcv_text.proofs.defined_line.push_variant.Goals as goal

pub returns : goal.returns
returns c =
    let start : Text = string_bytes c.args.text.now in
    let first : string_bytes c.push_str.new.self ≡ start ++ codes "variant {" = search rules in
    let end : OnOk c.push_str-2.result (string_bytes c.push_str-2.new.self ≡ string_bytes c.push_cases.new.text ++ codes "}") = search rules in
    on_ok_weaker {Q = Appends c.args.numbers.now start (string_bytes c.push_str-2.new.self) (λ w. codes "variant {" ++ listed [] (cases_said w c.args.cases.now) ++ codes "}")} c.push_str-2.result
    (λ last t. in_braces start (string_bytes c.push_str.new.self) (string_bytes c.push_cases.new.text) _ (codes "variant {") (listed [] (cases_said (so_far c.args.numbers.now t) c.args.cases.now)) first (c.in_ok-push_cases.ensures t) last)
    end
