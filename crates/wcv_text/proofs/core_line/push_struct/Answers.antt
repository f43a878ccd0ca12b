use Rattle.std.proofs.Common.{◌≡◌, ◌++◌, [], codes, map, rules, string_bytes, OnOk}
use Rattle.std.proofs.lemmas.Result.{on_ok_weaker}
use Rattle.wcv_types.specs.CoreText.{field_text}
use Rattle.wcv_types.specs.Quoting.{listed}
use Rattle.wcv_types.specs.Tree.{Text}
use Rattle.wcv_text.specs.Numbers.{so_far, Appends}
use Rattle.wcv_text.proofs.Pieces.{in_braces}
use Rattle.wcv_text.proofs.core_line.push_struct.Goals as goal

pub returns : goal.returns
returns c =
    let start : Text = string_bytes c.args.text.now in
    let first : string_bytes c.push_str.new.self ≡ start ++ codes "struct {" = search rules in
    let end : OnOk c.push_str-2.result (string_bytes c.push_str-2.new.self ≡ string_bytes c.push_fields.new.text ++ codes "}") = search rules in
    on_ok_weaker {Q = Appends c.args.numbers.now start (string_bytes c.push_str-2.new.self) (λ w. codes "struct {" ++ listed [] (map (field_text w.core w.groups) c.args.fields.now) ++ codes "}")} c.push_str-2.result
    (λ last t. in_braces start (string_bytes c.push_str.new.self) (string_bytes c.push_fields.new.text) _ (codes "struct {") (listed [] (map (field_text (so_far c.args.numbers.now t).core (so_far c.args.numbers.now t).groups) c.args.fields.now)) first (c.in_ok-push_fields.ensures t) last)
    end
