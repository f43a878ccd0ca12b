use Rattle.std.proofs.Common.{◌≡◌, ◌++◌, ◌∙◌, ap, codes, rules, append_assoc, string_bytes}
use Rattle.std.proofs.lemmas.Result.{on_ok_weaker}
use Rattle.wcv_types.specs.CoreText.{item_text}
use Rattle.wcv_types.specs.Quoting.{quoted}
use Rattle.wcv_types.specs.Tree.{Text}
use Rattle.wcv_text.specs.Numbers.{so_far}
use Rattle.wcv_text.proofs.core_item_line.push_import.Goals as goal

pub returns : goal.returns
returns c =
    let start : Text = string_bytes c.args.text.now in
    let of : Text = quoted c.args.entry.now.0.0 in
    let name : Text = quoted c.args.entry.now.0.1 in
    let first : string_bytes c.push_label.new.text ≡ start ++ (codes "import " ++ of ++ codes " ") = search rules in
    let second : string_bytes c.push_label-2.new.text ≡ string_bytes c.push_label.new.text ++ (name ++ codes " ") = search rules in
    on_ok_weaker c.push_item.result
    (λ said t. behind start (string_bytes c.push_label.new.text) (string_bytes c.push_label-2.new.text) _ of name (item_text (so_far c.args.numbers.now t).core (so_far c.args.numbers.now t).groups c.args.entry.now.1) first second (said t))
    c.push_item.ensures
  where
    behind : (start a b d of name item : Text) → a ≡ start ++ (codes "import " ++ of ++ codes " ") → b ≡ a ++ (name ++ codes " ") → d ≡ b ++ item →
        d ≡ start ++ (codes "import " ++ of ++ codes " " ++ name ++ codes " " ++ item)
    behind start a b d of name item p q r = r ∙ ap (λ (x : Text). x ++ item) (q ∙ ap (λ (x : Text). x ++ (name ++ codes " ")) p) ∙ simp append_assoc
