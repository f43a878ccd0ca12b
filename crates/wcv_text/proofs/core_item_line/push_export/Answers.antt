use Rattle.std.proofs.Common.{◌≡◌, ◌++◌, ◌∙◌, ap, codes, rules, append_assoc, string_bytes}
use Rattle.std.proofs.lemmas.Result.{on_ok_weaker}
use Rattle.wcv_types.specs.CoreText.{item_text}
use Rattle.wcv_types.specs.Quoting.{quoted}
use Rattle.wcv_types.specs.Tree.{Text}
use Rattle.wcv_text.specs.Numbers.{so_far}
use Rattle.wcv_text.proofs.core_item_line.push_export.Goals as goal

pub returns : goal.returns
returns c =
    let start : Text = string_bytes c.args.text.now in
    let name : Text = quoted c.args.entry.now.0 in
    let first : string_bytes c.push_label.new.text ≡ start ++ (codes "export " ++ name ++ codes " ") = search rules in
    on_ok_weaker c.push_item.result
    (λ said t. behind start (string_bytes c.push_label.new.text) _ name (item_text (so_far c.args.numbers.now t).core (so_far c.args.numbers.now t).groups c.args.entry.now.1) first (said t))
    c.push_item.ensures
  where
    behind : (start a b name item : Text) → a ≡ start ++ (codes "export " ++ name ++ codes " ") → b ≡ a ++ item → b ≡ start ++ (codes "export " ++ name ++ codes " " ++ item)
    behind start a b name item p q = q ∙ ap (λ (x : Text). x ++ item) p ∙ simp append_assoc
