use Rattle.std.proofs.Common.{◌≡◌, ℕ, ◌++◌, ◌∙◌, ap, length, codes, rules, append_assoc, string_bytes}
use Rattle.std.specs.Fmt.{decimal}
use Rattle.std.proofs.lemmas.Result.{on_ok_weaker}
use Rattle.wcv_types.specs.CoreText.{group_text, group_at}
use Rattle.wcv_types.specs.Text.{Written, line_text}
use Rattle.wcv_types.specs.Tree.{Text}
use Rattle.wcv_text.specs.Numbers.{so_far}
use Rattle.wcv_text.proofs.Grouping.{group_shown}
use Rattle.wcv_text.proofs.groups.push_line.Goals as goal

pub returns-clause-shows : goal.returns-clause-shows
returns-clause-shows c =
    let start : Text = string_bytes c.args.text.now in
    let first : string_bytes c.write.new.self ≡ start ++ (codes "g" ++ decimal c.group_lines-number.result ++ codes ": ") = search rules in
    let end : string_bytes c.push_str.new.self ≡ string_bytes c.push_form.new.text ++ codes "\n" = search rules in
    on_ok_weaker c.add_group.result
    (λ added before w h. group_shown c.args.numbers.now c.add_group.new.self before start (string_bytes c.push_str.new.self) w c.args.id.index
    (λ x.
    let u : Written = so_far c.args.numbers.now x in
    said start (group_text u.core u.groups (group_at u.core c.args.id.index)) (string_bytes c.write.new.self) (string_bytes c.push_form.new.text) (string_bytes c.push_str.new.self) c.group_lines-number.result (length u.groups) c.group_lines-number.ensures first (c.in_ok-push_form.ensures x) end)
    added h)
    c.add_group.ensures.line
  where
    said : (start form a b d : Text) (number count : ℕ) → number ≡ count → a ≡ start ++ (codes "g" ++ decimal number ++ codes ": ") → b ≡ a ++ form → d ≡ b ++ codes "\n" → d ≡ start ++ (codes "g" ++ line_text count form)
    said start form a b d number count e p q r =
        r ∙ ap (λ (x : Text). x ++ codes "\n") (q ∙ ap (λ (x : Text). x ++ form) p) ∙ grouped start (codes "g") (decimal number) (codes ": ") form (codes "\n") ∙ ap (λ (k : ℕ). start ++ (codes "g" ++ line_text k form)) e
      where
        grouped : (s g k m f n : Text) → ((s ++ (g ++ k ++ m)) ++ f) ++ n ≡ s ++ (g ++ (k ++ m ++ f ++ n))
        grouped s g k m f n = simp append_assoc
