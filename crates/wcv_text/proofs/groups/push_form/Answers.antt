use Rattle.std.proofs.Common.{◌≡◌, ◌++◌, ◌∙◌, [], map, ap, codes, rules, append_assoc, string_bytes, OnOk}
use Rattle.std.proofs.lemmas.Result.{on_ok_weaker}
use Rattle.wcv_types.specs.CoreText.{sub_text, group_at}
use Rattle.wcv_types.specs.Quoting.{listed}
use Rattle.wcv_types.specs.Tree.{Text}
use Rattle.wcv_text.specs.Numbers.{so_far}
use Rattle.wcv_text.proofs.groups.push_form.Goals as goal

pub returns : goal.returns
returns c =
    let start : Text = string_bytes c.args.text.now in
    let first : string_bytes c.push_str.new.self ≡ start ++ codes "rec {" = search rules in
    let end : OnOk c.push_str-2.result (string_bytes c.push_str-2.new.self ≡ string_bytes c.push_types.new.text ++ codes "}") = search rules in
    on_ok_weaker c.push_str-2.result
    (λ last t. said start (string_bytes c.push_str.new.self) (string_bytes c.push_types.new.text) (string_bytes c.push_str-2.new.self) (listed [] (map (sub_text (so_far c.args.numbers.now t).core (so_far c.args.numbers.now t).groups) (group_at (so_far c.args.numbers.now t).core c.args.id.index))) first (c.in_ok-push_types.ensures t) last)
    end
  where
    said : (start a b d form : Text) → a ≡ start ++ codes "rec {" → b ≡ a ++ form → d ≡ b ++ codes "}" → d ≡ start ++ (codes "rec {" ++ form ++ codes "}")
    said start a b d form p q r = r ∙ ap (λ (x : Text). x ++ codes "}") (q ∙ ap (λ (x : Text). x ++ form) p) ∙ simp append_assoc
