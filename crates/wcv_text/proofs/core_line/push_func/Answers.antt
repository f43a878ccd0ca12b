use Rattle.std.proofs.Common.{◌≡◌, ◌++◌, [], ◌∙◌, ap, codes, map, rules, append_assoc, string_bytes, OnOk}
use Rattle.std.proofs.lemmas.Result.{on_ok_weaker}
use Rattle.wcv_types.specs.CoreText.{spaced, val_text}
use Rattle.wcv_types.specs.Tree.{Text}
use Rattle.wcv_text.specs.Numbers.{so_far, Appends}
use Rattle.wcv_text.proofs.core_line.push_func.Goals as goal

pub returns : goal.returns
returns c =
    let start : Text = string_bytes c.args.text.now in
    let first : string_bytes c.push_str.new.self ≡ start ++ codes "func (" = search rules in
    let arrow : string_bytes c.push_str-2.new.self ≡ string_bytes c.push_vals.new.text ++ codes ") -> (" = search rules in
    let end : OnOk c.push_str-3.result (string_bytes c.push_str-3.new.self ≡ string_bytes c.push_vals-2.new.text ++ codes ")") = search rules in
    on_ok_weaker {Q = Appends c.args.numbers.now start (string_bytes c.push_str-3.new.self)
    (λ w. codes "func (" ++ spaced [] (map (val_text w.core w.groups) c.args.params.now) ++ codes ") -> (" ++ spaced [] (map (val_text w.core w.groups) c.args.results.now) ++ codes ")")} c.push_str-3.result
    (λ last t. said start (string_bytes c.push_str.new.self) (string_bytes c.push_vals.new.text) (string_bytes c.push_str-2.new.self) (string_bytes c.push_vals-2.new.text) _
    (spaced [] (map (val_text (so_far c.args.numbers.now t).core (so_far c.args.numbers.now t).groups) c.args.params.now)) (spaced [] (map (val_text (so_far c.args.numbers.now t).core (so_far c.args.numbers.now t).groups) c.args.results.now))
    first (c.in_ok-push_vals.ensures t) arrow (c.in_ok-push_vals-2.ensures t) last)
    end
  where
    said : (start a b d e f ps rs : Text) → a ≡ start ++ codes "func (" → b ≡ a ++ ps → d ≡ b ++ codes ") -> (" → e ≡ d ++ rs → f ≡ e ++ codes ")" → f ≡ start ++ (codes "func (" ++ ps ++ codes ") -> (" ++ rs ++ codes ")")
    said start a b d e f ps rs p q r s u =
        u ∙ ap (λ (x : Text). x ++ codes ")") (s ∙ ap (λ (x : Text). x ++ rs) (r ∙ ap (λ (x : Text). x ++ codes ") -> (") (q ∙ ap (λ (x : Text). x ++ ps) p))) ∙ simp append_assoc
