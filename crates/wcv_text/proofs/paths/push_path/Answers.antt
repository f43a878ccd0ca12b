use Rattle.std.proofs.Common.{◌≡◌, ◌++◌, ◌∙◌, ap, codes, rules, ℕ, append_assoc, string_bytes, OnOk, []}
use Rattle.std.specs.Fmt.{decimal}
use Rattle.std.proofs.lemmas.Result.{on_ok_weaker}
use Rattle.wcv_core.specs.Names.{Name}
use Rattle.wcv_types.specs.Text.{positions_text}
use Rattle.wcv_types.specs.Tree.{Text}
use Rattle.wcv_text.specs.Numbers.{name_of}
use Rattle.wcv_text.proofs.EntryLines.{path_shown}
use Rattle.wcv_text.proofs.paths.push_path.Goals as goal

pub returns : goal.returns
returns c =
    let start : Text = string_bytes c.args.text.now in
    let end : OnOk c.push_str.result (string_bytes c.push_str.new.self ≡ string_bytes c.push_path_text.new.text ++ codes "\n") = search rules in
    let word : Text = c.args.word.now in
    let r : Name = name_of c.args.resource in
    let path : Text = positions_text [] c.args.positions.now in
    on_ok_weaker c.push_str.result
    (λ last before w h. path_shown c.args.numbers.now c.resource.new.self before start (string_bytes c.push_str.new.self) word w r c.args.positions.now c.in_ok-number.ensures.given
    (λ x. path_said start (string_bytes c.push_path_text.new.text) (string_bytes c.push_str.new.self) word (decimal c.in_ok-number.number) path c.in_ok-push_path_text.ensures last ∙
    ap (λ (n : ℕ). start ++ (word ++ (codes "r" ++ decimal n) ++ codes " [" ++ path ++ codes "]" ++ codes "\n")) c.in_ok-number.ensures.number) h)
    end
  where
    path_said : (start a b word d path : Text) → a ≡ start ++ (word ++ codes "r" ++ d ++ codes " [" ++ path ++ codes "]") → b ≡ a ++ codes "\n" → b ≡ start ++ (word ++ (codes "r" ++ d) ++ codes " [" ++ path ++ codes "]" ++ codes "\n")
    path_said start a b word d path p q = q ∙ ap (λ (x : Text). x ++ codes "\n") p ∙ simp append_assoc
