use Rattle.std.proofs.Common.{◌≡◌, ◌++◌, ◌∙◌, ap, codes, rules, append_assoc, string_bytes, OnOk}
use Rattle.std.specs.Fmt.{decimal}
use Rattle.std.proofs.lemmas.Result.{on_ok_weaker}
use Rattle.wcv_types.specs.Tree.{Text}
use Rattle.wcv_text.specs.Mentions.{value_text}
use Rattle.wcv_text.specs.Numbers.{so_far, Appends}
use Rattle.wcv_text.proofs.defined_line.push_fixed_list.Goals as goal

pub returns : goal.returns
returns c =
    let start : Text = string_bytes c.args.text.now in
    let mid : Text = string_bytes c.push_one.new.text in
    let end : OnOk c.write.result (string_bytes c.write.new.self ≡ mid ++ (codes " " ++ decimal c.args.length)) = search rules in
    on_ok_weaker {Q = Appends c.args.numbers.now start (string_bytes c.write.new.self) (λ w. codes "fixed-list " ++ value_text w c.args.value ++ codes " " ++ decimal c.args.length)} c.write.result
    (λ last t. last ∙ ap (λ (x : Text). x ++ (codes " " ++ decimal c.args.length)) (c.in_ok-push_one.ensures t) ∙ regroup start (codes "fixed-list " ++ value_text (so_far c.args.numbers.now t) c.args.value) (decimal c.args.length))
    end
  where
    regroup : (a b d : Text) → (a ++ b) ++ (codes " " ++ d) ≡ a ++ (b ++ codes " " ++ d)
    regroup a b d = simp append_assoc
