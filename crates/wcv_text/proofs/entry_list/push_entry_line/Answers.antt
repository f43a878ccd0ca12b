use Rattle.std.proofs.Common.{◌≡◌, ◌++◌, ◌∙◌, ap, codes, rules, append_assoc, string_bytes, OnOk}
use Rattle.std.proofs.lemmas.Result.{on_ok_weaker}
use Rattle.wcv_types.specs.Tree.{Text}
use Rattle.wcv_text.specs.EntryList.{one_entry}
use Rattle.wcv_text.specs.Mentions.{entry_said}
use Rattle.wcv_text.specs.Numbers.{so_far, Appends}
use Rattle.wcv_text.proofs.entry_list.push_entry_line.Goals as goal

pub returns : goal.returns
returns c =
    let start : Text = string_bytes c.args.text.now in
    let word : Text = c.args.word.now in
    let end : OnOk c.push_str.result (string_bytes c.push_str.new.self ≡ string_bytes c.push_entry.new.text ++ codes "\n") = search rules in
    on_ok_weaker {Q = Appends c.args.numbers.now start (string_bytes c.push_str.new.self) (entry_said word c.args.entry.now)} c.push_str.result
    (λ last t.
    let entry : Text = one_entry (so_far c.args.numbers.now t) word c.args.entry.now in
    last ∙ ap (λ (x : Text). x ++ codes "\n") (c.in_ok-push_entry.ensures t) ∙ append_assoc start entry (codes "\n"))
    end
