use Rattle.std.proofs.Common.{◌≡◌, ◌++◌, ◌∙◌, ap, codes, rules, append_assoc, string_bytes}
use Rattle.std.proofs.lemmas.Result.{on_ok_weaker}
use Rattle.wcv_types.specs.Entities.{entry_name}
use Rattle.wcv_types.specs.Quoting.{quoted}
use Rattle.wcv_types.specs.Text.{name_text}
use Rattle.wcv_types.specs.Tree.{Text}
use Rattle.wcv_text.specs.EntryList.{one_entry}
use Rattle.wcv_text.specs.Mentions.{entity_said}
use Rattle.wcv_text.specs.Numbers.{so_far, Appends}
use Rattle.wcv_text.proofs.entry_list.push_entry.Goals as goal

pub returns : goal.returns
returns c =
    let start : Text = string_bytes c.args.text.now in
    let word : Text = c.args.word.now in
    let name : Text = quoted c.args.entry.now.0 in
    let beside : Text = name_text (entry_name c.args.entry.now) in
    let first : string_bytes c.push_label.new.text ≡ start ++ (word ++ name ++ codes " ") = search rules in
    on_ok_weaker {Q = Appends c.args.numbers.now start (string_bytes c.push_name.new.text) (λ w. one_entry w word c.args.entry.now)} c.push_name.result
    (λ last t. said start (string_bytes c.push_label.new.text) (string_bytes c.push_entity.new.text) _ word name (entity_said (so_far c.args.numbers.now t) c.args.entry.now.1.ty) beside first (c.in_ok-push_entity.ensures t) last)
    c.push_name.ensures
  where
    said : (start a b d word name entity beside : Text) → a ≡ start ++ (word ++ name ++ codes " ") → b ≡ a ++ entity → d ≡ b ++ beside → d ≡ start ++ (word ++ name ++ codes " " ++ entity ++ beside)
    said start a b d word name entity beside p q r = r ∙ ap (λ (x : Text). x ++ beside) (q ∙ ap (λ (x : Text). x ++ entity) p) ∙ simp append_assoc
