use Rattle.std.proofs.Common.{◌≡◌, ◌++◌, ◌∙◌, ap, codes, rules, append_assoc, string_bytes}
use Rattle.std.proofs.lemmas.Result.{on_ok_weaker}
use Rattle.wcv_types.specs.CoreText.{mark_text, storage_text}
use Rattle.wcv_types.specs.Tree.{Text}
use Rattle.wcv_text.specs.Numbers.{so_far}
use Rattle.wcv_text.proofs.core_line.push_field.Goals as goal

pub returns : goal.returns
returns c =
    let start : Text = string_bytes c.args.text.now in
    let mut : Text = mark_text c.args.field.mutable (codes "mut ") in
    let first : string_bytes c.push_str.new.self ≡ start ++ mut = search rules in
    on_ok_weaker c.push_storage.result
    (λ said t.
    let storage : Text = storage_text (so_far c.args.numbers.now t).core (so_far c.args.numbers.now t).groups c.args.field.storage in
    said t ∙ ap (λ (x : Text). x ++ storage) first ∙ append_assoc start mut storage)
    c.push_storage.ensures
