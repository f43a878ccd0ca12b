use Rattle.std.proofs.Common.{◌≡◌, ◌++◌, ◌∙◌, ap, sym, codes, rules, append_assoc, string_bytes}
use Rattle.std.proofs.lemmas.Result.{on_ok_weaker}
use Rattle.wcv_core.specs.declared.core_types.EntityType.{EntityType}
use Rattle.wcv_types.specs.CoreText.{core_type_text, item_text}
use Rattle.wcv_types.specs.Tree.{Text}
use Rattle.wcv_text.specs.Numbers.{so_far}
use Rattle.wcv_text.proofs.core_item_line.push_item.Goals as goal

pub returns-in_ok-push_str-in-Func : goal.returns-in_ok-push_str-in-Func
returns-in_ok-push_str-in-Func c =
    let start : Text = string_bytes c.args.text.now in
    let first : string_bytes c.push_str.new.self ≡ start ++ codes "func " = search rules in
    on_ok_weaker c.push_id.result
    (λ said t.
    let id : Text = core_type_text (so_far c.args.numbers.now t).core (so_far c.args.numbers.now t).groups c.in-Func.id.index in
    said t ∙ ap (λ (x : Text). x ++ id) first ∙ append_assoc start (codes "func ") id ∙
    ap (λ (x : EntityType). start ++ item_text (so_far c.args.numbers.now t).core (so_far c.args.numbers.now t).groups x) (sym c.in-Func.is))
    c.push_id.ensures

pub returns-in_ok-push_str-in-Tag : goal.returns-in_ok-push_str-in-Tag
returns-in_ok-push_str-in-Tag c =
    let start : Text = string_bytes c.args.text.now in
    let first : string_bytes c.push_str-in-Tag.new.self ≡ start ++ codes "tag " = search rules in
    on_ok_weaker c.push_id-in-Tag.result
    (λ said t.
    let id : Text = core_type_text (so_far c.args.numbers.now t).core (so_far c.args.numbers.now t).groups c.in-Tag.id.index in
    said t ∙ ap (λ (x : Text). x ++ id) first ∙ append_assoc start (codes "tag ") id ∙
    ap (λ (x : EntityType). start ++ item_text (so_far c.args.numbers.now t).core (so_far c.args.numbers.now t).groups x) (sym c.in-Tag.is))
    c.push_id-in-Tag.ensures

pub returns-in-Table : goal.returns-in-Table
returns-in-Table c =
    on_ok_weaker c.push_table.result
    (λ said t. said t ∙ ap (λ (x : EntityType). string_bytes c.args.text.now ++ item_text (so_far c.args.numbers.now t).core (so_far c.args.numbers.now t).groups x) (sym c.in-Table.is))
    c.push_table.ensures

pub returns-in-Global : goal.returns-in-Global
returns-in-Global c =
    on_ok_weaker c.push_global.result
    (λ said t. said t ∙ ap (λ (x : EntityType). string_bytes c.args.text.now ++ item_text (so_far c.args.numbers.now t).core (so_far c.args.numbers.now t).groups x) (sym c.in-Global.is))
    c.push_global.ensures
