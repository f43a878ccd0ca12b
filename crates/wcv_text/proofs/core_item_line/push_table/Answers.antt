use Rattle.std.proofs.Common.{◌≡◌, ◌++◌, ◌∙◌, ap, codes, rules, append_assoc, string_bytes, OnOk}
use Rattle.std.specs.Fmt.{decimal}
use Rattle.std.proofs.lemmas.Result.{on_ok_weaker}
use Rattle.wcv_core.specs.declared.core_types.EntityType.TheVariants as entity
use Rattle.wcv_types.specs.CoreText.{greatest_text, item_text, mark_text, ref_text}
use Rattle.wcv_types.specs.Tree.{Text}
use Rattle.wcv_text.specs.Numbers.{so_far, Appends}
use Rattle.wcv_text.proofs.core_item_line.push_table.Goals as goal

pub returns : goal.returns
returns c =
    let start : Text = string_bytes c.args.text.now in
    let initial : Text = decimal c.args.ty.initial in
    let most : Text = greatest_text c.args.ty.maximum in
    let wide : Text = mark_text c.args.ty.table64 (codes " 64") in
    let shared : Text = mark_text c.args.ty.shared (codes " shared") in
    let first : string_bytes c.push_str.new.self ≡ start ++ codes "table " = search rules in
    let limits : string_bytes c.push_limits.new.text ≡ string_bytes c.push_ref.new.text ++ (codes " " ++ initial ++ codes " " ++ most) = search rules in
    let end : OnOk c.push_marks.result (string_bytes c.push_marks.new.text ≡ string_bytes c.push_limits.new.text ++ (wide ++ shared)) = search rules in
    on_ok_weaker {Q = Appends c.args.numbers.now start (string_bytes c.push_marks.new.text) (λ w. item_text w.core w.groups (entity.Table c.args.ty))} c.push_marks.result
    (λ last t. said start (string_bytes c.push_str.new.self) (string_bytes c.push_ref.new.text) (string_bytes c.push_limits.new.text) _
    (ref_text (so_far c.args.numbers.now t).core (so_far c.args.numbers.now t).groups c.args.ty.element_type) initial most wide shared
    first (c.in_ok-push_ref.ensures t) limits last)
    end
  where
    said : (start a b d e ref n m x y : Text) → a ≡ start ++ codes "table " → b ≡ a ++ ref → d ≡ b ++ (codes " " ++ n ++ codes " " ++ m) → e ≡ d ++ (x ++ y) →
        e ≡ start ++ (codes "table " ++ ref ++ codes " " ++ n ++ codes " " ++ m ++ x ++ y)
    said start a b d e ref n m x y p q r s =
        s ∙ ap (λ (z : Text). z ++ (x ++ y)) (r ∙ ap (λ (z : Text). z ++ (codes " " ++ n ++ codes " " ++ m)) (q ∙ ap (λ (z : Text). z ++ ref) p)) ∙ simp append_assoc
