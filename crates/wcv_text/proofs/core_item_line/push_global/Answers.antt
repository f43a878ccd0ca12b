use Rattle.std.proofs.Common.{◌≡◌, ◌++◌, ◌∙◌, ap, codes, rules, append_assoc, string_bytes, OnOk}
use Rattle.std.proofs.lemmas.Result.{on_ok_weaker}
use Rattle.wcv_core.specs.declared.core_types.EntityType.TheVariants as entity
use Rattle.wcv_types.specs.CoreText.{item_text, mark_text, val_text}
use Rattle.wcv_types.specs.Tree.{Text}
use Rattle.wcv_text.specs.Numbers.{so_far, Appends}
use Rattle.wcv_text.proofs.core_item_line.push_global.Goals as goal

pub returns : goal.returns
returns c =
    let start : Text = string_bytes c.args.text.now in
    let mut : Text = mark_text c.args.ty.mutable (codes " mut") in
    let shared : Text = mark_text c.args.ty.shared (codes " shared") in
    let first : string_bytes c.push_str.new.self ≡ start ++ codes "global " = search rules in
    let end : OnOk c.push_marks.result (string_bytes c.push_marks.new.text ≡ string_bytes c.push_val.new.text ++ (mut ++ shared)) = search rules in
    on_ok_weaker {Q = Appends c.args.numbers.now start (string_bytes c.push_marks.new.text) (λ w. item_text w.core w.groups (entity.Global c.args.ty))} c.push_marks.result
    (λ last t. said start (string_bytes c.push_str.new.self) (string_bytes c.push_val.new.text) _
    (val_text (so_far c.args.numbers.now t).core (so_far c.args.numbers.now t).groups c.args.ty.content_type) mut shared first (c.in_ok-push_val.ensures t) last)
    end
  where
    said : (start a b d val m s : Text) → a ≡ start ++ codes "global " → b ≡ a ++ val → d ≡ b ++ (m ++ s) → d ≡ start ++ (codes "global " ++ val ++ m ++ s)
    said start a b d val m s p q r = r ∙ ap (λ (x : Text). x ++ (m ++ s)) (q ∙ ap (λ (x : Text). x ++ val) p) ∙ simp append_assoc
