use Rattle.std.proofs.Common.{◌≡◌, ◌++◌, ◌∙◌, ap, codes, not, rules, append_assoc, string_bytes}
use Rattle.std.proofs.lemmas.Result.{on_ok_weaker}
use Rattle.wcv_core.specs.CoreForm.{composite_form}
use Rattle.wcv_types.specs.CoreText.{composite_text, mark_text, super_text}
use Rattle.wcv_types.specs.Tree.{Text}
use Rattle.wcv_text.specs.Numbers.{so_far}
use Rattle.wcv_text.proofs.core_line.push_sub.Goals as goal

pub returns : goal.returns
returns c =
    let start : Text = string_bytes c.args.text.now in
    let open_word : Text = mark_text (not c.args.ty.now.is_final) (codes "open ") in
    let shared : Text = mark_text c.args.ty.now.shared (codes "shared ") in
    let first : string_bytes c.push_str.new.self ≡ start ++ open_word = search rules in
    let third : string_bytes c.push_str-2.new.self ≡ string_bytes c.push_super.new.text ++ shared = search rules in
    on_ok_weaker c.push_composite.result
    (λ form t. said start (string_bytes c.push_str.new.self) (string_bytes c.push_super.new.text) (string_bytes c.push_str-2.new.self) _ open_word
    (super_text (so_far c.args.numbers.now t).core (so_far c.args.numbers.now t).groups c.args.ty.now.supertype) shared (composite_text (so_far c.args.numbers.now t).core (so_far c.args.numbers.now t).groups (composite_form c.args.ty.now.inner))
    first (c.in_ok-push_super.ensures t) third (form t))
    c.push_composite.ensures
  where
    said : (start a b d e o s m f : Text) → a ≡ start ++ o → b ≡ a ++ s → d ≡ b ++ m → e ≡ d ++ f → e ≡ start ++ (o ++ s ++ m ++ f)
    said start a b d e o s m f p q r u = u ∙ ap (λ (x : Text). x ++ f) (r ∙ ap (λ (x : Text). x ++ m) (q ∙ ap (λ (x : Text). x ++ s) p)) ∙ simp append_assoc
