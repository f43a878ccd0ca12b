use Rattle.std.proofs.Common.{◌≡◌, ◌++◌, ◌∙◌, ap, sym, codes, rules, append_assoc, string_bytes, Option}
use Rattle.wcv_types.specs.CoreText.{super_type_text, super_text}
use Rattle.wcv_core.specs.declared.core_types.SuperType.{SuperType}
use Rattle.wcv_types.specs.Tree.{Text}
use Rattle.wcv_text.specs.Numbers.{so_far}
use Rattle.wcv_text.proofs.core_line.push_super.Goals as goal

pub returns-in_ok-push_str-2 : goal.returns-in_ok-push_str-2
returns-in_ok-push_str-2 c = λ t.
    let start : Text = string_bytes c.args.text.now in
    let type_text : Text = super_type_text (so_far c.args.numbers.now t).core (so_far c.args.numbers.now t).groups c.in-Some.supertype in
    let first : string_bytes c.push_str.new.self ≡ start ++ codes "super " = search rules in
    let last : string_bytes c.push_str-in-Some.new.self ≡ string_bytes c.push_super_type.new.text ++ codes " " = search rules in
    said start (string_bytes c.push_str.new.self) (string_bytes c.push_super_type.new.text) (string_bytes c.push_str-in-Some.new.self) type_text first (c.in_ok-push_super_type.ensures t) last ∙
    ap (λ (o : Option SuperType). start ++ super_text (so_far c.args.numbers.now t).core (so_far c.args.numbers.now t).groups o) (sym c.in-Some.is)
  where
    said : (start a b d id : Text) → a ≡ start ++ codes "super " → b ≡ a ++ id → d ≡ b ++ codes " " → d ≡ start ++ (codes "super " ++ id ++ codes " ")
    said start a b d id p q r = r ∙ ap (λ (x : Text). x ++ codes " ") (q ∙ ap (λ (x : Text). x ++ id) p) ∙ simp append_assoc
