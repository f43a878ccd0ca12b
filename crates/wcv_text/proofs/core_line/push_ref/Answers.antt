use Rattle.std.proofs.Common.{◌≡◌, ◌++◌, ◌∙◌, ap, codes, rules, append_assoc, string_bytes, OnOk}
use Rattle.std.proofs.lemmas.Result.{on_ok_weaker}
use Rattle.wcv_types.specs.CoreText.{heap_text, mark_text, ref_text}
use Rattle.wcv_types.specs.Tree.{Text}
use Rattle.wcv_text.specs.Numbers.{so_far, Appends}
use Rattle.wcv_text.proofs.core_line.push_ref.Goals as goal

pub returns : goal.returns
returns c =
    let start : Text = string_bytes c.args.text.now in
    let null : Text = mark_text c.args.ty.nullable (codes "null ") in
    let shared : Text = mark_text c.args.ty.shared (codes "shared ") in
    let first : string_bytes c.push_str-3.new.self ≡ start ++ codes "(ref " ++ null ++ shared = search rules in
    let end : OnOk c.push_str-4.result (string_bytes c.push_str-4.new.self ≡ string_bytes c.push_heap.new.text ++ codes ")") = search rules in
    on_ok_weaker {Q = Appends c.args.numbers.now start (string_bytes c.push_str-4.new.self) (λ w. ref_text w.core w.groups c.args.ty)} c.push_str-4.result
    (λ last t. said start (string_bytes c.push_str-3.new.self) (string_bytes c.push_heap.new.text) _ null shared (heap_text (so_far c.args.numbers.now t).core (so_far c.args.numbers.now t).groups c.args.ty.heap) first (c.in_ok-push_heap.ensures t) last)
    end
  where
    said : (start a b d null shared heap : Text) → a ≡ start ++ codes "(ref " ++ null ++ shared → b ≡ a ++ heap → d ≡ b ++ codes ")" → d ≡ start ++ (codes "(ref " ++ null ++ shared ++ heap ++ codes ")")
    said start a b d null shared heap p q r = r ∙ ap (λ (x : Text). x ++ codes ")") (q ∙ ap (λ (x : Text). x ++ heap) p) ∙ simp append_assoc
