use Rattle.std.proofs.Common.{◌≡◌, ◌∙◌, ◌++◌, ◌≤◌, List, length, drop, ap, sym, subst, append-nil}
use Rattle.std.proofs.Math.ListN.{drop_of_length-le}
use Rattle.std.specs.Option.{IfSome}
use Rattle.wcv_types.specs.ByName.{AreFirsts, texts_in}
use Rattle.wcv_types.specs.Entities.{retyped}
use Rattle.wcv_types.specs.Tree.{Text}
use Rattle.wcv_types.proofs.EntryLists.{Entry}
use Rattle.wcv_types.proofs.Retyped.{same_texts}
use Rattle.wcv_types.proofs.named_items.NamedItems.copy_with.Goals as goal

pub invariant_of-result : goal.invariant_of-result
invariant_of-result c =
    let made : List Entry = c.loop-k.pairs.items in
    let past : length c.args.self.now ≤ c.loop-k.k = subst (λ (es : List Entry). length es ≤ c.loop-k.k) c.as_slice-old.ensures c.loop-k-test.false in
    let all : made ≡ retyped c.args.self.now c.args.tys.now =
    sym (append-nil made) ∙ ap (λ (es : List Entry). made ++ retyped es (drop c.loop-k.k c.args.tys.now)) (sym (drop_of_length-le c.args.self.now past)) ∙ c.loop-k.invariant in
    let names : texts_in c.self.inside.pairs.items ≡ texts_in made = ap texts_in c.self.view_is ∙ sym (ap texts_in all ∙ same_texts c.args.self.now c.args.tys.now c.requires) in
    c.in_ok-firsts.ensures (texts_in made) (subst (λ (us : List Text). IfSome c.self.inside.firsts (λ f. AreFirsts f.value.by_number f.value.by_bytes us)) names c.self.invariant)
