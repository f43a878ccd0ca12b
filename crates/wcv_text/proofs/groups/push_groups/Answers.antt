use Rattle.std.proofs.Common.{◌≡◌, ◌∙◌, ◌∷◌, [], ℕ, List, ap, subst, sym, string_bytes}
use Rattle.std.proofs.lemmas.Result.{on_ok_weaker}
use Rattle.wcv_types.specs.CoreText.{item_ids}
use Rattle.wcv_types.specs.Text.{write_groups}
use Rattle.wcv_text.specs.Groups.{id_list}
use Rattle.wcv_text.specs.Numbers.{Shows, Writes}
use Rattle.wcv_text.proofs.groups.push_groups.Goals as goal

pub returns-in-Some-clause-shows : goal.returns-in-Some-clause-shows
returns-in-Some-clause-shows c =
    let named : item_ids c.args.item ≡ c.in-Some.id.index ∷ [] = sym c.named_by.ensures ∙ ap id_list c.in-Some.is in
    on_ok_weaker c.push_group.result
    (λ shows. subst (λ (is : List ℕ). Writes c.args.numbers.now (string_bytes c.args.text.now) c.push_group.new.numbers (string_bytes c.push_group.new.text) (λ w. write_groups w is)) (sym named) shows)
    c.push_group.ensures.shows

pub returns-in-None-clause-shows : goal.returns-in-None-clause-shows
returns-in-None-clause-shows c = λ before w h.
    let none : item_ids c.args.item ≡ [] = sym c.named_by.ensures ∙ ap id_list c.in-None.is in
    subst (λ (is : List ℕ). Shows c.args.numbers.now before (string_bytes c.args.text.now) (write_groups w is)) (sym none) h
