use Rattle.std.proofs.Common.{rules, ◌||◌, List, ℕ, not, string_bytes, sym, ◌∙◌, ap, subst}
use Rattle.std.specs.Str.{bytes_eq}
use Rattle.wcv_core.specs.Label.{is_among}
use Rattle.wcv_core.specs.LabelSet.{Numbered, texts, IsNumbered, AreNumbered}
use Rattle.wcv_core.proofs.Adding.{has_bytes, has_more, stay_numbered}
use Rattle.wcv_core.proofs.label_set.LabelSet.insert_text.Goals as goal

pub invariant_of-self-2 : goal.invariant_of-self-2
invariant_of-self-2 c =
    let k : Numbered = (c.mix-number.result, c.args.text) in
    let own : IsNumbered k = search rules in
    subst AreNumbered (sym c.in_ok-insert.ensures.keys) (stay_numbered k c.self.inside.labels.keys own c.self.invariant)

pub returns-clause-added : goal.returns-clause-added
returns-clause-added c =
    let k : Numbered = (c.mix-number.result, c.args.text) in
    let own : IsNumbered k = search rules in
    c.in_ok-insert.ensures.added ∙ ap not (has_bytes k c.self.inside.labels.keys own c.self.invariant) ∙
    ap (λ (ts : List (List ℕ)). not (is_among (string_bytes c.args.text) ts)) c.self.view_is

pub returns-clause-has : goal.returns-clause-has
returns-clause-has c t =
    let k : Numbered = (c.mix-number.result, c.args.text) in
    let own : IsNumbered k = search rules in
    ap (λ (ks : List Numbered). is_among t (texts ks)) c.in_ok-insert.ensures.keys ∙ has_more t k c.self.inside.labels.keys own c.self.invariant ∙
    ap (λ (ts : List (List ℕ)). bytes_eq t (string_bytes c.args.text) || is_among t ts) c.self.view_is
