use Rattle.std.proofs.Common.{rules, List, ℕ, string_bytes, ◌∙◌, ap}
use Rattle.wcv_core.specs.Label.{is_among}
use Rattle.wcv_core.specs.LabelSet.{Numbered, IsNumbered}
use Rattle.wcv_core.proofs.Adding.{has_bytes}
use Rattle.wcv_core.proofs.label_set.LabelSet.has_text.Goals as goal

pub returns : goal.returns
returns c =
    let k : Numbered = (c.mix-number.result, c.args.text) in
    let own : IsNumbered k = search rules in
    c.contains.ensures ∙ has_bytes k c.self.inside.labels.keys own c.self.invariant ∙
    ap (λ (ts : List (List ℕ)). is_among (string_bytes c.args.text) ts) c.self.view_is
