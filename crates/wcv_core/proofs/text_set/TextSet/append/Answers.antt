use Rattle.std.proofs.Common.{◌≡◌, List, ℕ, [], ◌∷◌, ◌++◌, length, string_bytes, sym, ◌∙◌, ap, subst}
use Rattle.std.proofs.lemmas.List.{map-append, length-map}
use Rattle.wcv_core.specs.Label.{is_among}
use Rattle.wcv_core.specs.TextSet.{IsIndexed, LeadsTo, texts_of}
use Rattle.wcv_core.proofs.Texts.{still_indexed, joins_indexed}
use Rattle.wcv_core.proofs.text_set.TextSet.append.Goals as goal

pub invariant_of-self : goal.invariant_of-self
invariant_of-self c =
    still_indexed c.self.inside.by_number c.self.inside.by_bytes c.lead.new.by_number c.lead.new.by_bytes c.as_str.result.now (texts_of c.self.inside.texts.items)
    ((λ j. is_among (c.as_str.ensures.value j) (c.self.view_is j)) ∙ c.requires) c.in_err-lead.ensures.others c.self.invariant

pub invariant_of-self-in_err-push : goal.invariant_of-self-in_err-push
invariant_of-self-in_err-push c =
    subst (IsIndexed c.lead.new.by_number c.lead.new.by_bytes) (sym (ap texts_of c.in_err-push.ensures.items))
    (still_indexed c.self.inside.by_number c.self.inside.by_bytes c.lead.new.by_number c.lead.new.by_bytes c.as_str.result.now (texts_of c.self.inside.texts.items)
    ((λ j. is_among (c.as_str.ensures.value j) (c.self.view_is j)) ∙ c.requires) c.in_ok-lead.ensures.others c.self.invariant)

pub invariant_of-self-2 : goal.invariant_of-self-2
invariant_of-self-2 c =
    let at : c.len-place.result ≡ length (texts_of c.self.inside.texts.items) = c.len-place.ensures ∙ c.self.inside.texts.ok.0 ∙ sym (length-map c.self.inside.texts.items string_bytes) in
    let texts : texts_of c.push.new.self.items ≡ texts_of c.self.inside.texts.items ++ c.as_str.result.now ∷ [] =
    ap texts_of c.in_ok-push.ensures.items ∙ map-append string_bytes c.self.inside.texts.items (c.args.text ∷ []) ∙ ap (λ (t : List ℕ). texts_of c.self.inside.texts.items ++ t ∷ []) (sym c.as_str.ensures.value)
    in
    subst (IsIndexed c.lead.new.by_number c.lead.new.by_bytes) (sym texts)
    (joins_indexed c.self.inside.by_number c.self.inside.by_bytes c.lead.new.by_number c.lead.new.by_bytes c.as_str.result.now (texts_of c.self.inside.texts.items)
    ((λ j. is_among (c.as_str.ensures.value j) (c.self.view_is j)) ∙ c.requires) c.in_ok-lead.ensures.others c.self.invariant
    (subst (LeadsTo c.lead.new.by_number c.lead.new.by_bytes c.as_str.result.now) at c.in_ok-lead.ensures.leads))
