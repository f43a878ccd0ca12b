use Rattle.std.proofs.Common.{refl, sym, ◌∙◌}
use Rattle.wcv_core.proofs.Texts.{unchanged_leads, number_leads, number_others, bytes_lead, bytes_others}
use Rattle.wcv_core.proofs.text_set.lead.Goals as goal

pub returns-in_err-insert-clause-others : goal.returns-in_err-insert-clause-others
returns-in_err-insert-clause-others c = λ t k d h. unchanged_leads c.args.by_number.now c.args.by_number.now c.args.by_bytes.now c.insert.new.self refl c.in_err-insert.ensures.err t k h

pub returns-in_err-insert-2-clause-others : goal.returns-in_err-insert-2-clause-others
returns-in_err-insert-2-clause-others c = λ t k d h. unchanged_leads c.args.by_number.now c.insert-else-contains_key.new.self c.args.by_bytes.now c.args.by_bytes.now c.in_err-insert-2.ensures.err refl t k h

pub returns-in_ok-insert-clause-leads : goal.returns-in_ok-insert-clause-leads
returns-in_ok-insert-clause-leads c = bytes_lead c.args.by_number.now c.args.by_bytes.now c.insert.new.self c.in_ok-key.key c.args.text.now c.args.place c.in_ok-insert.ensures.updates c.in_ok-key.ensures.ok

pub returns-in_ok-insert-clause-others : goal.returns-in_ok-insert-clause-others
returns-in_ok-insert-clause-others c = λ t k d h. bytes_others c.args.by_number.now c.args.by_bytes.now c.insert.new.self c.in_ok-key.key c.args.text.now c.args.place t k c.in_ok-insert.ensures.updates c.in_ok-key.ensures.ok d h

pub returns-in_ok-insert-2-clause-leads : goal.returns-in_ok-insert-2-clause-leads
returns-in_ok-insert-2-clause-leads c = number_leads c.args.by_number.now c.insert-else-contains_key.new.self c.args.by_bytes.now c.mix-number.result c.args.text.now c.args.place c.in_ok-insert-2.ensures.updates c.mix-number.ensures

pub returns-in_ok-insert-2-clause-others : goal.returns-in_ok-insert-2-clause-others
returns-in_ok-insert-2-clause-others c = λ t k d h. number_others c.args.by_number.now c.insert-else-contains_key.new.self c.args.by_bytes.now c.mix-number.result c.args.place t k (sym c.contains_key.ensures ∙ c.if-contains_key.false) c.in_ok-insert-2.ensures.updates h
