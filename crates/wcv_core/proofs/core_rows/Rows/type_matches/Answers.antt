use Rattle.wcv_core.specs.CoreForm.{sub_form}
use Rattle.wcv_core.proofs.Within.{seen_within}
use Rattle.wcv_core.proofs.core_rows.Rows.type_matches.Goals as goal

pub form_matches-requires-clause-a : goal.form_matches-requires-clause-a
form_matches-requires-clause-a c = seen_within c.args.self.now c.args.a.index c.first_of-first_a.result (sub_form c.get.result.now) c.first_of-first_a.ensures.closed c.requires.a c.first_of-first_a.ensures.first c.get.ensures

pub form_matches-requires-clause-b : goal.form_matches-requires-clause-b
form_matches-requires-clause-b c = seen_within c.args.self.now c.args.b.index c.first_of-first_b.result (sub_form c.get-2.result.now) c.first_of-first_b.ensures.closed c.requires.b c.first_of-first_b.ensures.first c.get-2.ensures
