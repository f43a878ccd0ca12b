use Rattle.wcv_types.proofs.Forming.{facts_align}
use Rattle.wcv_types.proofs.defined_facts.value_facts.Goals as goal

pub returns-in-Some-Ty-clause-align : goal.returns-in-Some-Ty-clause-align
returns-in-Some-Ty-clause-align c = facts_align c.facts.result _ c.facts.ensures
