use Rattle.std.proofs.Common.{drop}
use Rattle.wcv_types.specs.Rebuild.{slots_by, case_value, Refilling}
use Rattle.wcv_types.proofs.again.variant_again.Given as goal

abbrev pub invariant-loop-case : goal.invariant-loop-case
invariant-loop-case l = Refilling (slots_by case_value l.cases) l.initial.parts (slots_by case_value (drop l.case-index l.cases)) (slots_by case_value l.again.items) l.parts
