use Rattle.std.proofs.Common.{◌≡◌, ◌<◌, ◌^◌, true, sym, subst, arith}
use Rattle.wcv_main.specs.Commands.{IsMarked}
use Rattle.wcv_main.proofs.Numbers.{marked_absent, failed_absent, read_found, large_absent}
use Rattle.wcv_main.proofs.command.number_up_to.Goals as goal
use Rattle.wcv_main.proofs.command.number_up_to.Goals.{After-parse}

-- a text that is parsed has no mark
plain : (c : After-parse) → ¬ (IsMarked c.args.text.now)
plain c = λ mark. let e : c.is_marked.result ≡ true = c.is_marked.ensures.1 (subst IsMarked (sym c.as_bytes.ensures.value) mark) in cc

pub returns-then-is_marked-clause-number : goal.returns-then-is_marked-clause-number
returns-then-is_marked-clause-number c =
    sym (marked_absent c.args.most c.args.text.now (omega arith) (subst IsMarked c.as_bytes.ensures.value (c.is_marked.ensures.0 c.if-is_marked.true)))

pub returns-in_default-clause-number : goal.returns-in_default-clause-number
returns-in_default-clause-number c = sym (failed_absent c.args.most c.args.text.now c.parse.result (omega arith) c.parse.ensures.value.0 c.in_default.field-0 c.in_default.is)

pub returns-then-number-most-clause-number : goal.returns-then-number-most-clause-number
returns-then-number-most-clause-number c =
    sym (read_found c.args.most c.args.text.now c.parse.result (omega arith) c.parse.ensures.value.0 c.in-Ok.number (plain (goal.at.returns-then-number-most-clause-number c).After-parse) c.in-Ok.is c.if-number-most.true)

pub returns-else-number-most-clause-number : goal.returns-else-number-most-clause-number
returns-else-number-most-clause-number c =
    sym (large_absent c.args.most c.args.text.now c.parse.result (omega arith) c.parse.ensures.value.0 c.in-Ok.number (plain (goal.at.returns-else-number-most-clause-number c).After-parse) c.in-Ok.is c.if-number-most.false)
