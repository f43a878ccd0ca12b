use Rattle.std.proofs.Common.{◌≡◌, ap, sym, ◌∙◌, subst}
use Rattle.std.specs.Prelude.{IfOk, IfErr}
use Rattle.wcv_lower.specs.Ending.{end_checks}
use Rattle.wcv_spaces.specs.Contents.{Contents, context_of, StateStands}
use Rattle.wcv_spaces.specs.Promises.{MemoryOrCausedBy, Finished}
use Rattle.wcv_decls.specs.Declaring.{innermost}
use Rattle.wcv_decls.proofs.InnermostStates.{innermost_at, around_at, open_here}
use Rattle.wcv_decls.proofs.close.pop_type.Goals as goal

pub type_at_end-requires-clause-live : goal.type_at_end-requires-clause-live
type_at_end-requires-clause-live c =
    let same : innermost c.args.components.now.items ≡ c.in-Some.state = ap innermost c.in-Some.ensures.items ∙ innermost_at c.pop.new.self.items c.in-Some.state in
    ap (λ (s : Contents). s.spent) (sym same) ∙ (open_here c.args.types.now c.args.components.now.items c.requires.some c.requires.each).live

pub type_at_end-requires-clause-stands : goal.type_at_end-requires-clause-stands
type_at_end-requires-clause-stands c =
    let same : innermost c.args.components.now.items ≡ c.in-Some.state = ap innermost c.in-Some.ensures.items ∙ innermost_at c.pop.new.self.items c.in-Some.state in
    subst (StateStands c.args.types.now) same (open_here c.args.types.now c.args.components.now.items c.requires.some c.requires.each).stands

pub returns-clause-left : goal.returns-clause-left
returns-clause-left c = sym (ap Rattle.wcv_decls.specs.Declaring.around c.in-Some.ensures.items ∙ around_at c.pop.new.self.items c.in-Some.state)

pub returns-clause-ok : goal.returns-clause-ok
returns-clause-ok c =
    let same : innermost c.args.components.now.items ≡ c.in-Some.state = ap innermost c.in-Some.ensures.items ∙ innermost_at c.pop.new.self.items c.in-Some.state in
    subst (λ (s : Contents). IfOk c.type_at_end.result (Finished c.args.types.now s)) (sym same) c.type_at_end.ensures.ok

pub returns-clause-err : goal.returns-clause-err
returns-clause-err c =
    let same : innermost c.args.components.now.items ≡ c.in-Some.state = ap innermost c.in-Some.ensures.items ∙ innermost_at c.pop.new.self.items c.in-Some.state in
    subst (λ (s : Contents). IfErr c.type_at_end.result (MemoryOrCausedBy (end_checks (context_of c.args.types.now s)) c.args.offset)) (sym same) c.type_at_end.ensures.err
