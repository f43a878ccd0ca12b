use Rattle.std.proofs.Common.{List, subst, sym}
use Rattle.wcv_syntax.specs.Model.{alias_item}
use Rattle.wcv_lower.specs.Given.{names_of, none_given}
use Rattle.wcv_spaces.specs.Contents.{Contents}
use Rattle.wcv_state.specs.Stack.{RefusedOn, KeepsOn}
use Rattle.wcv_state.proofs.Stacks.{kept_marked, refused_alone}
use Rattle.wcv_state.proofs.state.ComponentState.add_alias.Goals as goal

pub returns-in-Err-clause-err : goal.returns-in-Err-clause-err
returns-in-Err-clause-err c =
    let a = c.args.types.now in
    let ss = c.args.components.now in
    λ p. subst (λ (ts : List Contents). RefusedOn a a p ss ts (alias_item c.args.alias) c.args.offset c.in-Err.error) (sym c.mark_all_spent.ensures)
    (refused_alone a p ss c.add_alias_on.new.components (alias_item c.args.alias) c.args.offset c.in-Err.error c.in-Err.ensures.last (c.in-Err.ensures.err (names_of none_given) p))

pub returns-in-Err-clause-keeps : goal.returns-in-Err-clause-keeps
returns-in-Err-clause-keeps c =
    let a = c.args.types.now in
    let ss = c.args.components.now in
    subst (KeepsOn a a ss) (sym c.mark_all_spent.ensures) (kept_marked a a ss c.add_alias_on.new.components c.add_alias_on.ensures.keeps)
