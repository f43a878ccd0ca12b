use Rattle.std.proofs.Common.{List, subst, sym, ◌∙◌}
use Rattle.wcv_spaces.specs.Contents.{Contents}
use Rattle.wcv_state.proofs.Stacks.{kept_marked}
use Rattle.wcv_decls.specs.Declaring.{around}
use Rattle.wcv_decls.specs.Stack.{KeepsOn}
use Rattle.wcv_decls.proofs.Stacks.{written_back}
use Rattle.wcv_decls.proofs.component.end_component.Goals as goal

pub returns-in-Err-clause-left : goal.returns-in-Err-clause-left
returns-in-Err-clause-left c =
    let ts : List Contents = c.end_innermost.new.components.items in
    written_back ts c.mark_all_spent.new.components c.as_mut_slice.result.now _ c.end_innermost.new.components.len c.end_innermost.new.components.ok.0 c.as_mut_slice.ensures.value c.mark_all_spent.ensures ∙ c.in-Err.ensures.left

pub returns-in-Err-clause-keeps : goal.returns-in-Err-clause-keeps
returns-in-Err-clause-keeps c =
    let a = c.args.types.now in
    let b = c.end_innermost.new.types in
    let ss : List Contents = around c.args.components.now.items in
    let ts : List Contents = c.end_innermost.new.components.items in
    let back = written_back ts c.mark_all_spent.new.components c.as_mut_slice.result.now _ c.end_innermost.new.components.len c.end_innermost.new.components.ok.0 c.as_mut_slice.ensures.value c.mark_all_spent.ensures in
    subst (KeepsOn a b ss) (sym back) (kept_marked a b ss ts c.end_innermost.ensures.keeps)
