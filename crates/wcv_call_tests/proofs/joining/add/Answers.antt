use Rattle.std.proofs.Common.{List, [], sym, subst, true}
use Rattle.wcv_types.proofs.Lists.{map-id}
use Rattle.wcv_syntax.specs.View.{type_view}
use Rattle.wcv_spaces.specs.Contents.{Contents}
use Rattle.wcv_decls.specs.Stack.{AreCalm, DeclaresOn, KeepsOn}
use Rattle.wcv_decls.proofs.InnermostStates.{calm_all}
use Rattle.wcv_decls.proofs.Stacks.{unmapped}
use Rattle.wcv_call_tests.proofs.Opened.{joined}
use Rattle.wcv_call_tests.proofs.joining.add.Goals as goal

pub add_type-requires-clause-calm : goal.add_type-requires-clause-calm
add_type-requires-clause-calm c = subst (AreCalm c.args.types.now) (sym (map-id c.args.states.now.items)) (calm_all c.args.types.now c.args.states.now.items c.requires.calm)

pub returns-in-Ok : goal.returns-in-Ok
returns-in-Ok c =
    let a = c.args.types.now in
    let b = c.add_type.new.types in
    let ss : List Contents = c.args.states.now.items in
    let ss' : List Contents = c.add_type.new.components.items in
    joined a b ss ss' (type_view c.args.ty) c.requires (unmapped (λ xs ys. DeclaresOn true a b [] xs ys (type_view c.args.ty)) ss ss' (c.in-Ok.ensures.ok []))
    (unmapped (KeepsOn a b) ss ss' c.in-Ok.ensures.keeps) (subst (AreCalm b) (map-id ss') c.in-Ok.ensures.calm)
