use Rattle.std.proofs.Common.{List, sym, subst}
use Rattle.wcv_syntax.specs.View.{type_view}
use Rattle.wcv_types.proofs.Lists.{map-id}
use Rattle.wcv_spaces.specs.Contents.{Contents}
use Rattle.wcv_state.proofs.Stacks.{kept_marked}
use Rattle.wcv_decls.specs.Declaring.{AreReady}
use Rattle.wcv_decls.specs.Stack.{AreCalm, DeclaresOn, RefusesOn, KeepsOn}
use Rattle.wcv_decls.proofs.InnermostStates.{calm_all}
use Rattle.wcv_decls.proofs.Stacks.{written_back, both_mapped}
use Rattle.wcv_decls.proofs.TypesOn.{states_ready, declares_on, refuses_on}
use Rattle.wcv_decls.proofs.stack.ComponentStateDeclare.add_type.Goals as goal

pub declare_type-requires : goal.declare_type-requires
declare_type-requires c = record { ready = states_ready c.args.types.now c.args.components.now.items c.requires.some c.requires.open c.requires.calm }

pub returns-in-Ok-clause-ok : goal.returns-in-Ok-clause-ok
returns-in-Ok-clause-ok c =
    let a = c.args.types.now in
    let b = c.declare_type.new.types in
    let ss : List Contents = c.args.components.now.items in
    let ts : List Contents = c.declare_type.new.components.items in
    let ready : AreReady a ss = states_ready a ss c.requires.some c.requires.open c.requires.calm in
    λ p. both_mapped (λ xs ys. DeclaresOn c.args.check_limit a b p xs ys (type_view c.args.ty)) ss ts
    (declares_on c.args.check_limit a b p ss ts (type_view c.args.ty) ready c.in-Ok.ensures.ok c.in-Ok.ensures.ready)

pub returns-in-Ok-clause-calm : goal.returns-in-Ok-clause-calm
returns-in-Ok-clause-calm c =
    let ts : List Contents = c.declare_type.new.components.items in
    subst (AreCalm c.declare_type.new.types) (sym (map-id ts)) (calm_all c.declare_type.new.types ts c.in-Ok.ensures.ready.ready.calm)

pub returns-in-Ok-clause-keeps : goal.returns-in-Ok-clause-keeps
returns-in-Ok-clause-keeps c = both_mapped (KeepsOn c.args.types.now c.declare_type.new.types) c.args.components.now.items c.declare_type.new.components.items c.declare_type.ensures.keeps

pub returns-in-Err-clause-err : goal.returns-in-Err-clause-err
returns-in-Err-clause-err c =
    let a = c.args.types.now in
    let b = c.declare_type.new.types in
    let ss : List Contents = c.args.components.now.items in
    let ts : List Contents = c.declare_type.new.components.items in
    let back = written_back ts c.mark_all_spent.new.components c.as_mut_slice.result.now _ c.declare_type.new.components.len c.declare_type.new.components.ok.0 c.as_mut_slice.ensures.value c.mark_all_spent.ensures in
    let ready : AreReady a ss = states_ready a ss c.requires.some c.requires.open c.requires.calm in
    λ p. both_mapped (λ xs ys. RefusesOn c.args.check_limit a b p xs ys (type_view c.args.ty) c.args.offset c.in-Err.error) ss _
    (refuses_on c.args.check_limit a b p ss ts _ (type_view c.args.ty) c.args.offset c.in-Err.error ready c.in-Err.ensures.around c.declare_type.ensures.keeps c.in-Err.ensures.err back)

pub returns-in-Err-clause-keeps : goal.returns-in-Err-clause-keeps
returns-in-Err-clause-keeps c =
    let a = c.args.types.now in
    let b = c.declare_type.new.types in
    let ss : List Contents = c.args.components.now.items in
    let ts : List Contents = c.declare_type.new.components.items in
    let back = written_back ts c.mark_all_spent.new.components c.as_mut_slice.result.now _ c.declare_type.new.components.len c.declare_type.new.components.ok.0 c.as_mut_slice.ensures.value c.mark_all_spent.ensures in
    both_mapped (KeepsOn a b) ss _ (subst (KeepsOn a b ss) (sym back) (kept_marked a b ss ts c.declare_type.ensures.keeps))
