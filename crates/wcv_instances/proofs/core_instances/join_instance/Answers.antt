use Rattle.std.proofs.Common.{refl, subst, sym, true}
use Rattle.wcv_types.specs.Unfold.{tree_of, trees}
use Rattle.wcv_types.specs.declared.arena.Node.TheVariants as n
use Rattle.wcv_types.proofs.Grown.{extends_push}
use Rattle.wcv_types.specs.Standing.{Extends}
use Rattle.wcv_lower.specs.Context.{core_instances}
use Rattle.wcv_spaces.specs.Contents.{Contents}
use Rattle.wcv_spaces.specs.Promises.{Keeps}
use Rattle.wcv_spaces.proofs.Keeping.{keeps_marked_in, keeps_grown_marked}
use Rattle.wcv_decls.specs.CoreItems.{JoinedCore}
use Rattle.wcv_instances.proofs.CoreInstances.{instance_joined}
use Rattle.wcv_instances.proofs.core_instances.join_instance.Goals as goal

pub returns-in_err-push_core_instance-in-Ok-clause-keeps : goal.returns-in_err-push_core_instance-in-Ok-clause-keeps
returns-in_err-push_core_instance-in-Ok-clause-keeps c =
    let s : Contents = c.args.state.now in
    let a = c.args.types.now in
    subst (λ (z : Contents). Keeps a c.push_ty-pushed.new.self s z) (sym c.in_err-push_core_instance-in-Ok.ensures.err)
    (keeps_grown_marked a c.push_ty-pushed.new.self s s true (subst (Extends a) (sym c.in-Ok.ensures.added) (extends_push a (n.CoreInstance c.args.shape))) refl c.requires.stands)

pub returns-in_ok-push_core_instance-in-Ok-clause-ok : goal.returns-in_ok-push_core_instance-in-Ok-clause-ok
returns-in_ok-push_core_instance-in-Ok-clause-ok c =
    instance_joined c.args.types.now c.push_ty-pushed.new.self c.args.state.now c.push_core_instance.new.self c.args.shape c.in-Ok.id c.requires.stands c.requires.live c.in-Ok.ensures.added c.in-Ok.ensures.stands c.in-Ok.ensures.tree c.in_ok-push_core_instance-in-Ok.ensures.ok

pub returns-in_ok-push_core_instance-in-Ok-clause-keeps : goal.returns-in_ok-push_core_instance-in-Ok-clause-keeps
returns-in_ok-push_core_instance-in-Ok-clause-keeps c =
    let w : JoinedCore core_instances c.args.types.now c.push_ty-pushed.new.self c.args.state.now c.push_core_instance.new.self (tree_of (trees c.args.types.now.nodes) (n.CoreInstance c.args.shape)) =
    instance_joined c.args.types.now c.push_ty-pushed.new.self c.args.state.now c.push_core_instance.new.self c.args.shape c.in-Ok.id c.requires.stands c.requires.live c.in-Ok.ensures.added c.in-Ok.ensures.stands c.in-Ok.ensures.tree c.in_ok-push_core_instance-in-Ok.ensures.ok in
    w.keeps

pub returns-in-Err-clause-keeps : goal.returns-in-Err-clause-keeps
returns-in-Err-clause-keeps c =
    let s : Contents = c.args.state.now in
    subst (λ (z : Contents). Keeps c.args.types.now c.push_ty-pushed.new.self s z) (sym c.mark_spent.ensures)
    (keeps_marked_in c.args.types.now c.push_ty-pushed.new.self s s true c.in-Err.ensures.err refl c.requires.stands)
