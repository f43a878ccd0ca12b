use Rattle.std.proofs.Common.{◌≡◌, subst, length}
use Rattle.wcv_types.specs.Entities.{any_part}
use Rattle.wcv_types.specs.Renewed.{NodeAgain, with_stamp}
use Rattle.wcv_types.specs.Standing.{Stands}
use Rattle.wcv_types.specs.declared.ids.ComponentAnyTypeId.{ComponentAnyTypeId}
use Rattle.wcv_types.specs.declared.ids.ComponentAnyTypeId.TheVariants as any
use Rattle.wcv_types.proofs.Renewing.{renewed_defined, renewed_func, renewed_instance, renewed_component, renewed_reference, unique_is}
use Rattle.wcv_types.proofs.arena.TypeAlloc.add_unique.Goals as goal

pub returns-in-Resource-clause-ok : goal.returns-in-Resource-clause-ok
returns-in-Resource-clause-ok c =
    let a = c.args.self.now in
    let b = c.add_stamp.new.self in
    unique_is a b c.args.id (any.Resource c.in-Resource.id) c.add_stamp.result (b ≡ with_stamp a) a.stamps c.in-Resource.is
    (λ k. renewed_reference a b c.in-Resource.id k (subst (λ (id : ComponentAnyTypeId). Stands a (any_part id)) c.in-Resource.is c.requires)) c.add_stamp.ensures.added c.add_stamp.ensures.last

pub returns-in-Defined-clause-ok : goal.returns-in-Defined-clause-ok
returns-in-Defined-clause-ok c =
    let a = c.args.self.now in
    let b = c.add_again.new.self in
    unique_is a b c.args.id (any.Defined c.in-Defined.id) c.add_again.result (NodeAgain a b c.in-Defined.id.index) (length a.nodes) c.in-Defined.is
    (λ k. renewed_defined a b c.in-Defined.id (record { index = k }) (subst (λ (id : ComponentAnyTypeId). Stands a (any_part id)) c.in-Defined.is c.requires)) c.add_again.ensures.again c.add_again.ensures.last

pub returns-in-Func-clause-ok : goal.returns-in-Func-clause-ok
returns-in-Func-clause-ok c =
    let a = c.args.self.now in
    let b = c.add_again-in-Func.new.self in
    unique_is a b c.args.id (any.Func c.in-Func.id) c.add_again-in-Func.result (NodeAgain a b c.in-Func.id.index) (length a.nodes) c.in-Func.is
    (λ k. renewed_func a b c.in-Func.id (record { index = k }) (subst (λ (id : ComponentAnyTypeId). Stands a (any_part id)) c.in-Func.is c.requires)) c.add_again-in-Func.ensures.again c.add_again-in-Func.ensures.last

pub returns-in-Instance-clause-ok : goal.returns-in-Instance-clause-ok
returns-in-Instance-clause-ok c =
    let a = c.args.self.now in
    let b = c.add_again-in-Instance.new.self in
    unique_is a b c.args.id (any.Instance c.in-Instance.id) c.add_again-in-Instance.result (NodeAgain a b c.in-Instance.id.index) (length a.nodes) c.in-Instance.is
    (λ k. renewed_instance a b c.in-Instance.id (record { index = k }) (subst (λ (id : ComponentAnyTypeId). Stands a (any_part id)) c.in-Instance.is c.requires)) c.add_again-in-Instance.ensures.again c.add_again-in-Instance.ensures.last

pub returns-in-Component-clause-ok : goal.returns-in-Component-clause-ok
returns-in-Component-clause-ok c =
    let a = c.args.self.now in
    let b = c.add_again-in-Component.new.self in
    unique_is a b c.args.id (any.Component c.in-Component.id) c.add_again-in-Component.result (NodeAgain a b c.in-Component.id.index) (length a.nodes) c.in-Component.is
    (λ k. renewed_component a b c.in-Component.id (record { index = k }) (subst (λ (id : ComponentAnyTypeId). Stands a (any_part id)) c.in-Component.is c.requires)) c.add_again-in-Component.ensures.again c.add_again-in-Component.ensures.last
