-- A handle names a resource that was looked up.
use Rattle.std.proofs.Common.{sym, subst}
use Rattle.wcv_syntax.specs.View.{defined_view}
use Rattle.wcv_syntax.specs.declared.component_type.ComponentDefinedType.{ComponentDefinedType}
use Rattle.wcv_types.specs.declared.shapes.ComponentDefinedType.TheVariants as d
use Rattle.wcv_lower.specs.Checks.{IsFree}
use Rattle.wcv_spaces.specs.Contents.{context_of}
use Rattle.wcv_spaces.specs.Promises.{MemoryOrCausedBy}
use Rattle.wcv_decls.specs.Resolved.{IsShape, resolve_checks}
use Rattle.wcv_decls.proofs.Handles.{own_shape, borrow_shape, resource_looked_free, resource_caused}
use Rattle.wcv_decls.proofs.defined.resolve_defined.Goals as goal

pub returns-in-Ok-clause-ok : goal.returns-in-Ok-clause-ok
returns-in-Ok-clause-ok c =
    subst (λ (t : ComponentDefinedType). IsShape c.args.types.now (context_of c.args.types.now c.args.state.now) (defined_view t) (d.Own c.in-Ok.id)) (sym c.in-Own.is)
    (own_shape c.args.types.now c.args.state.now c.requires.stands c.in-Own.index c.in-Ok.id c.in-Ok.ensures.ok)

pub returns-in-Ok-clause-free : goal.returns-in-Ok-clause-free
returns-in-Ok-clause-free c =
    subst (λ (t : ComponentDefinedType). IsFree (resolve_checks c.args.state.now.features (context_of c.args.types.now c.args.state.now) (defined_view t))) (sym c.in-Own.is)
    (resource_looked_free c.args.types.now c.args.state.now c.requires.stands c.in-Own.index c.in-Ok.id c.in-Ok.ensures.ok)

pub returns-in-Err-clause-err : goal.returns-in-Err-clause-err
returns-in-Err-clause-err c =
    subst (λ (t : ComponentDefinedType). MemoryOrCausedBy (resolve_checks c.args.state.now.features (context_of c.args.types.now c.args.state.now) (defined_view t)) c.args.offset c.in-Err.error) (sym c.in-Own.is)
    (resource_caused c.args.types.now c.args.state.now c.requires.stands c.in-Own.index c.args.offset c.in-Err.error c.in-Err.ensures.err)

pub returns-in-Ok-resource_at-clause-ok : goal.returns-in-Ok-resource_at-clause-ok
returns-in-Ok-resource_at-clause-ok c =
    subst (λ (t : ComponentDefinedType). IsShape c.args.types.now (context_of c.args.types.now c.args.state.now) (defined_view t) (d.Borrow c.in-Ok-resource_at.id)) (sym c.in-Borrow.is)
    (borrow_shape c.args.types.now c.args.state.now c.requires.stands c.in-Borrow.index c.in-Ok-resource_at.id c.in-Ok-resource_at.ensures.ok)

pub returns-in-Ok-resource_at-clause-free : goal.returns-in-Ok-resource_at-clause-free
returns-in-Ok-resource_at-clause-free c =
    subst (λ (t : ComponentDefinedType). IsFree (resolve_checks c.args.state.now.features (context_of c.args.types.now c.args.state.now) (defined_view t))) (sym c.in-Borrow.is)
    (resource_looked_free c.args.types.now c.args.state.now c.requires.stands c.in-Borrow.index c.in-Ok-resource_at.id c.in-Ok-resource_at.ensures.ok)

pub returns-in-Err-resource_at-clause-err : goal.returns-in-Err-resource_at-clause-err
returns-in-Err-resource_at-clause-err c =
    subst (λ (t : ComponentDefinedType). MemoryOrCausedBy (resolve_checks c.args.state.now.features (context_of c.args.types.now c.args.state.now) (defined_view t)) c.args.offset c.in-Err-resource_at.error) (sym c.in-Borrow.is)
    (resource_caused c.args.types.now c.args.state.now c.requires.stands c.in-Borrow.index c.args.offset c.in-Err-resource_at.error c.in-Err-resource_at.ensures.err)
