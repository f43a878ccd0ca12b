use Rattle.std.proofs.Common.{◌≡◌, ℕ, ◌<◌, ◌∙◌, length, get_or, ap, sym, subst, arith, List}
use Rattle.std.specs.Prelude.{OnOk, IfErr}
use Rattle.std.proofs.lemmas.Result.{err_from_is_err_and}
use Rattle.wcv_syntax.specs.declared.component_type.ComponentType.{ComponentType}
use Rattle.wcv_syntax.specs.declared.component_type.ComponentType.TheVariants as ty
use Rattle.wcv_syntax.specs.declared.component_type.ComponentTypeDeclaration.{ComponentTypeDeclaration}
use Rattle.wcv_syntax.specs.declared.component_type.InstanceTypeDeclaration.{InstanceTypeDeclaration}
use Rattle.wcv_syntax.specs.View.{type_view, component_decl_view, instance_decl_view}
use Rattle.wcv_lower.specs.Checks.{Checks, IsFree}
use Rattle.wcv_lower.specs.Declared.{declared_left}
use Rattle.wcv_spaces.specs.Promises.{MemoryOrCausedBy}
use Rattle.wcv_decls.proofs.DeclaredLeft.{list_left, component_left, instance_left, left_caused, left_free}
use Rattle.wcv_decls.proofs.declared_limits.+limits.Goals as goal

pub check_declared_limits-returns-in-Component-clause-ok : goal.check_declared_limits-returns-in-Component-clause-ok
check_declared_limits-returns-in-Component-clause-ok t c =
    let is : c.args.ty.now ≡ ty.Component c.in-Component.decls = cc (c.in-Component.is) in
    let e : declared_left (type_view c.args.ty.now) ≡ list_left component_decl_view c.in-Component.decls.items = ap (λ (u : ComponentType). declared_left (type_view u)) is ∙ component_left c.in-Component.decls in
    subst (λ (cs : Checks). OnOk c.check_in_component.result (IsFree cs)) (sym e) c.check_in_component.ensures.ok

pub check_declared_limits-returns-in-Component-clause-err : goal.check_declared_limits-returns-in-Component-clause-err
check_declared_limits-returns-in-Component-clause-err t c =
    let is : c.args.ty.now ≡ ty.Component c.in-Component.decls = cc (c.in-Component.is) in
    let e : declared_left (type_view c.args.ty.now) ≡ list_left component_decl_view c.in-Component.decls.items = ap (λ (u : ComponentType). declared_left (type_view u)) is ∙ component_left c.in-Component.decls in
    subst (λ (cs : Checks). IfErr c.check_in_component.result (MemoryOrCausedBy cs c.args.offset)) (sym e) c.check_in_component.ensures.err

pub check_in_component-returns-in_err-check_component_decl-clause-err : goal.check_in_component-returns-in_err-check_component_decl-clause-err
check_in_component-returns-in_err-check_component_decl-clause-err t c =
    let p = err_from_is_err_and c.from_residual-in_err-check_component_decl.result c.from_residual-in_err-check_component_decl.ensures.1 in
    let ds = c.deref-decl-items.result.now in
    let i : ℕ = c.loop-decl.decl-index in
    let d = c.decl-item.result in
    let x = c.in_err-check_component_decl.field-0.0 in
    let within : i < length ds = omega arith in
    let is : d ≡ get_or ds i d = cc (c.decl-item.is) in
    rw (p.1, p.2)
    (subst (λ (xs : List ComponentTypeDeclaration). MemoryOrCausedBy (list_left component_decl_view xs) c.args.offset x) c.deref-decl-items.ensures.value
    (left_caused component_decl_view ds i d c.args.offset x within is c.in_err-check_component_decl.ensures.err))

pub check_in_component-loop-decl-preserved : goal.check_in_component-loop-decl-preserved
check_in_component-loop-decl-preserved t c =
    let ds = c.deref-decl-items.result.now in
    let i : ℕ = c.loop-decl.decl-index in
    let d = c.decl-item.result in
    let within : i < length ds = omega arith in
    let is : d ≡ get_or ds i d = cc (c.decl-item.is) in
    left_free component_decl_view ds i d within is c.loop-decl.invariant c.in_ok-check_component_decl.ensures.ok

pub check_declared_limits-returns-in-Instance-clause-ok : goal.check_declared_limits-returns-in-Instance-clause-ok
check_declared_limits-returns-in-Instance-clause-ok t c =
    let is : c.args.ty.now ≡ ty.Instance c.in-Instance.decls = cc (c.in-Instance.is) in
    let e : declared_left (type_view c.args.ty.now) ≡ list_left instance_decl_view c.in-Instance.decls.items = ap (λ (u : ComponentType). declared_left (type_view u)) is ∙ instance_left c.in-Instance.decls in
    subst (λ (cs : Checks). OnOk c.check_in_instance.result (IsFree cs)) (sym e) c.check_in_instance.ensures.ok

pub check_declared_limits-returns-in-Instance-clause-err : goal.check_declared_limits-returns-in-Instance-clause-err
check_declared_limits-returns-in-Instance-clause-err t c =
    let is : c.args.ty.now ≡ ty.Instance c.in-Instance.decls = cc (c.in-Instance.is) in
    let e : declared_left (type_view c.args.ty.now) ≡ list_left instance_decl_view c.in-Instance.decls.items = ap (λ (u : ComponentType). declared_left (type_view u)) is ∙ instance_left c.in-Instance.decls in
    subst (λ (cs : Checks). IfErr c.check_in_instance.result (MemoryOrCausedBy cs c.args.offset)) (sym e) c.check_in_instance.ensures.err

pub check_in_instance-returns-in_err-check_instance_decl-clause-err : goal.check_in_instance-returns-in_err-check_instance_decl-clause-err
check_in_instance-returns-in_err-check_instance_decl-clause-err t c =
    let p = err_from_is_err_and c.from_residual-in_err-check_instance_decl.result c.from_residual-in_err-check_instance_decl.ensures.1 in
    let ds = c.deref-decl-items.result.now in
    let i : ℕ = c.loop-decl.decl-index in
    let d = c.decl-item.result in
    let x = c.in_err-check_instance_decl.field-0.0 in
    let within : i < length ds = omega arith in
    let is : d ≡ get_or ds i d = cc (c.decl-item.is) in
    rw (p.1, p.2)
    (subst (λ (xs : List InstanceTypeDeclaration). MemoryOrCausedBy (list_left instance_decl_view xs) c.args.offset x) c.deref-decl-items.ensures.value
    (left_caused instance_decl_view ds i d c.args.offset x within is c.in_err-check_instance_decl.ensures.err))

pub check_in_instance-loop-decl-preserved : goal.check_in_instance-loop-decl-preserved
check_in_instance-loop-decl-preserved t c =
    let ds = c.deref-decl-items.result.now in
    let i : ℕ = c.loop-decl.decl-index in
    let d = c.decl-item.result in
    let within : i < length ds = omega arith in
    let is : d ≡ get_or ds i d = cc (c.decl-item.is) in
    left_free instance_decl_view ds i d within is c.loop-decl.invariant c.in_ok-check_instance_decl.ensures.ok
