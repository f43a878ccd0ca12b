use Rattle.std.proofs.Common.{◌≡◌, ℕ, suc, ◌<◌, List, [], ◌∷◌, ◌++◌, length, map, sym, ◌∙◌, ap, subst, arith, inl, ◌≤◌}
use Rattle.std.specs.Prelude.{OnOk, IfErr}
use Rattle.std.specs.Vec.Iter.{into_iter_items}
use Rattle.std.proofs.lemmas.List.{length-append}
use Rattle.std.proofs.lemmas.Result.{err_from_is_err_and, on_ok_weaker, on_err_weaker, IfErr-weaker}
use Rattle.wcv_syntax.specs.Model.{Type_form, Decl, Decls, no_decls, declare, component_type, instance_type, type_decl}
use Rattle.wcv_syntax.specs.View.{decls_of, type_view, component_decl_view, instance_decl_view}
use Rattle.wcv_syntax.specs.declared.component_type.ComponentTypeDeclaration.{ComponentTypeDeclaration}
use Rattle.wcv_syntax.specs.declared.component_type.InstanceTypeDeclaration.{InstanceTypeDeclaration}
use Rattle.wcv_syntax.proofs.Views.{type_view-Component, type_view-Instance, component_of_core_type, component_of_type, component_of_alias, component_of_export, component_of_import, instance_of_core_type, instance_of_type, instance_of_alias, instance_of_export}
use Rattle.wcv_types.proofs.Grown.{extends_refl}
use Rattle.wcv_lower.specs.Context.{declares_instance, declares_component}
use Rattle.wcv_spaces.specs.Contents.{Contents}
use Rattle.wcv_state.proofs.Stacks.{around_kept}
use Rattle.wcv_decls.specs.Declaring.{around, SameAround, MemoryOr, ReadsType, ReadsDecl, RefusesType, RefusesDecl, RefusesDecls}
use Rattle.wcv_decls.specs.Stack.{all_spent, all_uncharged, KeepsOn}
use Rattle.wcv_decls.proofs.FormSizes.{type_size, decl_size, decls_size, first_smaller, rest_smaller}
use Rattle.wcv_decls.proofs.ReadingOn.{SoFar, so_far_start, so_far_next, so_far_all, so_far_refused, nothing_left, refused_same, kept_both, extends_on, grown_numbers}
use Rattle.wcv_decls.proofs.Whole.{component_barred, instance_barred, some_around, marks_further, marks_around, kept_around, whole_stays, whole_declares, component_whole, instance_whole, component_inside_refused, instance_inside_refused, component_end_refused, opened_body}
use Rattle.wcv_decls.proofs.declared.+declared.Goals as goal

-- ## A type by its form

pub declare_type-declare_component_type-requires : goal.declare_type-declare_component_type-requires
declare_type-declare_component_type-requires t c =
    let e : type_view c.args.ty ≡ component_type (decls_of (map component_decl_view c.in-Component.decls.items)) = ap type_view c.in-Component.is ∙ type_view-Component c.in-Component.decls in
    let size = ap type_size e in
    (omega (arith, size, c.decreases), c.requires.ready)

pub declare_type-returns-in-Component-clause-ok : goal.declare_type-returns-in-Component-clause-ok
declare_type-returns-in-Component-clause-ok t c =
    let e : type_view c.args.ty ≡ component_type (decls_of (map component_decl_view c.in-Component.decls.items)) = ap type_view c.in-Component.is ∙ type_view-Component c.in-Component.decls in
    subst (λ (x : Type_form). OnOk c.declare_component_type.result (ReadsType c.args.check_limit c.args.types.now c.declare_component_type.new.types c.args.components.now.items c.declare_component_type.new.components.items x)) (sym e) c.declare_component_type.ensures.ok

pub declare_type-returns-in-Component-clause-err : goal.declare_type-returns-in-Component-clause-err
declare_type-returns-in-Component-clause-err t c =
    let e : type_view c.args.ty ≡ component_type (decls_of (map component_decl_view c.in-Component.decls.items)) = ap type_view c.in-Component.is ∙ type_view-Component c.in-Component.decls in
    subst (λ (x : Type_form). IfErr c.declare_component_type.result (MemoryOr (RefusesType c.args.check_limit c.args.types.now c.declare_component_type.new.types c.args.components.now.items x) c.args.offset)) (sym e) c.declare_component_type.ensures.err

pub declare_type-declare_instance_type-requires : goal.declare_type-declare_instance_type-requires
declare_type-declare_instance_type-requires t c =
    let e : type_view c.args.ty ≡ instance_type (decls_of (map instance_decl_view c.in-Instance.decls.items)) = ap type_view c.in-Instance.is ∙ type_view-Instance c.in-Instance.decls in
    let size = ap type_size e in
    (omega (arith, size, c.decreases), c.requires.ready)

pub declare_type-returns-in-Instance-clause-ok : goal.declare_type-returns-in-Instance-clause-ok
declare_type-returns-in-Instance-clause-ok t c =
    let e : type_view c.args.ty ≡ instance_type (decls_of (map instance_decl_view c.in-Instance.decls.items)) = ap type_view c.in-Instance.is ∙ type_view-Instance c.in-Instance.decls in
    subst (λ (x : Type_form). OnOk c.declare_instance_type.result (ReadsType c.args.check_limit c.args.types.now c.declare_instance_type.new.types c.args.components.now.items c.declare_instance_type.new.components.items x)) (sym e) c.declare_instance_type.ensures.ok

pub declare_type-returns-in-Instance-clause-err : goal.declare_type-returns-in-Instance-clause-err
declare_type-returns-in-Instance-clause-err t c =
    let e : type_view c.args.ty ≡ instance_type (decls_of (map instance_decl_view c.in-Instance.decls.items)) = ap type_view c.in-Instance.is ∙ type_view-Instance c.in-Instance.decls in
    subst (λ (x : Type_form). IfErr c.declare_instance_type.result (MemoryOr (RefusesType c.args.check_limit c.args.types.now c.declare_instance_type.new.types c.args.components.now.items x) c.args.offset)) (sym e) c.declare_instance_type.ensures.err

-- ## Declared types

pub declare_component_type-returns-in_err-open_type-clause-err : goal.declare_component_type-returns-in_err-open_type-clause-err
declare_component_type-returns-in_err-open_type-clause-err t c =
    let a = c.args.types.now in
    let ss : List Contents = c.args.components.now.items in
    let ds : Decls = decls_of (map component_decl_view c.args.decls.items) in
    let p = err_from_is_err_and c.from_residual.result c.from_residual.ensures.1 in
    rw (p.1, p.2) (component_barred c.args.check_limit a a ss ds c.args.offset c.in_err-open_type.field-0.0 c.in_err-open_type.ensures.err)

pub declare_component_type-returns-in_err-open_type-clause-around : goal.declare_component_type-returns-in_err-open_type-clause-around
declare_component_type-returns-in_err-open_type-clause-around t c =
    let p = err_from_is_err_and c.from_residual.result c.from_residual.ensures.1 in
    rw p.1 (ap (λ (xs : List Contents). all_spent (all_uncharged (around xs))) c.in_err-open_type.ensures.same)

pub declare_component_type-returns-in_err-open_type-clause-keeps : goal.declare_component_type-returns-in_err-open_type-clause-keeps
declare_component_type-returns-in_err-open_type-clause-keeps t c =
    let a = c.args.types.now in
    let ss : List Contents = c.args.components.now.items in
    subst (KeepsOn a a ss) (sym c.in_err-open_type.ensures.same) (around_kept a a (extends_refl a) ss c.requires.ready.each)

pub declare_component_type-read_component_decls-requires : goal.declare_component_type-read_component_decls-requires
declare_component_type-read_component_decls-requires t c =
    (omega (arith, c.decreases), c.in_ok-open_type.ensures.ready)

pub declare_component_type-end_component_type-requires-clause-ready : goal.declare_component_type-end_component_type-requires-clause-ready
declare_component_type-end_component_type-requires-clause-ready t c =
    c.in-Ok.ensures.ready.ready

pub declare_component_type-end_component_type-requires-clause-inside : goal.declare_component_type-end_component_type-requires-clause-inside
declare_component_type-end_component_type-requires-clause-inside t c =
    let a = c.args.types.now in
    let ss : List Contents = c.args.components.now.items in
    let ds : Decls = decls_of (map component_decl_view c.args.decls.items) in
    let ts : List Contents = c.open_type.new.components.items in
    let m = c.read_component_decls.new.types in
    let us : List Contents = c.read_component_decls.new.components.items in
    some_around declares_component a ss ts c.requires.ready c.in_ok-open_type.ensures.ok m us c.read_component_decls.ensures.keeps c.in-Ok.ensures.ready

pub declare_component_type-returns-in-Ok-clause-ok : goal.declare_component_type-returns-in-Ok-clause-ok
declare_component_type-returns-in-Ok-clause-ok t c =
    let a = c.args.types.now in
    let ss : List Contents = c.args.components.now.items in
    let ds : Decls = decls_of (map component_decl_view c.args.decls.items) in
    let ts : List Contents = c.open_type.new.components.items in
    let m = c.read_component_decls.new.types in
    let us : List Contents = c.read_component_decls.new.components.items in
    let b = c.end_component_type.new.types in
    let vs : List Contents = c.end_component_type.new.components.items in
    on_ok_weaker c.end_component_type.result (λ z. component_whole c.args.check_limit a ss ts c.requires.ready c.in_ok-open_type.ensures.full c.in_ok-open_type.ensures.room m us ds c.in_ok-open_type.ensures.ok c.read_component_decls.ensures.keeps c.in-Ok.ensures.ready b vs c.in-Ok.ensures.ok z c.end_component_type.ensures.keeps) c.end_component_type.ensures.ok

pub declare_component_type-returns-in-Ok-clause-ready : goal.declare_component_type-returns-in-Ok-clause-ready
declare_component_type-returns-in-Ok-clause-ready t c =
    let a = c.args.types.now in
    let ss : List Contents = c.args.components.now.items in
    let ds : Decls = decls_of (map component_decl_view c.args.decls.items) in
    let ts : List Contents = c.open_type.new.components.items in
    let m = c.read_component_decls.new.types in
    let us : List Contents = c.read_component_decls.new.components.items in
    let b = c.end_component_type.new.types in
    let vs : List Contents = c.end_component_type.new.components.items in
    on_ok_weaker c.end_component_type.result (λ z. whole_stays declares_component a ss ts c.requires.ready c.in_ok-open_type.ensures.ok m us c.read_component_decls.ensures.keeps c.in-Ok.ensures.ready b vs z c.end_component_type.ensures.keeps) c.end_component_type.ensures.ok

pub declare_component_type-returns-in-Ok-clause-declares : goal.declare_component_type-returns-in-Ok-clause-declares
declare_component_type-returns-in-Ok-clause-declares t c =
    let a = c.args.types.now in
    let ss : List Contents = c.args.components.now.items in
    let ds : Decls = decls_of (map component_decl_view c.args.decls.items) in
    let ts : List Contents = c.open_type.new.components.items in
    let m = c.read_component_decls.new.types in
    let us : List Contents = c.read_component_decls.new.components.items in
    let b = c.end_component_type.new.types in
    let vs : List Contents = c.end_component_type.new.components.items in
    on_ok_weaker c.end_component_type.result (λ z. whole_declares declares_component a ss ts c.requires.ready c.in_ok-open_type.ensures.ok m us c.read_component_decls.ensures.keeps c.in-Ok.ensures.ready b vs z c.end_component_type.ensures.keeps) c.end_component_type.ensures.ok

pub declare_component_type-returns-in-Ok-clause-err : goal.declare_component_type-returns-in-Ok-clause-err
declare_component_type-returns-in-Ok-clause-err t c =
    let a = c.args.types.now in
    let ss : List Contents = c.args.components.now.items in
    let ds : Decls = decls_of (map component_decl_view c.args.decls.items) in
    let ts : List Contents = c.open_type.new.components.items in
    let m = c.read_component_decls.new.types in
    let us : List Contents = c.read_component_decls.new.components.items in
    let b = c.end_component_type.new.types in
    let vs : List Contents = c.end_component_type.new.components.items in
    let some : 0 < length (around us) = some_around declares_component a ss ts c.requires.ready c.in_ok-open_type.ensures.ok m us c.read_component_decls.ensures.keeps c.in-Ok.ensures.ready in
    IfErr-weaker c.end_component_type.result _ _ (λ e x. component_end_refused c.args.check_limit a ss ts c.requires.ready c.in_ok-open_type.ensures.full c.in_ok-open_type.ensures.room m us ds c.in_ok-open_type.ensures.ok b c.args.offset e (grown_numbers m b (extends_on m b (around us) vs some c.end_component_type.ensures.keeps)) c.in-Ok.ensures.ok x) c.end_component_type.ensures.err

pub declare_component_type-returns-in-Ok-clause-around : goal.declare_component_type-returns-in-Ok-clause-around
declare_component_type-returns-in-Ok-clause-around t c =
    let a = c.args.types.now in
    let ss : List Contents = c.args.components.now.items in
    let ds : Decls = decls_of (map component_decl_view c.args.decls.items) in
    let ts : List Contents = c.open_type.new.components.items in
    let m = c.read_component_decls.new.types in
    let us : List Contents = c.read_component_decls.new.components.items in
    let b = c.end_component_type.new.types in
    let vs : List Contents = c.end_component_type.new.components.items in
    on_err_weaker c.end_component_type.result (marks_further declares_component a ss ts c.requires.ready c.in_ok-open_type.ensures.ok m us c.read_component_decls.ensures.keeps c.in-Ok.ensures.ready vs) c.end_component_type.ensures.around

pub declare_component_type-returns-in-Ok-clause-keeps : goal.declare_component_type-returns-in-Ok-clause-keeps
declare_component_type-returns-in-Ok-clause-keeps t c =
    let a = c.args.types.now in
    let ss : List Contents = c.args.components.now.items in
    let ds : Decls = decls_of (map component_decl_view c.args.decls.items) in
    let ts : List Contents = c.open_type.new.components.items in
    let m = c.read_component_decls.new.types in
    let us : List Contents = c.read_component_decls.new.components.items in
    let b = c.end_component_type.new.types in
    let vs : List Contents = c.end_component_type.new.components.items in
    kept_both a m b ss (around us) vs (kept_around declares_component a ss ts c.requires.ready c.in_ok-open_type.ensures.ok m us c.read_component_decls.ensures.keeps) c.end_component_type.ensures.keeps

pub declare_component_type-returns-in-Err-clause-err : goal.declare_component_type-returns-in-Err-clause-err
declare_component_type-returns-in-Err-clause-err t c =
    let a = c.args.types.now in
    let ss : List Contents = c.args.components.now.items in
    let ds : Decls = decls_of (map component_decl_view c.args.decls.items) in
    let ts : List Contents = c.open_type.new.components.items in
    let m = c.read_component_decls.new.types in
    let us : List Contents = c.read_component_decls.new.components.items in
    component_inside_refused c.args.check_limit a ss ts c.requires.ready c.in_ok-open_type.ensures.full c.in_ok-open_type.ensures.room m us ds c.in_ok-open_type.ensures.ok c.args.offset c.in-Err.error c.in-Err.ensures.err

pub declare_component_type-returns-in-Err-clause-around : goal.declare_component_type-returns-in-Err-clause-around
declare_component_type-returns-in-Err-clause-around t c =
    let a = c.args.types.now in
    let ss : List Contents = c.args.components.now.items in
    let ds : Decls = decls_of (map component_decl_view c.args.decls.items) in
    let ts : List Contents = c.open_type.new.components.items in
    let m = c.read_component_decls.new.types in
    let us : List Contents = c.read_component_decls.new.components.items in
    subst (SameAround ss) (sym c.leave.ensures) (marks_around declares_component a ss ts c.requires.ready c.in_ok-open_type.ensures.ok m us c.read_component_decls.ensures.keeps c.in-Err.ensures.around)

pub declare_component_type-returns-in-Err-clause-keeps : goal.declare_component_type-returns-in-Err-clause-keeps
declare_component_type-returns-in-Err-clause-keeps t c =
    let a = c.args.types.now in
    let ss : List Contents = c.args.components.now.items in
    let ds : Decls = decls_of (map component_decl_view c.args.decls.items) in
    let ts : List Contents = c.open_type.new.components.items in
    let m = c.read_component_decls.new.types in
    let us : List Contents = c.read_component_decls.new.components.items in
    subst (KeepsOn a m ss) (sym c.leave.ensures) (kept_around declares_component a ss ts c.requires.ready c.in_ok-open_type.ensures.ok m us c.read_component_decls.ensures.keeps)

pub declare_instance_type-returns-in_err-open_type-clause-err : goal.declare_instance_type-returns-in_err-open_type-clause-err
declare_instance_type-returns-in_err-open_type-clause-err t c =
    let a = c.args.types.now in
    let ss : List Contents = c.args.components.now.items in
    let ds : Decls = decls_of (map instance_decl_view c.args.decls.items) in
    let p = err_from_is_err_and c.from_residual.result c.from_residual.ensures.1 in
    rw (p.1, p.2) (instance_barred c.args.check_limit a a ss ds c.args.offset c.in_err-open_type.field-0.0 c.in_err-open_type.ensures.err)

pub declare_instance_type-returns-in_err-open_type-clause-around : goal.declare_instance_type-returns-in_err-open_type-clause-around
declare_instance_type-returns-in_err-open_type-clause-around t c =
    let p = err_from_is_err_and c.from_residual.result c.from_residual.ensures.1 in
    rw p.1 (ap (λ (xs : List Contents). all_spent (all_uncharged (around xs))) c.in_err-open_type.ensures.same)

pub declare_instance_type-returns-in_err-open_type-clause-keeps : goal.declare_instance_type-returns-in_err-open_type-clause-keeps
declare_instance_type-returns-in_err-open_type-clause-keeps t c =
    let a = c.args.types.now in
    let ss : List Contents = c.args.components.now.items in
    subst (KeepsOn a a ss) (sym c.in_err-open_type.ensures.same) (around_kept a a (extends_refl a) ss c.requires.ready.each)

pub declare_instance_type-read_instance_decls-requires : goal.declare_instance_type-read_instance_decls-requires
declare_instance_type-read_instance_decls-requires t c =
    (omega (arith, c.decreases), (c.in_ok-open_type.ensures.ready, opened_body c.args.types.now c.args.components.now.items c.open_type.new.components.items c.in_ok-open_type.ensures.ok))

pub declare_instance_type-end_instance_type-requires-clause-ready : goal.declare_instance_type-end_instance_type-requires-clause-ready
declare_instance_type-end_instance_type-requires-clause-ready t c =
    c.in-Ok.ensures.ready.ready

pub declare_instance_type-end_instance_type-requires-clause-inside : goal.declare_instance_type-end_instance_type-requires-clause-inside
declare_instance_type-end_instance_type-requires-clause-inside t c =
    let a = c.args.types.now in
    let ss : List Contents = c.args.components.now.items in
    let ds : Decls = decls_of (map instance_decl_view c.args.decls.items) in
    let ts : List Contents = c.open_type.new.components.items in
    let m = c.read_instance_decls.new.types in
    let us : List Contents = c.read_instance_decls.new.components.items in
    some_around declares_instance a ss ts c.requires.ready c.in_ok-open_type.ensures.ok m us c.read_instance_decls.ensures.keeps c.in-Ok.ensures.ready

pub declare_instance_type-end_instance_type-requires-clause-declares : goal.declare_instance_type-end_instance_type-requires-clause-declares
declare_instance_type-end_instance_type-requires-clause-declares t c =
    c.in-Ok.ensures.declares

pub declare_instance_type-returns-in-Ok-clause-ok : goal.declare_instance_type-returns-in-Ok-clause-ok
declare_instance_type-returns-in-Ok-clause-ok t c =
    let a = c.args.types.now in
    let ss : List Contents = c.args.components.now.items in
    let ds : Decls = decls_of (map instance_decl_view c.args.decls.items) in
    let ts : List Contents = c.open_type.new.components.items in
    let m = c.read_instance_decls.new.types in
    let us : List Contents = c.read_instance_decls.new.components.items in
    let b = c.end_instance_type.new.types in
    let vs : List Contents = c.end_instance_type.new.components.items in
    on_ok_weaker c.end_instance_type.result (λ z. instance_whole c.args.check_limit a ss ts c.requires.ready c.in_ok-open_type.ensures.full c.in_ok-open_type.ensures.room m us ds c.in_ok-open_type.ensures.ok c.read_instance_decls.ensures.keeps c.in-Ok.ensures.ready b vs c.in-Ok.ensures.ok z c.end_instance_type.ensures.keeps) c.end_instance_type.ensures.ok

pub declare_instance_type-returns-in-Ok-clause-ready : goal.declare_instance_type-returns-in-Ok-clause-ready
declare_instance_type-returns-in-Ok-clause-ready t c =
    let a = c.args.types.now in
    let ss : List Contents = c.args.components.now.items in
    let ds : Decls = decls_of (map instance_decl_view c.args.decls.items) in
    let ts : List Contents = c.open_type.new.components.items in
    let m = c.read_instance_decls.new.types in
    let us : List Contents = c.read_instance_decls.new.components.items in
    let b = c.end_instance_type.new.types in
    let vs : List Contents = c.end_instance_type.new.components.items in
    on_ok_weaker c.end_instance_type.result (λ z. whole_stays declares_instance a ss ts c.requires.ready c.in_ok-open_type.ensures.ok m us c.read_instance_decls.ensures.keeps c.in-Ok.ensures.ready b vs z c.end_instance_type.ensures.keeps) c.end_instance_type.ensures.ok

pub declare_instance_type-returns-in-Ok-clause-declares : goal.declare_instance_type-returns-in-Ok-clause-declares
declare_instance_type-returns-in-Ok-clause-declares t c =
    let a = c.args.types.now in
    let ss : List Contents = c.args.components.now.items in
    let ds : Decls = decls_of (map instance_decl_view c.args.decls.items) in
    let ts : List Contents = c.open_type.new.components.items in
    let m = c.read_instance_decls.new.types in
    let us : List Contents = c.read_instance_decls.new.components.items in
    let b = c.end_instance_type.new.types in
    let vs : List Contents = c.end_instance_type.new.components.items in
    on_ok_weaker c.end_instance_type.result (λ z. whole_declares declares_instance a ss ts c.requires.ready c.in_ok-open_type.ensures.ok m us c.read_instance_decls.ensures.keeps c.in-Ok.ensures.ready b vs z c.end_instance_type.ensures.keeps) c.end_instance_type.ensures.ok

pub declare_instance_type-returns-in-Ok-clause-err : goal.declare_instance_type-returns-in-Ok-clause-err
declare_instance_type-returns-in-Ok-clause-err t c =
    IfErr-weaker c.end_instance_type.result _ _ (λ e x p. inl x) c.end_instance_type.ensures.err

pub declare_instance_type-returns-in-Ok-clause-around : goal.declare_instance_type-returns-in-Ok-clause-around
declare_instance_type-returns-in-Ok-clause-around t c =
    let a = c.args.types.now in
    let ss : List Contents = c.args.components.now.items in
    let ds : Decls = decls_of (map instance_decl_view c.args.decls.items) in
    let ts : List Contents = c.open_type.new.components.items in
    let m = c.read_instance_decls.new.types in
    let us : List Contents = c.read_instance_decls.new.components.items in
    let b = c.end_instance_type.new.types in
    let vs : List Contents = c.end_instance_type.new.components.items in
    on_err_weaker c.end_instance_type.result (marks_further declares_instance a ss ts c.requires.ready c.in_ok-open_type.ensures.ok m us c.read_instance_decls.ensures.keeps c.in-Ok.ensures.ready vs) c.end_instance_type.ensures.around

pub declare_instance_type-returns-in-Ok-clause-keeps : goal.declare_instance_type-returns-in-Ok-clause-keeps
declare_instance_type-returns-in-Ok-clause-keeps t c =
    let a = c.args.types.now in
    let ss : List Contents = c.args.components.now.items in
    let ds : Decls = decls_of (map instance_decl_view c.args.decls.items) in
    let ts : List Contents = c.open_type.new.components.items in
    let m = c.read_instance_decls.new.types in
    let us : List Contents = c.read_instance_decls.new.components.items in
    let b = c.end_instance_type.new.types in
    let vs : List Contents = c.end_instance_type.new.components.items in
    kept_both a m b ss (around us) vs (kept_around declares_instance a ss ts c.requires.ready c.in_ok-open_type.ensures.ok m us c.read_instance_decls.ensures.keeps) c.end_instance_type.ensures.keeps

pub declare_instance_type-returns-in-Err-clause-err : goal.declare_instance_type-returns-in-Err-clause-err
declare_instance_type-returns-in-Err-clause-err t c =
    let a = c.args.types.now in
    let ss : List Contents = c.args.components.now.items in
    let ds : Decls = decls_of (map instance_decl_view c.args.decls.items) in
    let ts : List Contents = c.open_type.new.components.items in
    let m = c.read_instance_decls.new.types in
    let us : List Contents = c.read_instance_decls.new.components.items in
    instance_inside_refused c.args.check_limit a ss ts c.requires.ready c.in_ok-open_type.ensures.full c.in_ok-open_type.ensures.room m us ds c.in_ok-open_type.ensures.ok c.args.offset c.in-Err.error c.in-Err.ensures.err

pub declare_instance_type-returns-in-Err-clause-around : goal.declare_instance_type-returns-in-Err-clause-around
declare_instance_type-returns-in-Err-clause-around t c =
    let a = c.args.types.now in
    let ss : List Contents = c.args.components.now.items in
    let ds : Decls = decls_of (map instance_decl_view c.args.decls.items) in
    let ts : List Contents = c.open_type.new.components.items in
    let m = c.read_instance_decls.new.types in
    let us : List Contents = c.read_instance_decls.new.components.items in
    subst (SameAround ss) (sym c.leave.ensures) (marks_around declares_instance a ss ts c.requires.ready c.in_ok-open_type.ensures.ok m us c.read_instance_decls.ensures.keeps c.in-Err.ensures.around)

pub declare_instance_type-returns-in-Err-clause-keeps : goal.declare_instance_type-returns-in-Err-clause-keeps
declare_instance_type-returns-in-Err-clause-keeps t c =
    let a = c.args.types.now in
    let ss : List Contents = c.args.components.now.items in
    let ds : Decls = decls_of (map instance_decl_view c.args.decls.items) in
    let ts : List Contents = c.open_type.new.components.items in
    let m = c.read_instance_decls.new.types in
    let us : List Contents = c.read_instance_decls.new.components.items in
    subst (KeepsOn a m ss) (sym c.leave.ensures) (kept_around declares_instance a ss ts c.requires.ready c.in_ok-open_type.ensures.ok m us c.read_instance_decls.ensures.keeps)

-- ## Declarations, one after the other

pub read_component_decls-loop-decl-init : goal.read_component_decls-loop-decl-init
read_component_decls-loop-decl-init t c =
    let a = c.args.types.now in
    let ss : List Contents = c.args.components.now.items in
    let ds : Decls = decls_of (map component_decl_view c.args.decls.items) in
    let items : into_iter_items c.into_iter-decl-iterator.result ≡ c.args.decls.items = c.into_iter-decl-iterator.ensures.into_iter_gives.0 in
    record {
      far = subst (λ (xs : List ComponentTypeDeclaration). SoFar declares_component a ss ds a ss 0 (decls_of (map component_decl_view xs))) (sym items) (so_far_start declares_component a ss ds c.requires.ready);
      left = c.into_iter-decl-iterator.ensures.into_iter_gives.1 ∙ c.args.decls.ok.0 ∙ sym (ap length items);
      small = subst (λ (xs : List ComponentTypeDeclaration). decls_size (decls_of (map component_decl_view xs)) ≤ decls_size ds) (sym items) (omega arith);
    }

pub read_component_decls-read_component_decl-requires : goal.read_component_decls-read_component_decl-requires
read_component_decls-read_component_decl-requires t c =
    let a = c.args.types.now in
    let ss : List Contents = c.args.components.now.items in
    let ds : Decls = decls_of (map component_decl_view c.args.decls.items) in
    let ts : List Contents = c.loop-decl.components.items in
    let n = length c.loop-decl.yielded in
    let d : Decl = component_decl_view c.in-Some.decl in
    let rest : Decls = decls_of (map component_decl_view (into_iter_items c.next.new.self)) in
    let left : decls_of (map component_decl_view (into_iter_items c.loop-decl.decl-iterator)) ≡ declare d rest = ap (λ (xs : List ComponentTypeDeclaration). decls_of (map component_decl_view xs)) c.in-Some.ensures.steps.0 in
    let far : SoFar declares_component a ss ds c.loop-decl.types ts n (declare d rest) = subst (λ (z : Decls). SoFar declares_component a ss ds c.loop-decl.types ts n z) left c.loop-decl.invariant.far in
    let small : decls_size (declare d rest) ≤ decls_size ds = subst (λ (z : Decls). decls_size z ≤ decls_size ds) left c.loop-decl.invariant.small in
    let less = first_smaller d rest ds small in
    (omega (arith, less, c.decreases), far.ready.ready)

pub read_component_decls-loop-decl-preserved : goal.read_component_decls-loop-decl-preserved
read_component_decls-loop-decl-preserved t c =
    let a = c.args.types.now in
    let ss : List Contents = c.args.components.now.items in
    let ds : Decls = decls_of (map component_decl_view c.args.decls.items) in
    let ts : List Contents = c.loop-decl.components.items in
    let n = length c.loop-decl.yielded in
    let d : Decl = component_decl_view c.in-Some.decl in
    let rest : Decls = decls_of (map component_decl_view (into_iter_items c.next.new.self)) in
    let left : decls_of (map component_decl_view (into_iter_items c.loop-decl.decl-iterator)) ≡ declare d rest = ap (λ (xs : List ComponentTypeDeclaration). decls_of (map component_decl_view xs)) c.in-Some.ensures.steps.0 in
    let far : SoFar declares_component a ss ds c.loop-decl.types ts n (declare d rest) = subst (λ (z : Decls). SoFar declares_component a ss ds c.loop-decl.types ts n z) left c.loop-decl.invariant.far in
    let small : decls_size (declare d rest) ≤ decls_size ds = subst (λ (z : Decls). decls_size z ≤ decls_size ds) left c.loop-decl.invariant.small in
    let b = c.read_component_decl.new.types in
    let us : List Contents = c.read_component_decl.new.components.items in
    let more : suc n ≡ length (c.loop-decl.yielded ++ c.in-Some.decl ∷ []) = omega (arith, length-append c.loop-decl.yielded (c.in-Some.decl ∷ [])) in
    record {
      far = subst (λ (j : ℕ). SoFar declares_component a ss ds b us j rest) more (so_far_next declares_component a ss ds c.requires.ready.some c.loop-decl.types ts n d rest b us far c.in-Ok.ensures.ok c.in-Ok.ensures.ready c.read_component_decl.ensures.keeps);
      left = let gone = c.in-Some.ensures.steps.1 in let short = ap length c.in-Some.ensures.steps.0 in let before = c.loop-decl.invariant.left in omega (arith, gone, short, before);
      small = rest_smaller d rest ds small;
    }

pub read_component_decls-returns-in-Err-clause-err : goal.read_component_decls-returns-in-Err-clause-err
read_component_decls-returns-in-Err-clause-err t c =
    let a = c.args.types.now in
    let ss : List Contents = c.args.components.now.items in
    let ds : Decls = decls_of (map component_decl_view c.args.decls.items) in
    let ts : List Contents = c.loop-decl.components.items in
    let n = length c.loop-decl.yielded in
    let d : Decl = component_decl_view c.in-Some.decl in
    let rest : Decls = decls_of (map component_decl_view (into_iter_items c.next.new.self)) in
    let left : decls_of (map component_decl_view (into_iter_items c.loop-decl.decl-iterator)) ≡ declare d rest = ap (λ (xs : List ComponentTypeDeclaration). decls_of (map component_decl_view xs)) c.in-Some.ensures.steps.0 in
    let far : SoFar declares_component a ss ds c.loop-decl.types ts n (declare d rest) = subst (λ (z : Decls). SoFar declares_component a ss ds c.loop-decl.types ts n z) left c.loop-decl.invariant.far in
    let b = c.read_component_decl.new.types in
    let us : List Contents = c.read_component_decl.new.components.items in
    refused_same (RefusesDecls declares_component a b ss ds) c.args.offset c.in-Err.error c.in_declaration.result c.in_declaration.ensures.kind c.in_declaration.ensures.offset (so_far_refused declares_component a ss ds c.requires.ready.some c.loop-decl.types ts n d rest b us c.args.offset c.in-Err.error far c.read_component_decl.ensures.keeps c.in-Err.ensures.err)

pub read_component_decls-returns-in-Err-clause-around : goal.read_component_decls-returns-in-Err-clause-around
read_component_decls-returns-in-Err-clause-around t c =
    c.in-Err.ensures.around ∙ ap all_spent c.loop-decl.invariant.far.ready.around

pub read_component_decls-returns-in-Err-clause-keeps : goal.read_component_decls-returns-in-Err-clause-keeps
read_component_decls-returns-in-Err-clause-keeps t c =
    let a = c.args.types.now in
    let ss : List Contents = c.args.components.now.items in
    let ts : List Contents = c.loop-decl.components.items in
    let b = c.read_component_decl.new.types in
    let us : List Contents = c.read_component_decl.new.components.items in
    kept_both a c.loop-decl.types b ss ts us c.loop-decl.invariant.far.kept c.read_component_decl.ensures.keeps

pub read_component_decls-returns-clause-ok : goal.read_component_decls-returns-clause-ok
read_component_decls-returns-clause-ok t c =
    let a = c.args.types.now in
    let ss : List Contents = c.args.components.now.items in
    let ds : Decls = decls_of (map component_decl_view c.args.decls.items) in
    let none = c.in-None.ensures.steps in
    let empty : into_iter_items c.loop-decl.decl-iterator ≡ [] = nothing_left _ (sym c.loop-decl.invariant.left ∙ none.0) in
    let z : decls_of (map component_decl_view (into_iter_items c.loop-decl.decl-iterator)) ≡ no_decls = ap (λ (xs : List ComponentTypeDeclaration). decls_of (map component_decl_view xs)) empty in
    so_far_all declares_component a ss ds c.requires.ready.some c.loop-decl.types c.loop-decl.components.items (length c.loop-decl.yielded) _ z c.loop-decl.invariant.far

pub read_component_decls-returns-clause-ready : goal.read_component_decls-returns-clause-ready
read_component_decls-returns-clause-ready t c =
    c.loop-decl.invariant.far.ready

pub read_component_decls-returns-clause-keeps : goal.read_component_decls-returns-clause-keeps
read_component_decls-returns-clause-keeps t c =
    c.loop-decl.invariant.far.kept

pub read_instance_decls-loop-decl-init : goal.read_instance_decls-loop-decl-init
read_instance_decls-loop-decl-init t c =
    let a = c.args.types.now in
    let ss : List Contents = c.args.components.now.items in
    let ds : Decls = decls_of (map instance_decl_view c.args.decls.items) in
    let items : into_iter_items c.into_iter-decl-iterator.result ≡ c.args.decls.items = c.into_iter-decl-iterator.ensures.into_iter_gives.0 in
    record {
      far = subst (λ (xs : List InstanceTypeDeclaration). SoFar declares_instance a ss ds a ss 0 (decls_of (map instance_decl_view xs))) (sym items) (so_far_start declares_instance a ss ds c.requires.ready);
      declares = c.requires.declares;
      left = c.into_iter-decl-iterator.ensures.into_iter_gives.1 ∙ c.args.decls.ok.0 ∙ sym (ap length items);
      small = subst (λ (xs : List InstanceTypeDeclaration). decls_size (decls_of (map instance_decl_view xs)) ≤ decls_size ds) (sym items) (omega arith);
    }

pub read_instance_decls-read_instance_decl-requires : goal.read_instance_decls-read_instance_decl-requires
read_instance_decls-read_instance_decl-requires t c =
    let a = c.args.types.now in
    let ss : List Contents = c.args.components.now.items in
    let ds : Decls = decls_of (map instance_decl_view c.args.decls.items) in
    let ts : List Contents = c.loop-decl.components.items in
    let n = length c.loop-decl.yielded in
    let d : Decl = instance_decl_view c.in-Some.decl in
    let rest : Decls = decls_of (map instance_decl_view (into_iter_items c.next.new.self)) in
    let left : decls_of (map instance_decl_view (into_iter_items c.loop-decl.decl-iterator)) ≡ declare d rest = ap (λ (xs : List InstanceTypeDeclaration). decls_of (map instance_decl_view xs)) c.in-Some.ensures.steps.0 in
    let far : SoFar declares_instance a ss ds c.loop-decl.types ts n (declare d rest) = subst (λ (z : Decls). SoFar declares_instance a ss ds c.loop-decl.types ts n z) left c.loop-decl.invariant.far in
    let small : decls_size (declare d rest) ≤ decls_size ds = subst (λ (z : Decls). decls_size z ≤ decls_size ds) left c.loop-decl.invariant.small in
    let less = first_smaller d rest ds small in
    (omega (arith, less, c.decreases), (far.ready.ready, c.loop-decl.invariant.declares))

pub read_instance_decls-loop-decl-preserved : goal.read_instance_decls-loop-decl-preserved
read_instance_decls-loop-decl-preserved t c =
    let a = c.args.types.now in
    let ss : List Contents = c.args.components.now.items in
    let ds : Decls = decls_of (map instance_decl_view c.args.decls.items) in
    let ts : List Contents = c.loop-decl.components.items in
    let n = length c.loop-decl.yielded in
    let d : Decl = instance_decl_view c.in-Some.decl in
    let rest : Decls = decls_of (map instance_decl_view (into_iter_items c.next.new.self)) in
    let left : decls_of (map instance_decl_view (into_iter_items c.loop-decl.decl-iterator)) ≡ declare d rest = ap (λ (xs : List InstanceTypeDeclaration). decls_of (map instance_decl_view xs)) c.in-Some.ensures.steps.0 in
    let far : SoFar declares_instance a ss ds c.loop-decl.types ts n (declare d rest) = subst (λ (z : Decls). SoFar declares_instance a ss ds c.loop-decl.types ts n z) left c.loop-decl.invariant.far in
    let small : decls_size (declare d rest) ≤ decls_size ds = subst (λ (z : Decls). decls_size z ≤ decls_size ds) left c.loop-decl.invariant.small in
    let b = c.read_instance_decl.new.types in
    let us : List Contents = c.read_instance_decl.new.components.items in
    let more : suc n ≡ length (c.loop-decl.yielded ++ c.in-Some.decl ∷ []) = omega (arith, length-append c.loop-decl.yielded (c.in-Some.decl ∷ [])) in
    record {
      far = subst (λ (j : ℕ). SoFar declares_instance a ss ds b us j rest) more (so_far_next declares_instance a ss ds c.requires.ready.some c.loop-decl.types ts n d rest b us far c.in-Ok.ensures.ok c.in-Ok.ensures.ready c.read_instance_decl.ensures.keeps);
      declares = c.in-Ok.ensures.declares;
      left = let gone = c.in-Some.ensures.steps.1 in let short = ap length c.in-Some.ensures.steps.0 in let before = c.loop-decl.invariant.left in omega (arith, gone, short, before);
      small = rest_smaller d rest ds small;
    }

pub read_instance_decls-returns-in-Err-clause-err : goal.read_instance_decls-returns-in-Err-clause-err
read_instance_decls-returns-in-Err-clause-err t c =
    let a = c.args.types.now in
    let ss : List Contents = c.args.components.now.items in
    let ds : Decls = decls_of (map instance_decl_view c.args.decls.items) in
    let ts : List Contents = c.loop-decl.components.items in
    let n = length c.loop-decl.yielded in
    let d : Decl = instance_decl_view c.in-Some.decl in
    let rest : Decls = decls_of (map instance_decl_view (into_iter_items c.next.new.self)) in
    let left : decls_of (map instance_decl_view (into_iter_items c.loop-decl.decl-iterator)) ≡ declare d rest = ap (λ (xs : List InstanceTypeDeclaration). decls_of (map instance_decl_view xs)) c.in-Some.ensures.steps.0 in
    let far : SoFar declares_instance a ss ds c.loop-decl.types ts n (declare d rest) = subst (λ (z : Decls). SoFar declares_instance a ss ds c.loop-decl.types ts n z) left c.loop-decl.invariant.far in
    let b = c.read_instance_decl.new.types in
    let us : List Contents = c.read_instance_decl.new.components.items in
    refused_same (RefusesDecls declares_instance a b ss ds) c.args.offset c.in-Err.error c.in_declaration.result c.in_declaration.ensures.kind c.in_declaration.ensures.offset (so_far_refused declares_instance a ss ds c.requires.ready.some c.loop-decl.types ts n d rest b us c.args.offset c.in-Err.error far c.read_instance_decl.ensures.keeps c.in-Err.ensures.err)

pub read_instance_decls-returns-in-Err-clause-around : goal.read_instance_decls-returns-in-Err-clause-around
read_instance_decls-returns-in-Err-clause-around t c =
    c.in-Err.ensures.around ∙ ap all_spent c.loop-decl.invariant.far.ready.around

pub read_instance_decls-returns-in-Err-clause-keeps : goal.read_instance_decls-returns-in-Err-clause-keeps
read_instance_decls-returns-in-Err-clause-keeps t c =
    let a = c.args.types.now in
    let ss : List Contents = c.args.components.now.items in
    let ts : List Contents = c.loop-decl.components.items in
    let b = c.read_instance_decl.new.types in
    let us : List Contents = c.read_instance_decl.new.components.items in
    kept_both a c.loop-decl.types b ss ts us c.loop-decl.invariant.far.kept c.read_instance_decl.ensures.keeps

pub read_instance_decls-returns-clause-ok : goal.read_instance_decls-returns-clause-ok
read_instance_decls-returns-clause-ok t c =
    let a = c.args.types.now in
    let ss : List Contents = c.args.components.now.items in
    let ds : Decls = decls_of (map instance_decl_view c.args.decls.items) in
    let none = c.in-None.ensures.steps in
    let empty : into_iter_items c.loop-decl.decl-iterator ≡ [] = nothing_left _ (sym c.loop-decl.invariant.left ∙ none.0) in
    let z : decls_of (map instance_decl_view (into_iter_items c.loop-decl.decl-iterator)) ≡ no_decls = ap (λ (xs : List InstanceTypeDeclaration). decls_of (map instance_decl_view xs)) empty in
    so_far_all declares_instance a ss ds c.requires.ready.some c.loop-decl.types c.loop-decl.components.items (length c.loop-decl.yielded) _ z c.loop-decl.invariant.far

pub read_instance_decls-returns-clause-ready : goal.read_instance_decls-returns-clause-ready
read_instance_decls-returns-clause-ready t c =
    c.loop-decl.invariant.far.ready

pub read_instance_decls-returns-clause-declares : goal.read_instance_decls-returns-clause-declares
read_instance_decls-returns-clause-declares t c =
    c.loop-decl.invariant.declares

pub read_instance_decls-returns-clause-keeps : goal.read_instance_decls-returns-clause-keeps
read_instance_decls-returns-clause-keeps t c =
    c.loop-decl.invariant.far.kept

-- ## One declaration

pub read_component_decl-declare_type-requires : goal.read_component_decl-declare_type-requires
read_component_decl-declare_type-requires t c =
    let e : component_decl_view c.args.decl ≡ type_decl (type_view c.in-Ty.ty) = ap component_decl_view c.in-Ty.is ∙ component_of_type c.in-Ty.ty in
    let size = ap decl_size e in
    (omega (arith, size, c.decreases), c.requires.ready)

pub read_instance_decl-declare_type-requires : goal.read_instance_decl-declare_type-requires
read_instance_decl-declare_type-requires t c =
    let e : instance_decl_view c.args.decl ≡ type_decl (type_view c.in-Ty.ty) = ap instance_decl_view c.in-Ty.is ∙ instance_of_type c.in-Ty.ty in
    let size = ap decl_size e in
    (omega (arith, size, c.decreases), c.requires.ready)

pub read_component_decl-returns-in-CoreType-clause-ok : goal.read_component_decl-returns-in-CoreType-clause-ok
read_component_decl-returns-in-CoreType-clause-ok t c =
    let e = ap component_decl_view c.in-CoreType.is ∙ component_of_core_type c.in-CoreType.ty in
    subst (λ (d : Decl). OnOk c.declare_core_type.result (ReadsDecl c.args.types.now c.declare_core_type.new.types c.args.components.now.items c.declare_core_type.new.components.items d)) (sym e) c.declare_core_type.ensures.ok

pub read_component_decl-returns-in-Ty-clause-ok : goal.read_component_decl-returns-in-Ty-clause-ok
read_component_decl-returns-in-Ty-clause-ok t c =
    let e = ap component_decl_view c.in-Ty.is ∙ component_of_type c.in-Ty.ty in
    subst (λ (d : Decl). OnOk c.declare_type.result (ReadsDecl c.args.types.now c.declare_type.new.types c.args.components.now.items c.declare_type.new.components.items d)) (sym e) c.declare_type.ensures.ok

pub read_component_decl-returns-in-Ty-clause-err : goal.read_component_decl-returns-in-Ty-clause-err
read_component_decl-returns-in-Ty-clause-err t c =
    let e = ap component_decl_view c.in-Ty.is ∙ component_of_type c.in-Ty.ty in
    subst (λ (d : Decl). IfErr c.declare_type.result (MemoryOr (RefusesDecl c.args.types.now c.declare_type.new.types c.args.components.now.items d) c.args.offset)) (sym e) c.declare_type.ensures.err

pub read_component_decl-returns-in-Export-clause-ok : goal.read_component_decl-returns-in-Export-clause-ok
read_component_decl-returns-in-Export-clause-ok t c =
    let e = ap component_decl_view c.in-Export.is ∙ component_of_export c.in-Export.name c.in-Export.ty in
    subst (λ (d : Decl). OnOk c.declare_export.result (ReadsDecl c.args.types.now c.declare_export.new.types c.args.components.now.items c.declare_export.new.components.items d)) (sym e) c.declare_export.ensures.ok

pub read_component_decl-returns-in-Import-clause-ok : goal.read_component_decl-returns-in-Import-clause-ok
read_component_decl-returns-in-Import-clause-ok t c =
    let e = ap component_decl_view c.in-Import.is ∙ component_of_import c.in-Import.import in
    subst (λ (d : Decl). OnOk c.declare_import.result (ReadsDecl c.args.types.now c.declare_import.new.types c.args.components.now.items c.declare_import.new.components.items d)) (sym e) c.declare_import.ensures.ok

pub read_instance_decl-returns-in-CoreType-clause-ok : goal.read_instance_decl-returns-in-CoreType-clause-ok
read_instance_decl-returns-in-CoreType-clause-ok t c =
    let e = ap instance_decl_view c.in-CoreType.is ∙ instance_of_core_type c.in-CoreType.ty in
    subst (λ (d : Decl). OnOk c.declare_core_type.result (ReadsDecl c.args.types.now c.declare_core_type.new.types c.args.components.now.items c.declare_core_type.new.components.items d)) (sym e) c.declare_core_type.ensures.ok

pub read_instance_decl-returns-in-Ty-clause-ok : goal.read_instance_decl-returns-in-Ty-clause-ok
read_instance_decl-returns-in-Ty-clause-ok t c =
    let e = ap instance_decl_view c.in-Ty.is ∙ instance_of_type c.in-Ty.ty in
    subst (λ (d : Decl). OnOk c.declare_type.result (ReadsDecl c.args.types.now c.declare_type.new.types c.args.components.now.items c.declare_type.new.components.items d)) (sym e) c.declare_type.ensures.ok

pub read_instance_decl-returns-in-Ty-clause-err : goal.read_instance_decl-returns-in-Ty-clause-err
read_instance_decl-returns-in-Ty-clause-err t c =
    let e = ap instance_decl_view c.in-Ty.is ∙ instance_of_type c.in-Ty.ty in
    subst (λ (d : Decl). IfErr c.declare_type.result (MemoryOr (RefusesDecl c.args.types.now c.declare_type.new.types c.args.components.now.items d) c.args.offset)) (sym e) c.declare_type.ensures.err

pub read_instance_decl-returns-in-Export-clause-ok : goal.read_instance_decl-returns-in-Export-clause-ok
read_instance_decl-returns-in-Export-clause-ok t c =
    let e = ap instance_decl_view c.in-Export.is ∙ instance_of_export c.in-Export.name c.in-Export.ty in
    subst (λ (d : Decl). OnOk c.declare_export.result (ReadsDecl c.args.types.now c.declare_export.new.types c.args.components.now.items c.declare_export.new.components.items d)) (sym e) c.declare_export.ensures.ok

pub read_component_decl-returns-in-Alias-clause-ok : goal.read_component_decl-returns-in-Alias-clause-ok
read_component_decl-returns-in-Alias-clause-ok t c =
    let e = ap component_decl_view c.in-Alias.is ∙ component_of_alias c.in-Alias.alias in
    subst (λ (d : Decl). OnOk c.declare_alias.result (ReadsDecl c.args.types.now c.declare_alias.new.types c.args.components.now.items c.declare_alias.new.components.items d)) (sym e) c.declare_alias.ensures.ok

pub read_component_decl-returns-in-Alias-clause-err : goal.read_component_decl-returns-in-Alias-clause-err
read_component_decl-returns-in-Alias-clause-err t c =
    let e = ap component_decl_view c.in-Alias.is ∙ component_of_alias c.in-Alias.alias in
    subst (λ (d : Decl). IfErr c.declare_alias.result (MemoryOr (RefusesDecl c.args.types.now c.declare_alias.new.types c.args.components.now.items d) c.args.offset)) (sym e) c.declare_alias.ensures.err

pub read_instance_decl-returns-in-Alias-clause-ok : goal.read_instance_decl-returns-in-Alias-clause-ok
read_instance_decl-returns-in-Alias-clause-ok t c =
    let e = ap instance_decl_view c.in-Alias.is ∙ instance_of_alias c.in-Alias.alias in
    subst (λ (d : Decl). OnOk c.declare_alias.result (ReadsDecl c.args.types.now c.declare_alias.new.types c.args.components.now.items c.declare_alias.new.components.items d)) (sym e) c.declare_alias.ensures.ok

pub read_instance_decl-returns-in-Alias-clause-err : goal.read_instance_decl-returns-in-Alias-clause-err
read_instance_decl-returns-in-Alias-clause-err t c =
    let e = ap instance_decl_view c.in-Alias.is ∙ instance_of_alias c.in-Alias.alias in
    subst (λ (d : Decl). IfErr c.declare_alias.result (MemoryOr (RefusesDecl c.args.types.now c.declare_alias.new.types c.args.components.now.items d) c.args.offset)) (sym e) c.declare_alias.ensures.err
