use Rattle.std.proofs.Common.{◌≡◌, List, refl, sym, subst}
use Rattle.std.specs.Prelude.{All, OnOk}
use Rattle.std.proofs.lemmas.Result.{err_from_is_err_and, on_ok_weaker, IfErr-weaker}
use Rattle.wcv_core.proofs.Closing.{caused_same}
use Rattle.wcv_syntax.specs.Model.{Core_type_form, Form, core_type_item}
use Rattle.wcv_syntax.specs.View.{core_type_view}
use Rattle.wcv_types.proofs.Lists.{map-id}
use Rattle.wcv_lower.specs.CoreItems.{core_type_left}
use Rattle.wcv_spaces.specs.Contents.{Contents}
use Rattle.wcv_decls.specs.Stack.{IsOpen, GrewOn, RefusedOn, KeepsOn}
use Rattle.wcv_decls.proofs.Stacks.{unmapped, kept_back}
use Rattle.wcv_link.specs.Progress.{AcceptsItem}
use Rattle.wcv_link.proofs.Open.{accepts_one, refuses_one, refuses_left}
use Rattle.wcv_link.proofs.Steps.{one_step, bare_refused}
use Rattle.wcv_link.proofs.core_items.read_core_type.Goals as goal

pub returns-in_err-check_core_limits-clause-err : goal.returns-in_err-check_core_limits-clause-err
returns-in_err-check_core_limits-clause-err c =
    let p = err_from_is_err_and c.from_residual.result c.from_residual.ensures.1 in
    let f : Form = core_type_item (core_type_view c.args.ty) in
    rw p.1
    (refuses_left c.args.types.now c.args.components.now.items c.args.offset p.0 f
    (λ s. bare_refused c.args.types.now s f c.args.offset p.0 (one_step f refl)
    (caused_same (core_type_left (core_type_view c.args.ty)) c.args.offset c.in_err-check_core_limits.field-0.0 p.0 p.2.0 p.2.1 c.in_err-check_core_limits.ensures.err)))

pub add_core_type-requires-clause-open : goal.add_core_type-requires-clause-open
add_core_type-requires-clause-open c =
    subst (All (IsOpen c.args.types.now)) (sym (map-id c.as_mut_slice.result.now)) (subst (All (IsOpen c.args.types.now)) (sym c.as_mut_slice.ensures.value) c.requires.usable)

pub returns-clause-ok : goal.returns-clause-ok
returns-clause-ok c =
    let a = c.args.types.now in
    let b = c.add_core_type.new.types in
    let ss : List Contents = c.args.components.now.items in
    let ws : List Contents = c.as_mut_slice.result.now in
    let ys : List Contents = c.add_core_type.new.components in
    let same : ws ≡ ss = c.as_mut_slice.ensures.value in
    let t : Core_type_form = core_type_view c.args.ty in
    let keeps : KeepsOn a b ss ys = subst (λ (xs : List Contents). KeepsOn a b xs ys) same (unmapped (KeepsOn a b) ws ys c.add_core_type.ensures.keeps) in
    let back = kept_back a b ss ys _ c.args.components.now.len c.args.components.now.ok.0 keeps in
    subst (λ (xs : List Contents). OnOk c.add_core_type.result (AcceptsItem a b ss xs (core_type_item t))) (sym back)
    (on_ok_weaker c.add_core_type.result
    (λ g. accepts_one a b ss ys c.requires keeps (core_type_item t) (one_step (core_type_item t) refl) (λ s. tt) (λ s. c.in_ok-check_core_limits.ensures.ok)
    (λ p. subst (λ (xs : List Contents). GrewOn a b p xs ys (core_type_item t)) same (unmapped (λ xs zs. GrewOn a b p xs zs (core_type_item t)) ws ys (g p))))
    c.add_core_type.ensures.ok)

pub returns-clause-err : goal.returns-clause-err
returns-clause-err c =
    let a = c.args.types.now in
    let b = c.add_core_type.new.types in
    let ss : List Contents = c.args.components.now.items in
    let ws : List Contents = c.as_mut_slice.result.now in
    let ys : List Contents = c.add_core_type.new.components in
    let same : ws ≡ ss = c.as_mut_slice.ensures.value in
    let t : Core_type_form = core_type_view c.args.ty in
    let keeps : KeepsOn a b ss ys = subst (λ (xs : List Contents). KeepsOn a b xs ys) same (unmapped (KeepsOn a b) ws ys c.add_core_type.ensures.keeps) in
    IfErr-weaker c.add_core_type.result _ _
    (λ e g. refuses_one a b ss ys c.requires.some keeps c.args.offset e (core_type_item t) (one_step (core_type_item t) refl)
    (λ p. subst (λ (xs : List Contents). RefusedOn a b p xs ys (core_type_item t) c.args.offset e) same (unmapped (λ xs zs. RefusedOn a b p xs zs (core_type_item t) c.args.offset e) ws ys (g p))))
    c.add_core_type.ensures.err
