use Rattle.std.proofs.Common.{sym, subst, true, List}
use Rattle.std.specs.Prelude.{All}
use Rattle.std.proofs.lemmas.Result.{err_from_is_err_and, IfErr-weaker}
use Rattle.wcv_core.proofs.Closing.{caused_same}
use Rattle.wcv_syntax.specs.Model.{Type_form}
use Rattle.wcv_syntax.specs.View.{type_view}
use Rattle.wcv_types.proofs.Lists.{map-id}
use Rattle.wcv_lower.specs.Declared.{declared_left}
use Rattle.wcv_spaces.specs.Contents.{Contents}
use Rattle.wcv_decls.specs.Stack.{IsOpen, AreCalm, DeclaresOn, RefusesOn, KeepsOn}
use Rattle.wcv_decls.proofs.Outcomes.{both_ok}
use Rattle.wcv_decls.proofs.Stacks.{unmapped}
use Rattle.wcv_link.proofs.Open.{accepts_type, refuses_type, refuses_type_left}
use Rattle.wcv_link.proofs.reading.read_type.Goals as goal

pub returns-in_err-check_declared_limits-clause-err : goal.returns-in_err-check_declared_limits-clause-err
returns-in_err-check_declared_limits-clause-err c =
    let p = err_from_is_err_and c.from_residual.result c.from_residual.ensures.1 in
    let t : Type_form = type_view c.args.ty in
    rw p.1
    (refuses_type_left c.args.types.now c.args.components.now.items c.args.offset p.0 t
    (caused_same (declared_left t) c.args.offset c.in_err-check_declared_limits.field-0.0 p.0 p.2.0 p.2.1 c.in_err-check_declared_limits.ensures.err))

pub add_type-requires-clause-open : goal.add_type-requires-clause-open
add_type-requires-clause-open c = subst (All (IsOpen c.args.types.now)) (sym (map-id c.args.components.now.items)) c.requires.usable

pub add_type-requires-clause-calm : goal.add_type-requires-clause-calm
add_type-requires-clause-calm c = subst (AreCalm c.args.types.now) (sym (map-id c.args.components.now.items)) c.requires.calm

pub returns-clause-ok : goal.returns-clause-ok
returns-clause-ok c =
    let a = c.args.types.now in
    let b = c.add_type.new.types in
    let ss : List Contents = c.args.components.now.items in
    let ss' : List Contents = c.add_type.new.components.items in
    let t : Type_form = type_view c.args.ty in
    both_ok c.add_type.result _ _ _
    (λ d calm. accepts_type a b ss ss' c.requires (unmapped (KeepsOn a b) ss ss' c.add_type.ensures.keeps) t c.in_ok-check_declared_limits.ensures.ok
    (λ p. unmapped (λ xs ys. DeclaresOn true a b p xs ys t) ss ss' (d p)) (subst (AreCalm b) (map-id ss') calm))
    c.add_type.ensures.ok c.add_type.ensures.calm

pub returns-clause-err : goal.returns-clause-err
returns-clause-err c =
    let a = c.args.types.now in
    let b = c.add_type.new.types in
    let ss : List Contents = c.args.components.now.items in
    let ss' : List Contents = c.add_type.new.components.items in
    let t : Type_form = type_view c.args.ty in
    IfErr-weaker c.add_type.result _ _
    (λ e g. refuses_type a b ss ss' c.requires.some (unmapped (KeepsOn a b) ss ss' c.add_type.ensures.keeps) c.args.offset e t
    (λ p. unmapped (λ xs ys. RefusesOn true a b p xs ys t c.args.offset e) ss ss' (g p)))
    c.add_type.ensures.err
