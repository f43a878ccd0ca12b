use Rattle.std.proofs.Common.{◌≡◌, List, refl, sym, subst}
use Rattle.std.specs.Prelude.{All, OnOk}
use Rattle.std.proofs.lemmas.Result.{err_from_is_err_and, on_ok_weaker, IfErr-weaker}
use Rattle.wcv_core.proofs.Closing.{caused_same}
use Rattle.wcv_syntax.specs.Model.{Form, alias_item}
use Rattle.wcv_lower.specs.Aliases.{alias_left}
use Rattle.wcv_state.specs.Aliasing.{AliasedOn}
use Rattle.wcv_spaces.specs.Contents.{Contents}
use Rattle.wcv_state.specs.Stack.{IsOpen, RefusedOn, KeepsOn}
use Rattle.wcv_decls.proofs.Stacks.{kept_back}
use Rattle.wcv_link.specs.Progress.{AcceptsItem}
use Rattle.wcv_link.proofs.Open.{accepts_alias, refuses_one, refuses_left}
use Rattle.wcv_link.proofs.Steps.{one_step, bare_refused}
use Rattle.wcv_link.proofs.core_items.read_alias.Goals as goal

pub returns-in_err-check_alias_limits-clause-err : goal.returns-in_err-check_alias_limits-clause-err
returns-in_err-check_alias_limits-clause-err c =
    let p = err_from_is_err_and c.from_residual.result c.from_residual.ensures.1 in
    let f : Form = alias_item c.args.alias in
    rw p.1
    (refuses_left c.args.types.now c.args.components.now.items c.args.offset p.0 f
    (λ s. bare_refused c.args.types.now s f c.args.offset p.0 (one_step f refl)
    (caused_same (alias_left c.args.alias) c.args.offset c.in_err-check_alias_limits.field-0.0 p.0 p.2.0 p.2.1 c.in_err-check_alias_limits.ensures.err)))

pub add_alias-requires-clause-open : goal.add_alias-requires-clause-open
add_alias-requires-clause-open c =
    subst (All (IsOpen c.args.types.now)) (sym c.as_mut_slice.ensures.value) c.requires.usable

pub returns-clause-ok : goal.returns-clause-ok
returns-clause-ok c =
    let a = c.args.types.now in
    let b = c.add_alias.new.types in
    let ss : List Contents = c.args.components.now.items in
    let ws : List Contents = c.as_mut_slice.result.now in
    let ys : List Contents = c.add_alias.new.components in
    let same : ws ≡ ss = c.as_mut_slice.ensures.value in
    let f : Form = alias_item c.args.alias in
    let keeps : KeepsOn a b ss ys = subst (λ (xs : List Contents). KeepsOn a b xs ys) same c.add_alias.ensures.keeps in
    let back = kept_back a b ss ys _ c.args.components.now.len c.args.components.now.ok.0 keeps in
    subst (λ (xs : List Contents). OnOk c.add_alias.result (AcceptsItem a b ss xs f)) (sym back)
    (on_ok_weaker c.add_alias.result
    (λ g. accepts_alias a b ss ys c.requires keeps c.args.alias c.in_ok-check_alias_limits.ensures.ok (subst (λ (xs : List Contents). AliasedOn a b xs ys c.args.alias) same g))
    c.add_alias.ensures.ok)

pub returns-clause-err : goal.returns-clause-err
returns-clause-err c =
    let a = c.args.types.now in
    let b = c.add_alias.new.types in
    let ss : List Contents = c.args.components.now.items in
    let ws : List Contents = c.as_mut_slice.result.now in
    let ys : List Contents = c.add_alias.new.components in
    let same : ws ≡ ss = c.as_mut_slice.ensures.value in
    let f : Form = alias_item c.args.alias in
    let keeps : KeepsOn a b ss ys = subst (λ (xs : List Contents). KeepsOn a b xs ys) same c.add_alias.ensures.keeps in
    IfErr-weaker c.add_alias.result _ _
    (λ e g. refuses_one a b ss ys c.requires.some keeps c.args.offset e f (one_step f refl)
    (λ p. subst (λ (xs : List Contents). RefusedOn a b p xs ys f c.args.offset e) same (g p)))
    c.add_alias.ensures.err
