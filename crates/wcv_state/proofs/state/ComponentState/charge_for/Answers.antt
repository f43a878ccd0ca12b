use Rattle.std.proofs.Common.{◌≡◌, ◌&&◌, ◌∙◌, true, ap, sym, subst}
use Rattle.std.proofs.lemmas.Result.{on_ok_weaker}
use Rattle.wcv_lower.specs.Aliases.{is_charged}
use Rattle.wcv_lower.specs.Checks.{IsFree}
use Rattle.wcv_lower.specs.Context.{is_concrete}
use Rattle.wcv_state.specs.Aliasing.{aliased_tree, crossing_checks}
use Rattle.wcv_spaces.specs.Contents.{Contents, kind_of}
use Rattle.wcv_state.specs.declared.outer_aliases.Aliased.{Aliased}
use Rattle.wcv_state.proofs.OuterAliases.{crosses}
use Rattle.wcv_state.proofs.state.ComponentState.charge_for.Goals as goal

pub returns-clause-free : goal.returns-clause-free
returns-clause-free c =
    let a = c.args.types.now in
    let s = c.args.self.now in
    let w = c.args.kind in
    let e : (is_charged w && is_concrete (kind_of s.kind)) ≡ true = ap (λ (z : Contents). is_charged w && is_concrete (kind_of z.kind)) (sym c.self.view_is) ∙ sym c.crosses.ensures ∙ c.if-not-crosses.false in
    let same = (crosses w s (aliased_tree a c.args.item.now) e).1 ∙ ap (λ (x : Aliased). crossing_checks s (aliased_tree a x)) c.in-Entity.is in
    on_ok_weaker c.crossing_size.result (λ f. subst IsFree (sym same) f) c.crossing_size.ensures.free
