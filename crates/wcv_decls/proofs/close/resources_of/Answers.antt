use Rattle.std.proofs.Common.{◌∙◌, ◌<◌, subst, sym, arith}
use Rattle.wcv_types.proofs.Copying.{none_past}
use Rattle.wcv_decls.proofs.PathKeys.{first_next, first_all}
use Rattle.wcv_decls.proofs.close.resources_of.Goals as goal

pub unreachable-requires : goal.unreachable-requires
unreachable-requires c = none_past c.args.paths.now c.loop-k.k c.in-None.ensures (subst (λ n. c.loop-k.k < n) c.len-k-end.ensures.value c.loop-k-test.true)

pub loop-k-preserved : goal.loop-k-preserved
loop-k-preserved c = first_next c.args.paths.now c.loop-k.k c.in-Some.resource.now _ c.loop-k.resources c.push.new.self c.len-k-end.ensures.unique (sym c.in-Some.ensures) c.loop-k.invariant c.in_ok-push-in-Some.ensures.ok

pub returns : goal.returns
returns c =
    let long = c.len-k-end.ensures.value in
    let past = c.loop-k-test.false in
    c.loop-k.invariant ∙ first_all c.args.paths.now c.loop-k.k (omega (arith, long, past))
