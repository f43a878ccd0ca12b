use Rattle.std.proofs.Common.{sym, ap, ◌∙◌}
use Rattle.std.specs.Prelude.{option_copied}
use Rattle.wcv_types.proofs.Gaining.{joined_next}
use Rattle.wcv_walks.proofs.unowned.join.Goals as goal

pub loop-k-preserved : goal.loop-k-preserved
loop-k-preserved c =
    joined_next c.args.set.now c.loop-k.k c.in-Some.id.now c.args.free.now c.loop-k.free c.push.new.self (sym c.get_index.ensures ∙ ap option_copied c.in-Some.is) c.loop-k.invariant c.in_ok-push-in-Some.ensures.ok
