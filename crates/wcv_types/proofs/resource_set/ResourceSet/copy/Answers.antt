use Rattle.std.proofs.Common.{◌∙◌, ap, option_copied, sym}
use Rattle.wcv_types.proofs.Copying.{set_next}
use Rattle.wcv_types.proofs.resource_set.ResourceSet.copy.Goals as goal

pub loop-k-preserved : goal.loop-k-preserved
loop-k-preserved c =
    set_next c.args.self.now c.loop-k.k c.in-Some.id.now c.loop-k.copied c.push.new.self c.len-k-end.ensures.unique (sym c.get_index.ensures ∙ ap option_copied c.in-Some.is) c.loop-k.invariant c.in_ok-push-in-Some.ensures.ok
