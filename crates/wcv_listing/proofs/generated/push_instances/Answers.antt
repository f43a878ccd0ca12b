use Rattle.std.proofs.Common.{[], ◌∷◌, subst}
use Rattle.wcv_syntax.specs.Model.{Form}
use Rattle.wcv_syntax.specs.View.{entries}
use Rattle.wcv_listing.specs.Generated.{passing_instance, Joins}
use Rattle.wcv_listing.proofs.Joins.{joins_nothing, joins_next}
use Rattle.wcv_listing.proofs.generated.push_instances.Goals as goal

pub loop-i-init : goal.loop-i-init
loop-i-init c = joins_nothing (entries c.args.items.now.items)

pub loop-i-preserved : goal.loop-i-preserved
loop-i-preserved c =
    joins_next (entries c.args.items.now.items) (entries c.loop-i.items.items) (entries c.push.new.items.items) (λ i. passing_instance) c.loop-i._i c.loop-i.invariant
    (subst (λ (f : Form). Joins (entries c.loop-i.items.items) (f ∷ []) (entries c.push.new.items.items)) c.in_ok-instance.ensures c.in_ok-push.ensures)
