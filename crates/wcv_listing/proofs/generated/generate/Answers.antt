use Rattle.std.proofs.Common.{[], ◌∷◌, subst}
use Rattle.wcv_syntax.specs.Model.{Form}
use Rattle.wcv_syntax.specs.View.{entries}
use Rattle.wcv_listing.specs.Generated.{Joins}
use Rattle.wcv_listing.proofs.Joins.{all_joined}
use Rattle.wcv_listing.proofs.generated.generate.Goals as goal

pub returns-clause-items : goal.returns-clause-items
returns-clause-items c =
    all_joined c.args.n (entries c.in_ok-items.items.items) (entries c.push.new.items.items) (entries c.push_instances.new.items.items)
    (entries c.push_aliases.new.items.items) (entries c.push_exports.new.items.items) c.in_ok-items.ensures
    (subst (λ (f : Form). Joins (entries c.in_ok-items.items.items) (f ∷ []) (entries c.push.new.items.items)) c.in_ok-component.ensures c.in_ok-push.ensures)
    c.in_ok-push_instances.ensures c.in_ok-push_aliases.ensures c.in_ok-push_exports.ensures
