use Rattle.std.proofs.Common.{[], ◌∷◌, ◌++◌, ap, ◌∙◌}
use Rattle.std.proofs.lemmas.List.{map_push}
use Rattle.wcv_syntax.specs.Model.{Entry}
use Rattle.wcv_syntax.specs.View.{entries, item_view}
use Rattle.wcv_listing.proofs.Made.{item_made}
use Rattle.wcv_listing.proofs.generated.push_at.Goals as goal

pub returns : goal.returns
returns c =
    ap entries c.in_ok-push.ensures.items ∙ map_push item_view c.args.items.now.items _ ∙ ap (λ (e : Entry). entries c.args.items.now.items ++ e ∷ []) (item_made c.args.offset c.args.section)
