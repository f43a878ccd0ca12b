use Rattle.std.proofs.Common.{◌++◌, ◌∙◌, ap}
use Rattle.json.specs.Print.{print}
use Rattle.serde_json.proofs.Texts.{print-outline}
use Rattle.wcv_syntax.specs.View.{entries}
use Rattle.wcv_write.specs.Indices.{numbers}
use Rattle.wcv_write.specs.Json.{tokens_of}
use Rattle.wcv_write.specs.Listing.{listing_data}
use Rattle.wcv_write.proofs.listing.write_listing.Goals as goal

pub returns-clause-text : goal.returns-clause-text
returns-clause-text c =
    let d = listing_data numbers c.args.features (entries c.args.items.now) c.args.end in
    c.into_text.ensures.text ∙ ap print (c.in_ok-write_root.ensures ∙ ap (λ ts. ts ++ tokens_of d) c.new-out.ensures) ∙ print-outline d
