use Rattle.std.proofs.Common.{◌≡◌, drop, Option, Some, None, option_map, sym, ap, ◌∙◌}
use Rattle.std.specs.Prelude.{MatchOption}
use Rattle.json.specs.Json.{Json, array}
use Rattle.json.specs.Find.{as_array}
use Rattle.serde_json.specs.Find as serde
use Rattle.wcv_listing.specs.Parsed.{data_of, items}
use Rattle.wcv_listing.proofs.Seen.{as_array_data}
use Rattle.wcv_listing.specs.Tape.{items_of}
use Rattle.wcv_listing.specs.Seen.{json_view, list_view}
use Rattle.wcv_listing.specs.declared.node.List.{List}
use Rattle.wcv_listing.proofs.value.list_of.Goals as goal

list_found : (r : Option List) (j : Json) → MatchOption r (as_array j ≡ None) (λ l. j ≡ array (items_of (drop l.at l.tape.now))) → option_map list_view r ≡ serde.as_array (data_of j)
list_found None j h = sym (as_array_data j ∙ ap (option_map items) h)
list_found (Some l) j h = sym (as_array_data j ∙ ap (λ x. option_map items (as_array x)) h)

pub returns : goal.returns
returns c = list_found c.items.result (json_view c.args.value) c.items.ensures
