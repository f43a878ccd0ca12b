use Rattle.std.proofs.Common.{List, ap, ◌∙◌, bytes_eq, is_some}
use Rattle.std.specs.List.{list_all}
use Rattle.std.specs.Map.{lookup}
use Rattle.wcv_types.specs.Tree.{Text}
use Rattle.wcv_types.specs.declared.item_map.ComponentItem.{ComponentItem}
use Rattle.wcv_values.proofs.names.names_among.Goals as goal

pub returns : goal.returns
returns c = c.all_named-among.ensures ∙ ap (λ (es : List (Text × ComponentItem)). list_all (λ (e : Text × ComponentItem). is_some (lookup (bytes_eq e.0) es)) c.args.a.now) c.in_ok-by_name.ensures
