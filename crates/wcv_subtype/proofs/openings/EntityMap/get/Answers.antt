use Rattle.std.proofs.Common.{sym, ◌∙◌, ap}
use Rattle.std.specs.Prelude.{bytes_eq, option_copied, option_map}
use Rattle.std.specs.Map.{lookup}
use Rattle.std.proofs.lemmas.Map.Made.{lookup-map_values}
use Rattle.wcv_types.specs.declared.item_map.ComponentItem.{ComponentItem}
use Rattle.wcv_subtype.proofs.openings.EntityMap.get.Goals as goal

pub returns-in-Some : goal.returns-in-Some
returns-in-Some c =
    sym (ap (lookup (bytes_eq c.args.name.now)) (sym c.self.view_is) ∙ lookup-map_values (λ (i : ComponentItem). i.ty) (bytes_eq c.args.name.now) c.self.inside.items ∙
    ap (option_map (λ (i : ComponentItem). i.ty)) (sym c.get.ensures ∙ ap option_copied c.in-Some.is))

pub returns-in-None : goal.returns-in-None
returns-in-None c =
    sym (ap (lookup (bytes_eq c.args.name.now)) (sym c.self.view_is) ∙ lookup-map_values (λ (i : ComponentItem). i.ty) (bytes_eq c.args.name.now) c.self.inside.items ∙
    ap (option_map (λ (i : ComponentItem). i.ty)) (sym c.get.ensures ∙ ap option_copied c.in-None.is))
