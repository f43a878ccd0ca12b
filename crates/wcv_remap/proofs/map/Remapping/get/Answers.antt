use Rattle.std.proofs.Common.{sym, ◌∙◌, ap, Some}
use Rattle.std.specs.Prelude.{option_copied, option_map}
use Rattle.wcv_types.specs.Unfold.{any_part}
use Rattle.wcv_types.specs.contracts.ids.ComponentAnyTypeIdPartialEq.TheImpl.{eq-value}
use Rattle.wcv_remap.specs.declared.map.Kept.{Kept}
use Rattle.wcv_remap.proofs.Sending.{as_parts, sent_view}
use Rattle.wcv_remap.proofs.map.Remapping.get.Goals as goal

pub returns-in-Some : goal.returns-in-Some
returns-in-Some c =
    ap Some c.part_of.ensures ∙
    sym (sent_view eq-value.it as_parts c.args.id c.self.inside.resources c.self.inside.types c.args.self.now c.self.view_is ∙ ap (option_map (λ (k : Kept). any_part k.to)) (sym c.get.ensures ∙ ap option_copied c.in-Some.is))

pub returns-in-None : goal.returns-in-None
returns-in-None c =
    sym (sent_view eq-value.it as_parts c.args.id c.self.inside.resources c.self.inside.types c.args.self.now c.self.view_is ∙ ap (option_map (λ (k : Kept). any_part k.to)) (sym c.get.ensures ∙ ap option_copied c.in-None.is))
