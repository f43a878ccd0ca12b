use Rattle.std.proofs.Common.{ap, sym, ◌∙◌, refl, map, true}
use Rattle.std.proofs.Math.Bool.{or-true}
use Rattle.wcv_types.specs.contracts.ids.ComponentAnyTypeIdPartialEq.TheImpl.{eq-value}
use Rattle.wcv_types.specs.Unfold.{any_part}
use Rattle.wcv_remap.specs.Map.{Map, entry, gives_types, sent}
use Rattle.wcv_remap.proofs.Sending.{Keyed, as_parts, lookup_absent, gives_push}
use Rattle.wcv_remap.proofs.map.Remapping.push_type.Goals as goal

pub insert-requires : goal.insert-requires
insert-requires c = lookup_absent eq-value.it as_parts c.args.old (any_part c.args.old) c.self.inside.types refl (ap (λ (m : Map). entry m (any_part c.args.old)) c.self.view_is ∙ c.requires)

pub invariant_of-self : goal.invariant_of-self
invariant_of-self c = c.self.invariant ∙ ap (λ (es : Keyed). gives_types (record { resources = c.self.inside.resources; types = map sent es })) (sym c.in_err-insert.ensures.err)

pub invariant_of-self-2 : goal.invariant_of-self-2
invariant_of-self-2 c =
    sym (ap (λ (es : Keyed). gives_types (record { resources = c.self.inside.resources; types = map sent es })) c.in_ok-insert.ensures.ok ∙
    gives_push c.self.inside.resources c.self.inside.types (c.args.old, record { to = c.args.new; given = true }) ∙ or-true (gives_types (record { resources = c.self.inside.resources; types = map sent c.self.inside.types })))
