use Rattle.std.proofs.Common.{ap, sym, ◌∙◌, map, false}
use Rattle.std.proofs.Math.Bool.{or-false}
use Rattle.wcv_types.specs.contracts.ids.ComponentAnyTypeIdPartialEq.TheImpl.{eq-value}
use Rattle.wcv_remap.specs.Map.{Map, entry, gives_types, sent}
use Rattle.wcv_remap.proofs.Sending.{Keyed, as_parts, lookup_absent, gives_push}
use Rattle.wcv_remap.proofs.map.Remapping.keep.Goals as goal

pub insert-requires : goal.insert-requires
insert-requires c = lookup_absent eq-value.it as_parts c.id_of-2.result c.args.part c.self.inside.types c.id_of-2.ensures (ap (λ (m : Map). entry m c.args.part) c.self.view_is ∙ c.requires.new)

pub invariant_of-self : goal.invariant_of-self
invariant_of-self c = c.self.invariant ∙ ap (λ (es : Keyed). gives_types (record { resources = c.self.inside.resources; types = map sent es })) (sym c.in_err-insert.ensures.err)

pub invariant_of-self-2 : goal.invariant_of-self-2
invariant_of-self-2 c =
    c.self.invariant ∙ sym (ap (λ (es : Keyed). gives_types (record { resources = c.self.inside.resources; types = map sent es })) c.in_ok-insert.ensures.ok ∙
    gives_push c.self.inside.resources c.self.inside.types (c.id_of-2.result, record { to = c.id_of.result; given = false }) ∙ or-false (gives_types (record { resources = c.self.inside.resources; types = map sent c.self.inside.types })))
