use Rattle.std.proofs.Common.{sym, ◌∙◌, subst}
use Rattle.wcv_types.proofs.Grown.{extends_refl}
use Rattle.wcv_types.specs.declared.shapes.ComponentEntityType.{ComponentEntityType}
use Rattle.wcv_remap.specs.Entities.{EntityRemapped}
use Rattle.wcv_remap.proofs.Whole.{one_ready, one_remapped, second_ready, two_remapped}
use Rattle.wcv_remap.proofs.entity.remapped.Goals as goal

pub remap_part-requires-clause-stands : goal.remap_part-requires-clause-stands
remap_part-requires-clause-stands g c = (one_ready _ c.args.map.now c.args.ty c.in-One.part (sym c.parts_held.ensures ∙ c.in-One.is) c.requires.stands c.requires.hygienic).stands

pub remap_part-requires-in-Two-2-clause-stands : goal.remap_part-requires-in-Two-2-clause-stands
remap_part-requires-in-Two-2-clause-stands g c =
    (second_ready _ _ c.args.map.now _ _ _ c.args.ty c.in-Two.created c.in-Two.referenced c.in_ok-created-in-Two.created (sym c.parts_held.ensures ∙ c.in-Two.is) c.requires.stands c.requires.hygienic c.requires.sound c.in_ok-created-in-Two.ensures.done).stands

pub remap_part-requires-in-Two-2-clause-hygienic : goal.remap_part-requires-in-Two-2-clause-hygienic
remap_part-requires-in-Two-2-clause-hygienic g c =
    (second_ready _ _ c.args.map.now _ _ _ c.args.ty c.in-Two.created c.in-Two.referenced c.in_ok-created-in-Two.created (sym c.parts_held.ensures ∙ c.in-Two.is) c.requires.stands c.requires.hygienic c.requires.sound c.in_ok-created-in-Two.ensures.done).hygienic

pub returns-in-Nothing-clause-grown : goal.returns-in-Nothing-clause-grown
returns-in-Nothing-clause-grown g c = extends_refl _

pub returns-in_ok-made-in-One-clause-done : goal.returns-in_ok-made-in-One-clause-done
returns-in_ok-made-in-One-clause-done g c =
    subst (λ (y : ComponentEntityType). EntityRemapped (g.N.NodeStore.arena c.args.types.now) (g.N.NodeStore.arena c.remap_part.new.types) c.args.map.now c.remap_part.new.map c.args.steps.now c.remap_part.new.steps c.args.ty y) (sym c.entity_of.ensures)
    (one_remapped _ _ c.args.map.now c.remap_part.new.map _ _ c.args.ty c.in-One.part c.in_ok-made-in-One.made (sym c.parts_held.ensures ∙ c.in-One.is) c.requires.stands c.in_ok-made-in-One.ensures.done)

pub returns-in_ok-referenced-in-Two-clause-done : goal.returns-in_ok-referenced-in-Two-clause-done
returns-in_ok-referenced-in-Two-clause-done g c =
    two_remapped _ (g.N.NodeStore.arena c.remap_part-in-Two.new.types) _ c.args.map.now c.remap_part-in-Two.new.map c.remap_part-in-Two-2.new.map _ c.remap_part-in-Two.new.steps _ c.args.ty c.in-Two.created c.in-Two.referenced c.in_ok-created-in-Two.created
    c.in_ok-referenced-in-Two.referenced c.id_of.result c.id_of-in-Two.result (sym c.parts_held.ensures ∙ c.in-Two.is) c.requires.stands c.in_ok-created-in-Two.ensures.done c.in_ok-referenced-in-Two.ensures.done c.id_of.ensures c.id_of-in-Two.ensures
