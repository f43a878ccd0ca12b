use Rattle.std.proofs.Common.{◌∙◌, ap, List, []}
use Rattle.std.specs.Prelude.{slice_get}
use Rattle.wcv_types.specs.Unfold.{parts_in, field_slots}
use Rattle.wcv_types.proofs.Slots.{Field, part_of_params, part_of_result, no_part_left}
use Rattle.wcv_types.proofs.func_sort.ComponentFuncTypeIdNodeSort.part_at.Goals as goal

pub unreachable-requires : goal.unreachable-requires
unreachable-requires c =
    no_part_left c.args.types.now c.args.self c.node-shape.result.now c.args.k c.node-shape.ensures.found
    (c.in-None.ensures ∙ ap (λ (fs : List Field). slice_get (parts_in (field_slots fs [])) c.args.k) c.deref.ensures.value)
    c.in-None-option_part.ensures c.requires.below

pub returns-in-Some : goal.returns-in-Some
returns-in-Some c =
    part_of_params c.args.types.now c.args.self c.node-shape.result.now c.args.k c.in-Some.part c.node-shape.ensures.found
    (c.in-Some.ensures ∙ ap (λ (fs : List Field). slice_get (parts_in (field_slots fs [])) c.args.k) c.deref.ensures.value)

pub returns-in-Some-option_part : goal.returns-in-Some-option_part
returns-in-Some-option_part c =
    part_of_result c.args.types.now c.args.self c.node-shape.result.now c.args.k c.in-Some-option_part.part c.node-shape.ensures.found
    (c.in-None.ensures ∙ ap (λ (fs : List Field). slice_get (parts_in (field_slots fs [])) c.args.k) c.deref.ensures.value)
    c.in-Some-option_part.ensures c.requires.below
