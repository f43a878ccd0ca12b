use Rattle.std.proofs.Common.{◌∙◌, ◌+◌, ap, length, List, []}
use Rattle.wcv_types.specs.Unfold.{parts_in, field_slots}
use Rattle.wcv_types.proofs.Slots.{Field, count_with, count_without}
use Rattle.wcv_types.proofs.func_sort.ComponentFuncTypeIdTypeSort.part_count.Goals as goal

pub returns-in-Some : goal.returns-in-Some
returns-in-Some c =
    ap (λ m. m + 1) (c.count_field_parts-count.ensures.count ∙ ap (λ (fs : List Field). length (parts_in (field_slots fs []))) c.deref.ensures.value) ∙
    count_with c.args.types.now c.args.self c.node-shape.result.now c.in-Some.field-0 c.node-shape.ensures.found c.in-Some.ensures

pub returns-in-None : goal.returns-in-None
returns-in-None c =
    c.count_field_parts-count.ensures.count ∙ ap (λ (fs : List Field). length (parts_in (field_slots fs []))) c.deref.ensures.value ∙
    count_without c.args.types.now c.args.self c.node-shape.result.now c.node-shape.ensures.found c.in-None.ensures
