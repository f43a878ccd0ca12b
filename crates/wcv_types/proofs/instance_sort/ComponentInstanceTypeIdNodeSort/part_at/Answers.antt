use Rattle.std.proofs.Common.{◌∙◌, ◌<◌, List, length, ap, subst, sym}
use Rattle.std.specs.Prelude.{slice_get}
use Rattle.wcv_types.specs.Entities.{entry_parts}
use Rattle.wcv_types.specs.declared.ids.Part.{Part}
use Rattle.wcv_types.proofs.InstancesRebuilt.{instance_parts}
use Rattle.wcv_types.proofs.Slots.{get_none}
use Rattle.wcv_types.proofs.instance_sort.ComponentInstanceTypeIdNodeSort.part_at.Goals as goal

pub unreachable-requires : goal.unreachable-requires
unreachable-requires c =
    get_none (entry_parts c.as_slice.result.now) c.args.k (sym c.in-None.is ∙ c.nth_entry_part.ensures)
    (subst (λ (ps : List Part). c.args.k < length ps) (instance_parts c.args.types.now c.args.self c.node.result.now c.node.ensures.found ∙ ap entry_parts (sym c.as_slice.ensures)) c.requires.below)

pub returns : goal.returns
returns c =
    ap (λ (ps : List Part). slice_get ps c.args.k) (instance_parts c.args.types.now c.args.self c.node.result.now c.node.ensures.found ∙ ap entry_parts (sym c.as_slice.ensures)) ∙
    sym c.nth_entry_part.ensures ∙ c.in-Some.is
