use Rattle.std.proofs.Common.{refl, []}
use Rattle.wcv_types.specs.Flat.{flat_cases}
use Rattle.wcv_types.specs.Open.{open_words, open_all}
use Rattle.wcv_types.specs.Unfold.{defined_slots, slot_parts}
use Rattle.wcv_types.proofs.Forming.{facts_are}
use Rattle.wcv_types.proofs.layout.facts.Goals as goal

pub returns : goal.returns
returns c ts k h =
    facts_are c.args.shape.now c.args.parts.now ts k h _ c.info.ensures.size c.info.ensures.depth c.size.ensures c.align.ensures c.size-2.ensures c.align-2.ensures c.contains_ptr.ensures c.contains_handle.ensures c.contains_borrow.ensures c.plain.ensures refl
    (c.shape_types.ensures (open_all (slot_parts ts (defined_slots c.args.shape.now))) (flat_cases open_words [] (slot_parts ts (defined_slots c.args.shape.now))) h.all h.cases)
