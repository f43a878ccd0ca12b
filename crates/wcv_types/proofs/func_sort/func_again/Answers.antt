use Rattle.std.proofs.Common.{◌≡◌, ◌∙◌, [], ◌∷◌}
use Rattle.wcv_types.specs.Tree.{here}
use Rattle.wcv_types.specs.Unfold.{field_slots, option_slot}
use Rattle.wcv_types.specs.Rebuild.{refill, after, slots_by, field_value}
use Rattle.wcv_types.proofs.Rebuilding.{func_refilled, refilled_stand}
use Rattle.wcv_types.proofs.func_sort.func_again.Goals as goal

pub over-requires : goal.over-requires
over-requires c =
    let fs = c.args.shape.now.params.items in
    let o = c.args.shape.now.result in
    let qs = c.args.parts.now in
    let e : slots_by field_value c.in_ok-params.params.items ≡ refill (slots_by field_value fs) qs = c.in_ok-params.ensures.slots ∙ (λ j. refill (slots_by field_value (c.deref.ensures.value j)) (c.new-left.ensures j)) in
    let l : c.fields_again.new.parts ≡ after (slots_by field_value fs) qs = c.in_ok-params.ensures.left ∙ (λ j. after (slots_by field_value (c.deref.ensures.value j)) (c.new-left.ensures j)) in
    refilled_stand c.args.types.now (field_slots fs ((here, option_slot o) ∷ [])) _ qs c.requires.sorts c.requires.stand (func_refilled fs o qs c.in_ok-params.params.items c.option-gives.result _ e l c.option-gives.ensures.slot)
