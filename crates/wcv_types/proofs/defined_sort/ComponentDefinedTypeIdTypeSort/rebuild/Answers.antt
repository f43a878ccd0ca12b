use Rattle.std.proofs.Common.{◌∙◌, subst, sym, ap}
use Rattle.std.proofs.lemmas.List.Elements.{All-nil}
use Rattle.wcv_core.specs.CoreGroups.{total}
use Rattle.wcv_core.specs.CoreSizes.{IsEntityWithin}
use Rattle.wcv_types.specs.Standing.{GaveResource}
use Rattle.wcv_types.specs.Rebuild.{SameSorts, Fills, refill}
use Rattle.wcv_types.specs.Unfold.{parts_in, defined_slots, slots_if}
use Rattle.wcv_types.proofs.Rebuilding.{fills_sorts, refilled_stand, defined_made}
use Rattle.wcv_types.proofs.defined_sort.ComponentDefinedTypeIdTypeSort.rebuild.Goals as goal

pub defined_again-requires : goal.defined_again-requires
defined_again-requires c =
    let sorts : SameSorts (parts_in (defined_slots c.node.result.now)) c.args.parts.now = subst (λ x. SameSorts (parts_in (slots_if x)) c.args.parts.now) c.node.ensures.found c.requires.refits.same_sorts in
    subst (Fills (defined_slots c.node.result.now)) (sym c.new-left.ensures) (fills_sorts (defined_slots c.node.result.now) c.args.parts.now sorts)

pub store-requires : goal.store-requires
store-requires c =
    let sorts : SameSorts (parts_in (defined_slots c.node.result.now)) c.args.parts.now = subst (λ x. SameSorts (parts_in (slots_if x)) c.args.parts.now) c.node.ensures.found c.requires.refits.same_sorts in
    record {
      parts = refilled_stand c.args.types.now (defined_slots c.node.result.now) (defined_slots c.in_ok-shape.shape) c.args.parts.now sorts c.requires.refits.stand
          (c.in_ok-shape.ensures.slots ∙ ap (refill (defined_slots c.node.result.now)) c.new-left.ensures);
      info = tt;
      owned = All-nil (GaveResource c.args.types.now);
      led = tt;
      within = All-nil (IsEntityWithin (total c.args.types.now.core));
      stated = tt;
      apart = tt;
    }

pub returns-clause-ok : goal.returns-clause-ok
returns-clause-ok c =
    defined_made _ _ c.args.self c.in_ok-made.made c.node.result.now c.in_ok-shape.shape c.args.parts.now c.node.ensures.found c.node.ensures.unfolds
    (c.in_ok-shape.ensures.slots ∙ ap (refill (defined_slots c.node.result.now)) c.new-left.ensures) c.in_ok-shape.ensures.former
    c.in_ok-made.ensures.added c.in_ok-made.ensures.last c.in_ok-made.ensures.stands
