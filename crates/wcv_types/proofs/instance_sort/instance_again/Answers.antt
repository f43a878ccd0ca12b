use Rattle.std.proofs.Common.{◌≡◌, ◌∙◌, List, ap, subst, sym}
use Rattle.std.specs.List.{IsDistinct}
use Rattle.std.specs.Map.{keys_of}
use Rattle.std.specs.Prelude.{All, bytes_eq}
use Rattle.wcv_types.specs.Led.{HasPath}
use Rattle.wcv_types.specs.Rebuild.{SameSorts, Fills, refill}
use Rattle.wcv_types.specs.Tree.{export, exports_in}
use Rattle.wcv_types.specs.Unfold.{Slots, entry_slots, resource_names, slot_parts, trees}
use Rattle.wcv_types.specs.declared.ids.Part.{Part}
use Rattle.wcv_types.specs.declared.ids.ResourceId.{ResourceId}
use Rattle.wcv_types.proofs.EntriesRefilled.{entries_fill}
use Rattle.wcv_types.proofs.EntryLists.{Entry, entry_parts-are}
use Rattle.wcv_types.proofs.Rebuilding.{refilled_stand}
use Rattle.wcv_types.proofs.instance_sort.instance_again.Goals as goal

pub entries_again-requires : goal.entries_again-requires
entries_again-requires c role =
    let es : List Entry = c.args.shape.now.exports in
    let qs : List Part = c.args.parts.now in
    let fill : Fills (entry_slots role es) qs = entries_fill es qs (subst (λ (ps : List Part). SameSorts ps qs) (entry_parts-are export es) c.requires.sorts) role in
    subst (λ (xs : List Entry). Fills (entry_slots role xs) c.new-left.result) (sym c.as_slice.ensures) (subst (λ (rs : List Part). Fills (entry_slots role es) rs) (sym c.new-left.ensures) fill)

pub over-requires-clause-stand : goal.over-requires-clause-stand
over-requires-clause-stand c =
    refilled_stand c.args.types.now (entry_slots export c.args.shape.now.exports) (entry_slots export c.in_ok-exports.exports) c.args.parts.now c.requires.sorts c.requires.stand
    (c.in_ok-exports.ensures.slots export ∙ (λ j. refill (entry_slots export (c.as_slice.ensures j)) (c.new-left.ensures j)))

pub over-requires-clause-led : goal.over-requires-clause-led
over-requires-clause-led c =
    let slots : entry_slots export c.in_ok-exports.exports ≡ refill (entry_slots export c.args.shape.now.exports) c.args.parts.now =
    c.in_ok-exports.ensures.slots export ∙ (λ j. refill (entry_slots export (c.as_slice.ensures j)) (c.new-left.ensures j)) in
    subst (λ (rs : List ResourceId). All (HasPath (exports_in (slot_parts (trees c.args.types.now.nodes) (entry_slots export c.in_ok-exports.exports)))) (resource_names rs)) (sym c.in_ok-resources.ensures)
    (subst (λ (ss : Slots). All (HasPath (exports_in (slot_parts (trees c.args.types.now.nodes) ss))) (resource_names c.args.shape.now.defined_resources)) (sym slots) c.requires.led)

pub over-requires-clause-apart : goal.over-requires-clause-apart
over-requires-clause-apart c = subst (IsDistinct bytes_eq) (sym (c.in_ok-exports.ensures.names ∙ ap keys_of c.as_slice.ensures)) c.requires.apart
