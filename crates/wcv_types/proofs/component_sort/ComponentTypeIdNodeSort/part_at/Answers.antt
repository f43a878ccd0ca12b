use Rattle.std.proofs.Common.{◌≡◌, ◌∙◌, ◌-◌, ◌<◌, List, length, ap, subst, sym, Some, None}
use Rattle.std.specs.Prelude.{slice_get}
use Rattle.wcv_types.specs.Entities.{entry_parts}
use Rattle.wcv_types.specs.declared.ids.Part.{Part}
use Rattle.wcv_types.proofs.ComponentsRebuilt.{component_parts}
use Rattle.wcv_types.proofs.EntryLists.{get_behind, none_behind}
use Rattle.wcv_types.proofs.Slots.{get_left}
use Rattle.wcv_types.proofs.component_sort.ComponentTypeIdNodeSort.part_at.Goals as goal

pub unreachable-requires : goal.unreachable-requires
unreachable-requires c =
    let ins : List Part = entry_parts c.node-shape.result.now.imports in
    let outs : List Part = entry_parts c.node-shape.result.now.exports in
    let before : None ≡ slice_get ins c.args.k = sym c.in-None.is ∙ c.nth_entry_part.ensures ∙ ap (λ es. slice_get (entry_parts es) c.args.k) c.as_slice.ensures in
    let count : c.count_entries.result ≡ length ins = c.count_entries.ensures.count ∙ ap (λ es. length (entry_parts es)) c.as_slice-in-None.ensures in
    let behind : None ≡ slice_get outs (c.args.k - length ins) =
    sym c.in-None-nth_entry_part.is ∙ c.nth_entry_part-in-None.ensures ∙ (λ j. slice_get (entry_parts (c.as_slice-in-None-2.ensures j)) (c.args.k - count j)) in
    none_behind ins outs c.args.k before behind
    (subst (λ (ps : List Part). c.args.k < length ps) (component_parts c.args.types.now c.args.self c.node-shape.result.now c.node-shape.ensures.found) c.requires.below)

pub returns-in-Some : goal.returns-in-Some
returns-in-Some c =
    let ins : List Part = entry_parts c.node-shape.result.now.imports in
    let outs : List Part = entry_parts c.node-shape.result.now.exports in
    let there : slice_get ins c.args.k ≡ Some c.in-Some.part = sym (sym c.in-Some.is ∙ c.nth_entry_part.ensures ∙ ap (λ es. slice_get (entry_parts es) c.args.k) c.as_slice.ensures) in
    ap (λ (ps : List Part). slice_get ps c.args.k) (component_parts c.args.types.now c.args.self c.node-shape.result.now c.node-shape.ensures.found) ∙ get_left ins outs c.args.k c.in-Some.part there

pub returns-in-Some-nth_entry_part : goal.returns-in-Some-nth_entry_part
returns-in-Some-nth_entry_part c =
    let ins : List Part = entry_parts c.node-shape.result.now.imports in
    let outs : List Part = entry_parts c.node-shape.result.now.exports in
    let before : None ≡ slice_get ins c.args.k = sym c.in-None.is ∙ c.nth_entry_part.ensures ∙ ap (λ es. slice_get (entry_parts es) c.args.k) c.as_slice.ensures in
    let count : c.count_entries.result ≡ length ins = c.count_entries.ensures.count ∙ ap (λ es. length (entry_parts es)) c.as_slice-in-None.ensures in
    let behind : slice_get outs (c.args.k - length ins) ≡ Some c.in-Some-nth_entry_part.part =
    sym (sym c.in-Some-nth_entry_part.is ∙ c.nth_entry_part-in-None.ensures ∙ (λ j. slice_get (entry_parts (c.as_slice-in-None-2.ensures j)) (c.args.k - count j))) in
    ap (λ (ps : List Part). slice_get ps c.args.k) (component_parts c.args.types.now c.args.self c.node-shape.result.now c.node-shape.ensures.found) ∙ get_behind ins outs c.args.k c.in-Some-nth_entry_part.part before behind
