use Rattle.std.proofs.Common.{◌≡◌, ◌∙◌, ◌++◌, List, append_assoc, ap, subst, sym}
use Rattle.std.specs.Prelude.{OnOk}
use Rattle.wcv_types.specs.Entities.{entry_parts}
use Rattle.wcv_types.specs.Unfold.{parts_in, slots_of}
use Rattle.wcv_types.specs.declared.arena.Node.TheVariants as n
use Rattle.wcv_types.specs.declared.ids.Part.{Part}
use Rattle.wcv_types.proofs.ComponentsRebuilt.{parts_of_component}
use Rattle.wcv_types.proofs.component_sort.ComponentTypeIdNodeSort.parts_into.Goals as goal

pub returns : goal.returns
returns c =
    let old : List Part = c.args.parts.now in
    let ins : List Part = entry_parts c.args.shape.now.imports in
    let outs : List Part = entry_parts c.args.shape.now.exports in
    let all : c.push_entries.new.parts ++ entry_parts c.as_slice-2.result.now ≡ old ++ parts_in (slots_of (n.Component c.args.shape.now)) =
    (λ j. c.in_ok-push_entries.ensures j ++ entry_parts (c.as_slice-2.ensures j)) ∙ (λ j. (old ++ entry_parts (c.as_slice.ensures j)) ++ outs) ∙ append_assoc old ins outs ∙
    ap (λ (ps : List Part). old ++ ps) (sym (parts_of_component c.args.shape.now)) in
    subst (λ (ps : List Part). OnOk c.push_entries-2.result (c.push_entries-2.new.parts ≡ ps)) all c.push_entries-2.ensures
