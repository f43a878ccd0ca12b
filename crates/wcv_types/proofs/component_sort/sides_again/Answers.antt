use Rattle.std.proofs.Common.{◌≡◌, ◌∙◌, List, ap, subst, sym}
use Rattle.std.specs.Map.{keys_of}
use Rattle.wcv_types.specs.Rebuild.{Fills, after}
use Rattle.wcv_types.specs.Tree.{import, export}
use Rattle.wcv_types.specs.Unfold.{entry_slots}
use Rattle.wcv_types.specs.declared.ids.Part.{Part}
use Rattle.wcv_types.proofs.ComponentsRebuilt.{component_fill, component_refilled}
use Rattle.wcv_types.proofs.EntryLists.{Entry}
use Rattle.wcv_types.proofs.component_sort.sides_again.Goals as goal

pub entries_again-requires : goal.entries_again-requires
entries_again-requires c role =
    subst (λ (es : List Entry). Fills (entry_slots role es) c.new-left.result) (sym c.as_slice.ensures)
    (subst (λ (rs : List Part). Fills (entry_slots role c.args.shape.now.imports) rs) (sym c.new-left.ensures) (component_fill c.args.shape.now c.args.parts.now c.requires role export).0)

pub entries_again-requires-2 : goal.entries_again-requires-2
entries_again-requires-2 c role =
    let left : c.entries_again.new.parts ≡ after (entry_slots import c.args.shape.now.imports) c.args.parts.now =
    c.in_ok-imports.ensures.left import ∙ (λ j. after (entry_slots import (c.as_slice.ensures j)) (c.new-left.ensures j)) in
    subst (λ (es : List Entry). Fills (entry_slots role es) c.entries_again.new.parts) (sym c.as_slice-2.ensures)
    (subst (λ (rs : List Part). Fills (entry_slots role c.args.shape.now.exports) rs) (sym left) (component_fill c.args.shape.now c.args.parts.now c.requires import role).1)

pub returns-clause-slots : goal.returns-clause-slots
returns-clause-slots c =
    component_refilled c.args.shape.now c.args.parts.now c.new-left.result c.entries_again.new.parts c.in_ok-imports.imports c.in_ok-exports.exports c.as_slice.result.now c.as_slice-2.result.now
    c.as_slice.ensures c.as_slice-2.ensures c.new-left.ensures (c.in_ok-imports.ensures.left import) (c.in_ok-imports.ensures.slots import) (c.in_ok-exports.ensures.slots export)

pub returns-clause-names : goal.returns-clause-names
returns-clause-names c = (c.in_ok-imports.ensures.names ∙ ap keys_of c.as_slice.ensures, c.in_ok-exports.ensures.names ∙ ap keys_of c.as_slice-2.ensures)
