use Rattle.std.proofs.Common.{◌∙◌, ◌++◌, map, subst, sym}
use Rattle.std.specs.List.{IsDistinct}
use Rattle.std.specs.Prelude.{bytes_eq}
use Rattle.wcv_core.specs.Names.{number}
use Rattle.wcv_types.specs.Led.{HeadLed}
use Rattle.wcv_types.specs.Tree.{import, export, component}
use Rattle.wcv_types.specs.Unfold.{Slots, entry_slots, resource_path, slot_parts, slots_of, trees}
use Rattle.wcv_types.specs.declared.arena.Node.TheVariants as n
use Rattle.wcv_types.proofs.Rebuilding.{refilled_stand}
use Rattle.wcv_types.proofs.component_sort.component_again.Goals as goal

pub over-requires-clause-stand : goal.over-requires-clause-stand
over-requires-clause-stand c =
    refilled_stand c.args.types.now (slots_of (n.Component c.args.shape.now)) (entry_slots import c.in_ok-imports.imports ++ entry_slots export c.in_ok-imports.exports) c.args.parts.now c.requires.sorts c.requires.stand c.in_ok-imports.ensures.slots

pub over-requires-clause-led : goal.over-requires-clause-led
over-requires-clause-led c =
    let slots : Slots = entry_slots import c.in_ok-imports.imports ++ entry_slots export c.in_ok-imports.exports in
    subst (λ is. HeadLed (component (number 0) (map resource_path is) (map resource_path c.in_ok-defined.defined)) (slot_parts (trees c.args.types.now.nodes) slots)) (sym c.in_ok-imported.ensures)
    (subst (λ os. HeadLed (component (number 0) (map resource_path c.args.shape.now.imported_resources) (map resource_path os)) (slot_parts (trees c.args.types.now.nodes) slots)) (sym c.in_ok-defined.ensures)
    (subst (λ (ss : Slots). HeadLed (component (number 0) (map resource_path c.args.shape.now.imported_resources) (map resource_path c.args.shape.now.defined_resources)) (slot_parts (trees c.args.types.now.nodes) ss)) (sym c.in_ok-imports.ensures.slots) c.requires.led))

pub returns-clause-slots : goal.returns-clause-slots
returns-clause-slots c = (λ j. entry_slots import (c.over.ensures.imports j) ++ entry_slots export (c.over.ensures.exports j)) ∙ c.in_ok-imports.ensures.slots

pub over-requires-clause-apart : goal.over-requires-clause-apart
over-requires-clause-apart c =
    (subst (IsDistinct bytes_eq) (sym c.in_ok-imports.ensures.names.0) c.requires.apart.0, subst (IsDistinct bytes_eq) (sym c.in_ok-imports.ensures.names.1) c.requires.apart.1)
