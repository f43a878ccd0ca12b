use Rattle.std.proofs.Common.{List, length, length-append, ap, arith}
use Rattle.wcv_types.specs.Entities.{entry_parts}
use Rattle.wcv_types.specs.declared.ids.Part.{Part}
use Rattle.wcv_types.proofs.ComponentsRebuilt.{component_parts}
use Rattle.wcv_types.proofs.EntryLists.{Entry}
use Rattle.wcv_types.proofs.component_sort.ComponentTypeIdTypeSort.part_count.Goals as goal

pub returns : goal.returns
returns c =
    let is : List Entry = c.node-shape.result.now.imports in
    let es : List Entry = c.node-shape.result.now.exports in
    omega (
      arith,
      c.count_entries.ensures.count,
      c.count_entries-2.ensures.count,
      ap (λ (xs : List Entry). length (entry_parts xs)) c.as_slice.ensures,
      ap (λ (xs : List Entry). length (entry_parts xs)) c.as_slice-2.ensures,
      ap (λ (ps : List Part). length ps) (component_parts c.args.types.now c.args.self c.node-shape.result.now c.node-shape.ensures.found),
      length-append (entry_parts is) (entry_parts es),
    )
