use Rattle.std.proofs.Common.{◌∙◌, List, length, ap, sym}
use Rattle.wcv_types.specs.Entities.{entry_parts}
use Rattle.wcv_types.specs.declared.ids.Part.{Part}
use Rattle.wcv_types.proofs.EntryLists.{Entry}
use Rattle.wcv_types.proofs.InstancesRebuilt.{instance_parts}
use Rattle.wcv_types.proofs.instance_sort.ComponentInstanceTypeIdTypeSort.part_count.Goals as goal

pub returns : goal.returns
returns c =
    c.count_entries.ensures.count ∙ ap (λ (es : List Entry). length (entry_parts es)) c.as_slice.ensures ∙
    ap (λ (ps : List Part). length ps) (sym (instance_parts c.args.types.now c.args.self c.node.result.now c.node.ensures.found))
