use Rattle.std.proofs.Common.{◌≡◌, ◌∙◌, ◌++◌, List, ap, subst, sym}
use Rattle.std.specs.Prelude.{OnOk}
use Rattle.wcv_types.specs.Entities.{entry_parts}
use Rattle.wcv_types.specs.Tree.{export}
use Rattle.wcv_types.specs.declared.ids.Part.{Part}
use Rattle.wcv_types.proofs.EntryLists.{entry_parts-are}
use Rattle.wcv_types.proofs.instance_sort.ComponentInstanceTypeIdNodeSort.parts_into.Goals as goal

pub returns : goal.returns
returns c =
    subst (λ (ps : List Part). OnOk c.push_entries.result (c.push_entries.new.parts ≡ c.args.parts.now ++ ps))
    (ap entry_parts c.as_slice.ensures ∙ sym (entry_parts-are export c.args.shape.now.exports)) c.push_entries.ensures
