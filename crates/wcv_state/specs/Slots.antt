-- What a state holds, by its ids.
use Rattle.std.specs.Prelude.{List, map}
use Rattle.wcv_types.specs.Arena.{Arena}
use Rattle.wcv_types.specs.ComponentTrees.{resource_path}
use Rattle.wcv_types.specs.Entities.{entity_slot, entry_name}
use Rattle.wcv_types.specs.Sets.{identities}
use Rattle.wcv_types.specs.Tree.{Text, Extern_name}
use Rattle.wcv_types.specs.Unfold.{Slot}
use Rattle.wcv_types.specs.declared.item_map.ComponentItem.{ComponentItem}
use Rattle.wcv_lower.specs.Context.{Context, Stack}
use Rattle.wcv_lower.specs.Slots.{slot_reader}
use Rattle.wcv_spaces.specs.Contents.{Contents, ids, core_ids, kind_of, sides, names, id_slot, core_slot, defined_resource}

abbrev pub entry_slot : Text × ComponentItem → Extern_name × Slot
entry_slot e = (entry_name e, entity_slot e.1.ty)

abbrev pub slots_of : (a : Arena) → Contents → Context (slot_reader a)
slots_of a s = record {
  kind = kind_of s.kind;
  core = λ k. map (core_slot k) (core_ids k s.spaces);
  space = λ k. map (id_slot k) (ids k s.spaces);
  side = λ d. map entry_slot (sides s d);
  imported = map resource_path s.imported_resources;
  defined = map defined_resource s.defined_resources;
  named = λ d. identities (names s d);
  size = s.info.size;
  depth = s.info.depth;
  aliased = s.aliased;
  context_type = s.context_type;
  used = map (λ v. v.1) s.spaces.values;
  started = s.started;
}

-- the states that are open, the innermost first, over the arena's table of core types
abbrev pub slot_stack_of : (a : Arena) → Contents → List Contents → Stack (slot_reader a)
slot_stack_of a s around = record { top = slots_of a s; outer = map (slots_of a) around; groups = a.core }
