-- Entities by ids of an arena: which stand there, and their trees.
use Rattle.std.specs.Prelude.{List, [], ◌∷◌, ◌++◌, map}
use Rattle.wcv_types.specs.Tree.{Text, Extern_name}
use Rattle.wcv_types.specs.Arena.{Arena}
use Rattle.wcv_types.specs.Standing.{Stands}
use Rattle.wcv_types.specs.Unfold.{Type_tree, Slot, leaf, at, both, core, slot_refs, slot_tree}
pub use Rattle.wcv_types.specs.Unfold.{any_part, entity_slot, entry_name}
use Rattle.wcv_types.specs.declared.ids.Part.{Part}
use Rattle.wcv_types.specs.declared.item_map.ComponentItem.{ComponentItem}
use Rattle.wcv_types.specs.declared.shapes.ComponentEntityType.{ComponentEntityType}

-- ## Trees

-- the tree of an entity, over the trees of the nodes
abbrev pub entity_tree : List Type_tree → ComponentEntityType → Type_tree
entity_tree ts x = slot_tree ts (entity_slot x)

abbrev pub entry_tree : List Type_tree → Text × ComponentItem → Extern_name × Type_tree
entry_tree ts e = (entry_name e, entity_tree ts e.1.ty)

abbrev pub entry_trees : List Type_tree → List (Text × ComponentItem) → List (Extern_name × Type_tree)
entry_trees ts es = map (entry_tree ts) es

-- the parts that entries name, in order
abbrev pub entry_parts : List (Text × ComponentItem) → List Part
entry_parts [] = []
entry_parts (e ∷ es) = slot_refs (entity_slot e.1.ty) ++ entry_parts es

-- ## What stands

-- each part that the slot names is of the arena
abbrev pub SlotStands : Arena → Slot → Type 0
SlotStands a (leaf o) = Unit {0}
SlotStands a (at q) = Stands a q
SlotStands a (both c r) = Stands a c × Stands a r
SlotStands a (core e) = Unit {0}

abbrev pub EntityStands : Arena → ComponentEntityType → Type 0
EntityStands a x = SlotStands a (entity_slot x)

abbrev pub EntryStands : Arena → Text × ComponentItem → Type 0
EntryStands a e = EntityStands a e.1.ty

-- ## Other types

-- the same entries with these types
abbrev pub retyped : List (Text × ComponentItem) → List ComponentEntityType → List (Text × ComponentItem)
retyped (e ∷ es) (x ∷ xs) = (e.0, record e.1 { ty = x }) ∷ retyped es xs
retyped _ _ = []
