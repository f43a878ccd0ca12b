-- Entries that are ids of an arena: those of the code. A slot is what stands where an entry stands.
use Rattle.std.specs.Prelude.{ℕ, suc, pred, Option, Some, None, List, [], ◌∷◌, length}
use Rattle.wcv_core.specs.Names.{Name, number}
use Rattle.wcv_types.specs.Arena.{Arena}
use Rattle.wcv_types.specs.Identity.{Identity}
use Rattle.wcv_types.specs.Tree.{Extern_name, label, here, export, head, owned, Sort, is_nothing, is_value, is_resource, is_func, is_instance, is_component, is_type, is_module, is_core_instance, is_core_type, is_core_item}
use Rattle.wcv_types.specs.Unfold.{Slot, leaf, core, at, both, Slots, slots_at, slot_tree, trees}
use Rattle.wcv_types.specs.declared.ids.Part.{Part}
use Rattle.wcv_types.specs.declared.ids.Part.TheVariants as p
use Rattle.wcv_matching.specs.OnePass.{made_paths}
use Rattle.wcv_lower.specs.Mapped.{Map, map_entries, map_named}
use Rattle.wcv_lower.specs.Readers.{Reader, New_node, func_node, defined_node, module_node, core_instance_node, core_exports_node, instance_node, component_node, Brought, Maker}
use Rattle.wcv_lower.specs.NewTypes.{path_or_none}
use Rattle.wcv_lower.specs.Step.{bare}
use Rattle.wcv_lower.specs.Trees.{Entries, tree_reader}

-- ## What is read

abbrev pub created : Slot → Slot
created (both c r) = both c c
created x = x

abbrev pub referenced : Slot → Slot
referenced (both c r) = at r
referenced x = x

-- the slots that are exports
abbrev pub export_slots : Slots → List (Extern_name × Slot)
export_slots [] = []
export_slots ((export n, x) ∷ ss) = (n, x) ∷ export_slots ss
export_slots (s ∷ ss) = export_slots ss

abbrev pub exports : Arena → Slot → List (Extern_name × Slot)
exports a (at q) = export_slots (slots_at a.nodes q)
exports a x = []

-- the slots under labels
abbrev pub labelled : Slots → List Slot
labelled [] = []
labelled ((label n, x) ∷ ss) = x ∷ labelled ss
labelled (s ∷ ss) = labelled ss

abbrev pub params : Arena → Slot → List Slot
params a (at (p.Func i)) = labelled (slots_at a.nodes (p.Func i))
params a x = []

-- it is not left out
abbrev pub if_given : Slot → Option Slot
if_given (leaf None) = None
if_given x = Some x

-- the slot without a label
abbrev pub unlabelled : Slots → Option Slot
unlabelled [] = None
unlabelled ((here, x) ∷ ss) = if_given x
unlabelled (s ∷ ss) = unlabelled ss

abbrev pub result : Arena → Slot → Option Slot
result a (at (p.Func i)) = unlabelled (slots_at a.nodes (p.Func i))
result a x = None

-- the sort that an id tells
abbrev pub part_sort : Part → Sort
part_sort (p.Resource r) = is_resource
part_sort (p.Func i) = is_func
part_sort (p.Defined i) = is_value
part_sort (p.Instance i) = is_instance
part_sort (p.Component i) = is_component
part_sort (p.Module i) = is_module
part_sort (p.CoreInstance i) = is_core_instance
part_sort (p.Core i) = is_core_type

abbrev pub slot_sort : Slot → Sort
slot_sort (leaf None) = is_nothing
slot_sort (leaf (Some q)) = is_value
slot_sort (at q) = part_sort q
slot_sort (both c r) = is_type
slot_sort (core e) = is_core_item

-- all else is read off the tree that the slot stands for
abbrev pub slot_reader : Arena → Reader
slot_reader a = record {
  Entry = Slot;
  Resource = Name;
  Identity = Identity;
  sort = slot_sort;
  size = λ x. tree_reader.size (slot_tree (trees a.nodes) x);
  depth = λ x. tree_reader.depth (slot_tree (trees a.nodes) x);
  created = created;
  referenced = referenced;
  exports = exports a;
  params = params a;
  result = result a;
  introduced = λ x. tree_reader.introduced (slot_tree (trees a.nodes) x);
  creates = λ x. tree_reader.creates (slot_tree (trees a.nodes) x);
  same = tree_reader.same;
  is_named = λ named s x. tree_reader.is_named named s (slot_tree (trees a.nodes) x);
  name_checks = λ fs es n x. tree_reader.name_checks fs (map_entries (slot_tree (trees a.nodes)) es) n (slot_tree (trees a.nodes) x);
  bare_name_checks = λ fs es n x. tree_reader.bare_name_checks fs (map_entries (slot_tree (trees a.nodes)) es) n (slot_tree (trees a.nodes) x);
  matches = λ gs x y. tree_reader.matches gs (slot_tree (trees a.nodes) x) (slot_tree (trees a.nodes) y);
  opens = λ gs args x. tree_reader.opens gs (map_named (slot_tree (trees a.nodes)) args) (slot_tree (trees a.nodes) x);
  has_free = λ x. tree_reader.has_free (slot_tree (trees a.nodes) x);
  is_free = λ r x. tree_reader.is_free r (slot_tree (trees a.nodes) x);
  first_path = λ r es. tree_reader.first_path r (map_entries (slot_tree (trees a.nodes)) es);
  core_entry = λ x. tree_reader.core_entry (slot_tree (trees a.nodes) x);
  core_type = λ i. at (p.Core (record { index = i }));
  core_imports = λ x. tree_reader.core_imports (slot_tree (trees a.nodes) x);
  core_exports = λ x. tree_reader.core_exports (slot_tree (trees a.nodes) x);
  item = λ x. tree_reader.item (slot_tree (trees a.nodes) x);
  core_item = λ e. core e;
  primitive = λ q. leaf (Some q);
  left_out = leaf None;
  primitive_of = λ x. tree_reader.primitive_of (slot_tree (trees a.nodes) x);
  contains = λ k x. tree_reader.contains k (slot_tree (trees a.nodes) x);
  abi_size = λ k x. tree_reader.abi_size k (slot_tree (trees a.nodes) x);
  outline = λ x. tree_reader.outline (slot_tree (trees a.nodes) x);
}

-- the trees that the slots stand for
abbrev pub to_trees : (a : Arena) → Map (slot_reader a) tree_reader
to_trees a = record { entry = slot_tree (trees a.nodes); resource = λ r. r; identity = λ i. i }

-- ## What is made

-- a part that the arena has not given yet: of a reference the next stamp, of a node the next place
abbrev pub next_part : Arena → Part → Part
next_part a (p.Resource r) = p.Resource (record r { stamp = a.stamps })
next_part a (p.Defined i) = p.Defined (record { index = length a.nodes })
next_part a (p.Func i) = p.Func (record { index = length a.nodes })
next_part a (p.Instance i) = p.Instance (record { index = length a.nodes })
next_part a (p.Component i) = p.Component (record { index = length a.nodes })
next_part a q = q

abbrev pub again : Arena → Slot → Slot
again a (at q) = both (next_part a q) q
again a x = x

abbrev pub next_reference : Arena → Part
next_reference a = p.Resource (record { resource = record { index = a.resources }; stamp = a.stamps })

-- the next node, of the sort of what is made
abbrev pub next_node : {X : Reader} → Arena → New_node X → Part
next_node a (func_node b ps) = p.Func (record { index = length a.nodes })
next_node a (defined_node k ps) = p.Defined (record { index = length a.nodes })
next_node a (module_node m) = p.Module (record { index = length a.nodes })
next_node a (core_instance_node n x) = p.CoreInstance (record { index = length a.nodes })
next_node a (core_exports_node n es) = p.CoreInstance (record { index = length a.nodes })
next_node a (instance_node own es) = p.Instance (record { index = length a.nodes })
next_node a (component_node ins outs es es') = p.Component (record { index = length a.nodes })

-- the next resources from a number on in place of these, each with the first path to it in the exports
abbrev pub next_resources : ℕ → List Name → Entries → List (Name × List ℕ)
next_resources k [] es = []
next_resources k (r ∷ rs) es = (number k, path_or_none (tree_reader.first_path r es)) ∷ next_resources (suc k) rs es

-- the last node that was made, as an instance
abbrev pub last_instance : Arena → Part
last_instance b = p.Instance (record { index = pred (length b.nodes) })

-- an instance of a type that owns these resources: if there is one, that node
abbrev pub instance_by : Arena → (b : Arena) → Slot → List Name → Entries → Brought (slot_reader b)
instance_by a b x [] es = bare (slot_reader b) x
instance_by a b x own es = record { entity = at (last_instance b); resources = next_resources a.resources own es }

abbrev pub instance_slot : Arena → (b : Arena) → Slot → Brought (slot_reader b)
instance_slot a b x = instance_by a b x (owned (slot_tree (trees b.nodes) x)) (tree_reader.exports (slot_tree (trees b.nodes) x))

-- the next resources from a number on in place of these, each with its path
abbrev pub next_made : ℕ → List (Name × List ℕ) → List (Name × List ℕ)
next_made k [] = []
next_made k (r ∷ rs) = (number k, r.1) ∷ next_made (suc k) rs

-- an instance of a component
abbrev pub instantiated_slot : Arena → (b : Arena) → Slot → Brought (slot_reader b)
instantiated_slot a b x = record { entity = at (last_instance b); resources = next_made a.resources (made_paths (head (slot_tree (trees b.nodes) x))) }

-- the new parts are of a later arena
abbrev pub slot_maker : Arena → (b : Arena) → Maker (slot_reader b)
slot_maker a b = record {
  again = again a;
  resource = number a.resources;
  reference = both (next_reference a) (next_reference a);
  instance_of = instance_slot a b;
  instantiate = λ args x. instantiated_slot a b x;
  build = λ n. at (next_node a n);
  build_type = λ n. both (next_node a n) (next_node a n);
}
