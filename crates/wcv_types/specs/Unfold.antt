-- The tree that a node of the arena stands for.
use Rattle.std.specs.Prelude.{ℕ, suc, min, ◌≡◌, Bool, true, false, List, [], ◌∷◌, ◌++◌, map, length, slice_get, slice_index_or, Option, Some, None}
use Rattle.wcv_core.specs.Names.{Name, number, stamp}
use Rattle.wcv_core.specs.declared.core_types.EntityType.{EntityType}
use Rattle.wcv_core.specs.declared.primitive.PrimitiveValType.{PrimitiveValType}
use Rattle.wcv_types.specs.Tree.{Text, Extern_name, Former, named, record_of, variant_of, list_of, map_of, tuple_of, option_of, result_of, own_of, borrow_of, future_of, stream_of, fixed_list_of, flags_of, enum_of, Head, nothing, defined, func, instance, component, core_module, core_instance, core_item, Role, here, label, import, export, core_import, core_export, Tree, node, Parts, none, part, primitive_type, resource_type, sub_type, type_of}
use Rattle.wcv_types.specs.Measure.{size, depth}
use Rattle.wcv_types.specs.Arena.{Arena}
use Rattle.wcv_types.specs.declared.arena.Node.{Node}
use Rattle.wcv_types.specs.declared.arena.Node.TheVariants as n
use Rattle.wcv_types.specs.declared.ids.AliasableResourceId.{AliasableResourceId}
use Rattle.wcv_types.specs.declared.core_shapes.CoreInstanceTypeKind.{CoreInstanceTypeKind}
use Rattle.wcv_types.specs.declared.core_shapes.CoreInstanceTypeKind.TheVariants as kind
use Rattle.wcv_types.specs.declared.core_shapes.ModuleType.{ModuleType}
use Rattle.wcv_types.specs.declared.ids.ComponentAnyTypeId.{ComponentAnyTypeId}
use Rattle.wcv_types.specs.declared.ids.ComponentAnyTypeId.TheVariants as any
use Rattle.wcv_types.specs.declared.ids.Part.{Part}
use Rattle.wcv_types.specs.declared.ids.Part.TheVariants as p
use Rattle.wcv_types.specs.declared.ids.ResourceId.{ResourceId}
use Rattle.wcv_types.specs.declared.info.TypeInfo.{TypeInfo}
use Rattle.wcv_types.specs.declared.item_map.ComponentItem.{ComponentItem}
use Rattle.wcv_types.specs.declared.shapes.ComponentDefinedType.{ComponentDefinedType}
use Rattle.wcv_types.specs.declared.shapes.ComponentDefinedType.TheVariants as d
use Rattle.wcv_types.specs.declared.shapes.ComponentEntityType.{ComponentEntityType}
use Rattle.wcv_types.specs.declared.shapes.ComponentEntityType.TheVariants as entity
use Rattle.wcv_types.specs.declared.shapes.ComponentValType.{ComponentValType}
use Rattle.wcv_types.specs.declared.shapes.ComponentValType.TheVariants as v

-- the tree of a type, by names
abbrev pub Type_tree : Type 0
Type_tree = Tree Name Name

-- what is left out
abbrev pub left_out : Type_tree
left_out = node nothing none

-- ## Parts

-- where the node of a part stands in the arena
abbrev pub place : Part → ℕ
place (p.Defined i) = i.index
place (p.Func i) = i.index
place (p.Instance i) = i.index
place (p.Component i) = i.index
place (p.Module i) = i.index
place (p.CoreInstance i) = i.index
place (p.Resource r) = 0
place (p.Core i) = 0

-- one more than the place; 0 for a resource reference and for a core type, which are no nodes
abbrev pub rank : Part → ℕ
rank (p.Defined i) = suc i.index
rank (p.Func i) = suc i.index
rank (p.Instance i) = suc i.index
rank (p.Component i) = suc i.index
rank (p.Module i) = suc i.index
rank (p.CoreInstance i) = suc i.index
rank (p.Resource r) = 0
rank (p.Core i) = 0

-- the type is a node and no primitive
abbrev pub names_node : ComponentValType → Bool
names_node (v.Primitive q) = false
names_node (v.Ty i) = true

-- ## Slots

-- what stands at a place among the parts of a node
pub data Slot : Type 0 where
  -- a primitive, or what is left out
  leaf : Option PrimitiveValType → Slot
  at : Part → Slot
  -- a type entity, from its created and its referenced part
  both : Part → Part → Slot
  -- what a core module imports or exports. The core types that it names are no parts: nothing takes their place
  core : EntityType → Slot

-- what stands among the parts, each in its role
abbrev pub Slots : Type 0
Slots = List (Role × Slot)

-- a value type
abbrev pub value_slot : ComponentValType → Slot
value_slot (v.Primitive q) = leaf (Some q)
value_slot (v.Ty i) = at (p.Defined i)

-- a value type that may be left out
abbrev pub option_slot : Option ComponentValType → Slot
option_slot None = leaf None
option_slot (Some t) = value_slot t

-- value types under labels, before others
abbrev pub field_slots : List (Text × ComponentValType) → Slots → Slots
field_slots [] rest = rest
field_slots (f ∷ fs) rest = (label f.0, value_slot f.1) ∷ field_slots fs rest

-- how a defined type is formed
abbrev pub former_of : ComponentDefinedType → Former
former_of (d.Primitive q) = named q
former_of (d.Record fs) = record_of
former_of (d.Variant cs) = variant_of
former_of (d.List t) = list_of
former_of (d.Map k t) = map_of
former_of (d.FixedLengthList t n) = fixed_list_of n
former_of (d.Tuple ts) = tuple_of
former_of (d.Flags ns) = flags_of ns.items
former_of (d.Enum ns) = enum_of ns.items
former_of (d.Option t) = option_of
former_of (d.Result o e) = result_of
former_of (d.Own r) = own_of
former_of (d.Borrow r) = borrow_of
former_of (d.Future o) = future_of
former_of (d.Stream o) = stream_of

-- the value types that it is made of, each in its role, where one may be left out
abbrev pub value_parts : ComponentDefinedType → List (Role × Option ComponentValType)
value_parts (d.Record fs) = map (λ f. (label f.0, Some f.1)) fs.items
value_parts (d.Variant cs) = map (λ c. (label c.0, c.1)) cs.items
value_parts (d.Tuple ts) = map (λ t. (here, Some t)) ts.items
value_parts (d.List t) = (here, Some t) ∷ []
value_parts (d.Map k t) = (here, Some k) ∷ (here, Some t) ∷ []
value_parts (d.FixedLengthList t n) = (here, Some t) ∷ []
value_parts (d.Option t) = (here, Some t) ∷ []
value_parts (d.Result o e) = (here, o) ∷ (here, e) ∷ []
value_parts (d.Future o) = (here, o) ∷ []
value_parts (d.Stream o) = (here, o) ∷ []
value_parts (d.Primitive q) = []
value_parts (d.Flags ns) = []
value_parts (d.Enum ns) = []
value_parts (d.Own r) = []
value_parts (d.Borrow r) = []

-- value types, each in its role
abbrev pub value_slots : List (Role × Option ComponentValType) → Slots
value_slots ps = map (λ p. (p.0, option_slot p.1)) ps

abbrev pub handles : ComponentDefinedType → Bool
handles (d.Own r) = true
handles (d.Borrow r) = true
handles s = false

-- a handle is made of the reference to its resource
abbrev pub defined_slots : ComponentDefinedType → Slots
defined_slots (d.Own r) = (here, at (p.Resource r)) ∷ []
defined_slots (d.Borrow r) = (here, at (p.Resource r)) ∷ []
defined_slots s = value_slots (value_parts s)

-- ## Entities

abbrev pub any_part : ComponentAnyTypeId → Part
any_part (any.Resource r) = p.Resource r
any_part (any.Defined i) = p.Defined i
any_part (any.Func i) = p.Func i
any_part (any.Instance i) = p.Instance i
any_part (any.Component i) = p.Component i

-- what stands where an entity stands
abbrev pub entity_slot : ComponentEntityType → Slot
entity_slot (entity.Module i) = at (p.Module i)
entity_slot (entity.Func i) = at (p.Func i)
entity_slot (entity.Value v) = value_slot v
entity_slot (entity.Ty c r) = both (any_part c) (any_part r)
entity_slot (entity.Instance i) = at (p.Instance i)
entity_slot (entity.Component i) = at (p.Component i)

-- the whole name of an entry
abbrev pub entry_name : Text × ComponentItem → Extern_name
entry_name e = record { name = e.0; implements = e.1.implements; version_suffix = e.1.version_suffix; external_id = e.1.external_id }

-- imports or exports
abbrev pub entry_slots : (Extern_name → Role) → List (Text × ComponentItem) → Slots
entry_slots role es = map (λ e. (role (entry_name e), entity_slot e.1.ty)) es

abbrev pub resource_names : List ResourceId → List Name
resource_names rs = map (λ r. number r.index) rs

-- a resource and the place where it stands
abbrev pub resource_path : ResourceId × List ℕ → Name × List ℕ
resource_path r = (number r.0.index, r.1)

-- ## Core modules and core instances

abbrev pub core_import_slots : List ((Text × Text) × EntityType) → Slots
core_import_slots is = map (λ i. (core_import i.0.0 i.0.1, core i.1)) is

abbrev pub core_export_slots : List (Text × EntityType) → Slots
core_export_slots es = map (λ e. (core_export e.0, core e.1)) es

abbrev pub module_slots : ModuleType → Slots
module_slots s = core_import_slots s.imports ++ core_export_slots s.exports

-- one that was made of a module has it as its part
abbrev pub kind_slots : CoreInstanceTypeKind → Slots
kind_slots (kind.Instantiated m) = (here, at (p.Module m)) ∷ []
kind_slots (kind.Exports es) = core_export_slots es

-- ## Nodes

-- the node at the place k, without its parts
abbrev pub head_of : ℕ → Node → Head Name Name
head_of k (n.Defined s) = defined (number k) (former_of s)
head_of k (n.Func s) = func (number k) s.async_
head_of k (n.Instance s) = instance (number k) (resource_names s.defined_resources)
head_of k (n.Component s) = component (number k) (map resource_path s.imported_resources) (map resource_path s.defined_resources)
head_of k (n.Module s) = core_module (number k) s.info.size
head_of k (n.CoreInstance s) = core_instance (number k) s.info.size

-- what the node is made of
abbrev pub slots_of : Node → Slots
slots_of (n.Defined s) = defined_slots s
slots_of (n.Func s) = field_slots s.params.items ((here, option_slot s.result) ∷ [])
slots_of (n.Instance s) = entry_slots export s.exports
slots_of (n.Component s) = entry_slots import s.imports ++ entry_slots export s.exports
slots_of (n.Module s) = module_slots s
slots_of (n.CoreInstance s) = kind_slots s.kind

-- the parts that a slot names
abbrev pub slot_refs : Slot → List Part
slot_refs (leaf o) = []
slot_refs (at q) = q ∷ []
slot_refs (both c r) = c ∷ r ∷ []
slot_refs (core e) = []

-- the parts that the slots name, in order
abbrev pub parts_in : Slots → List Part
parts_in [] = []
parts_in (s ∷ ss) = slot_refs s.1 ++ parts_in ss

-- the reference of a handle
abbrev pub handle_parts : ComponentDefinedType → List Part
handle_parts (d.Own r) = p.Resource r ∷ []
handle_parts (d.Borrow r) = p.Resource r ∷ []
handle_parts s = []

-- the parts of a node, in order
abbrev pub parts_of : Node → List Part
parts_of x = parts_in (slots_of x)

-- what the node is made of, if it is there
abbrev pub slots_if : Option Node → Slots
slots_if None = []
slots_if (Some x) = slots_of x

-- what the type is made of, which is nothing for a resource reference and for a core type
abbrev pub slots_at : List Node → Part → Slots
slots_at xs (p.Resource r) = []
slots_at xs (p.Core i) = []
slots_at xs q = slots_if (slice_get xs (place q))

-- the parts of a type, in order
abbrev pub parts_at : Arena → Part → List Part
parts_at a q = parts_in (slots_at a.nodes q)

-- ## Trees

-- a resource reference
abbrev pub reference : AliasableResourceId → Type_tree
reference r = resource_type (number r.resource.index) (stamp r.stamp)

-- a primitive, or what is left out
abbrev pub leaf_tree : Option PrimitiveValType → Type_tree
leaf_tree None = left_out
leaf_tree (Some q) = primitive_type q

-- the tree at a place in a list
abbrev pub tree_in : List Type_tree → ℕ → Type_tree
tree_in ts k = slice_index_or ts k left_out

-- the tree of a part, over the trees of the nodes
abbrev pub part_tree : List Type_tree → Part → Type_tree
part_tree ts (p.Resource r) = reference r
part_tree ts (p.Core i) = sub_type i.index
part_tree ts q = tree_in ts (place q)

-- the tree of what stands at a place among the parts
abbrev pub slot_tree : List Type_tree → Slot → Type_tree
slot_tree ts (leaf o) = leaf_tree o
slot_tree ts (at q) = part_tree ts q
slot_tree ts (both c r) = type_of (part_tree ts c) (part_tree ts r)
slot_tree ts (core e) = node (core_item e) none

-- the trees of the slots, in their roles
abbrev pub slot_parts : List Type_tree → Slots → Parts Name Name
slot_parts ts [] = none
slot_parts ts (s ∷ ss) = part s.0 (slot_tree ts s.1) (slot_parts ts ss)

-- the node as the next one, over the trees of the older nodes
abbrev pub tree_of : List Type_tree → Node → Type_tree
tree_of ts x = node (head_of (length ts) x) (slot_parts ts (slots_of x))

-- the trees of the nodes, after those that are there
abbrev pub trees_after : List Type_tree → List Node → List Type_tree
trees_after ts [] = ts
trees_after ts (x ∷ xs) = trees_after (ts ++ tree_of ts x ∷ []) xs

-- the trees of the nodes
abbrev pub trees : List Node → List Type_tree
trees xs = trees_after [] xs

-- the tree of a part
abbrev pub tree_at : Arena → Part → Type_tree
tree_at a q = part_tree (trees a.nodes) q

-- the tree of the node at the place k, over the trees of its parts in the same arena
abbrev pub unfolded : Arena → ℕ → Node → Type_tree
unfolded a k x = node (head_of k x) (slot_parts (trees a.nodes) (slots_of x))

-- ## What a node keeps of its tree

-- the size and the depth that a node says of itself, if it does
abbrev pub info_of : Node → Option TypeInfo
info_of (n.Defined s) = None
info_of (n.Func s) = Some s.info
info_of (n.Instance s) = Some s.info
info_of (n.Component s) = Some s.info
info_of (n.Module s) = Some s.info
info_of (n.CoreInstance s) = Some s.info

-- a number as an info keeps it
abbrev pub capped : ℕ → ℕ
capped k = min k 4294967295

-- the size and the depth of the tree
pub record IsInfoOf (info : TypeInfo) (t : Type_tree) : Type 0 where
  pub size : info.size ≡ capped (size t)
  pub depth : info.depth ≡ capped (depth t)
