-- What types by ids stand for, in a context where they were looked up.
use Rattle.wcv_core.specs.Limits.{max_abi_size, max_depth, max_size}
use Rattle.std.specs.Prelude.{ℕ, [], ◌∷◌, ◌++◌, Bool, true, false, Option, Some, None, All, ◌≡◌}
use Rattle.wcv_core.specs.declared.features.WasmFeatures.{WasmFeatures}
use Rattle.wcv_syntax.specs.declared.component_type.ComponentDefinedType.{ComponentDefinedType as Written_defined}
use Rattle.wcv_syntax.specs.declared.component_type.ComponentDefinedType.TheVariants as written
use Rattle.wcv_syntax.specs.declared.component_type.ComponentValType.{ComponentValType as Written_value}
use Rattle.wcv_syntax.specs.Model.{Defined_form, Func_form}
use Rattle.wcv_types.specs.Arena.{Arena}
use Rattle.wcv_types.specs.Entities.{SlotStands}
use Rattle.wcv_types.specs.Standing.{Stands}
use Rattle.wcv_syntax.specs.declared.component_type.VariantCase.{VariantCase}
use Rattle.wcv_types.specs.Tree.{Text, Role, here, label}
use Rattle.wcv_types.specs.Unfold.{Slots, option_slot, value_slots, value_parts, defined_slots, field_slots, former_of, handles, parts_in, slot_tree, trees}
use Rattle.wcv_core.specs.declared.primitive.PrimitiveValType.{PrimitiveValType}
use Rattle.wcv_types.specs.declared.shapes.ComponentDefinedType.{ComponentDefinedType}
use Rattle.wcv_types.specs.declared.shapes.ComponentDefinedType.TheVariants as d
use Rattle.wcv_types.specs.declared.shapes.ComponentFuncType.{ComponentFuncType}
use Rattle.wcv_types.specs.declared.shapes.ComponentValType.{ComponentValType}
use Rattle.wcv_types.specs.declared.info.TypeInfo.{TypeInfo}
use Rattle.wcv_lower.specs.Checks.{Checks, if_found, too_many}
use Rattle.wcv_lower.specs.Defined.{former, written_parts, handle_index, made_of, made_checks, content_checks, has_borrow}
use Rattle.wcv_lower.specs.Mapped.{map_parts}
use Rattle.wcv_lower.specs.Trees.{Tree_context, tree_reader}
use Rattle.wcv_lower.specs.Types.{func_parts}
use Rattle.wcv_lower.specs.Values.{option_entry, Written_parts, parts_entries, parts_checks}

-- ## Value types in their roles

abbrev pub written_field : Text × Written_value → Role × Option Written_value
written_field f = (label f.0, Some f.1)

abbrev pub field_part : Text × ComponentValType → Role × Option ComponentValType
field_part f = (label f.0, Some f.1)

abbrev pub written_case : VariantCase → Role × Option Written_value
written_case c = (label c.name, c.ty)

abbrev pub case_part : Text × Option ComponentValType → Role × Option ComponentValType
case_part c = (label c.0, c.1)

abbrev pub written_item : Written_value → Role × Option Written_value
written_item v = (here, Some v)

abbrev pub item_part : ComponentValType → Role × Option ComponentValType
item_part v = (here, Some v)

-- ## What was looked up

-- a value type that may be left out
pub record IsOption (a : Arena) (c : Tree_context) (w : Option Written_value) (v : Option ComponentValType) : Type 0 where
  pub stands : SlotStands a (option_slot v)
  pub tree : option_entry c w ≡ Some (slot_tree (trees a.nodes) (option_slot v))

-- what stands in slots is in the arena, and their trees are those of the value types
pub record AreSlots (a : Arena) (c : Tree_context) (ps : Written_parts) (ss : Slots) : Type 0 where
  pub stands : All (Stands a) (parts_in ss)
  pub trees : parts_entries c ps ≡ Some (map_parts (slot_tree (trees a.nodes)) ss)

-- the node of a type that is made of value types
pub record IsValueShape (a : Arena) (c : Tree_context) (x : Defined_form) (s : ComponentDefinedType) : Type 0 where
  pub formed : former_of s ≡ former x
  pub values : handles s ≡ false
  pub slots : AreSlots a c (written_parts x) (value_slots (value_parts s))

-- the node of a defined type
pub record IsShape (a : Arena) (c : Tree_context) (x : Defined_form) (s : ComponentDefinedType) : Type 0 where
  pub formed : former_of s ≡ former x
  pub stands : All (Stands a) (parts_in (defined_slots s))
  pub parts : made_of c (handle_index x) (written_parts x) ≡ Some (map_parts (slot_tree (trees a.nodes)) (defined_slots s))

pub record IsFuncShape (a : Arena) (c : Tree_context) (f : Func_form) (s : ComponentFuncType) : Type 0 where
  pub async : s.async_ ≡ f.async
  pub slots : AreSlots a c (func_parts f) (field_slots s.params.items ((here, option_slot s.result) ∷ []))

-- the causes that are found where what it is made of is looked up
abbrev pub resolve_checks : WasmFeatures → Tree_context → Defined_form → Checks
resolve_checks fs c x = made_checks fs c (handle_index x) (written_parts x) ++ content_checks c x

-- the primitive that is named
abbrev pub shape_primitive : ComponentDefinedType → Option PrimitiveValType
shape_primitive (d.Primitive p) = Some p
shape_primitive s = None

-- a defined type without a list in it
abbrev pub holds_no_list : Written_defined → Bool
holds_no_list (written.Record fs) = false
holds_no_list (written.Variant cs) = false
holds_no_list (written.Tuple vs) = false
holds_no_list (written.Flags ns) = false
holds_no_list (written.Enum ns) = false
holds_no_list x = true

-- so of a function type
abbrev pub func_resolve_checks : WasmFeatures → Tree_context → Func_form → Checks
func_resolve_checks fs c f = parts_checks fs c (func_parts f) ++ if_found (has_borrow tree_reader) (option_entry c f.result)

-- the limits of a type's size, over what the arena keeps
abbrev pub kept_checks : TypeInfo → ℕ → ℕ → Checks
kept_checks info size32 size64 = too_many max_size info.size ++ (too_many max_depth info.depth ++ (too_many max_abi_size size32 ++ too_many max_abi_size size64))
