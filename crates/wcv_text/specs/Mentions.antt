-- What lines say, by ids.
use Rattle.std.specs.Prelude.{ℕ, zero, suc, [], ◌++◌, codes, Bool, cond, Option, Some, None}
use Rattle.wcv_core.specs.Names.{number}
use Rattle.wcv_types.specs.Entities.{any_part, entry_name}
use Rattle.wcv_types.specs.Identity.{of_node}
use Rattle.wcv_types.specs.Quoting.{quoted}
use Rattle.wcv_types.specs.Standing.{identity_of}
use Rattle.wcv_types.specs.Text.{Written, primitive_name, node_number, name_text}
use Rattle.wcv_types.specs.Tree.{Text}
use Rattle.wcv_types.specs.declared.ids.Part.TheVariants as part
use Rattle.wcv_types.specs.declared.item_map.ComponentItem.{ComponentItem}
use Rattle.wcv_types.specs.declared.shapes.ComponentEntityType.{ComponentEntityType}
use Rattle.wcv_types.specs.declared.shapes.ComponentEntityType.TheVariants as entity
use Rattle.wcv_types.specs.declared.shapes.ComponentValType.{ComponentValType}
use Rattle.wcv_types.specs.declared.shapes.ComponentValType.TheVariants as v

-- what stands before the item at that index of a list
abbrev pub separator : Text → ℕ → Text
separator between zero = []
separator between (suc i) = between

-- what stands before the first of a list, where something stands before the list
abbrev pub comma : Bool → Text
comma behind = cond behind (codes ", ") []

-- a value type
abbrev pub value_text : Written → ComponentValType → Text
value_text w (v.Primitive p) = primitive_name p
value_text w (v.Ty i) = node_number w (of_node (number i.index))

-- a value type that may be left out
abbrev pub option_text : Written → Option ComponentValType → Text
option_text w None = codes "-"
option_text w (Some t) = value_text w t

-- what an entry is
abbrev pub entity_said : Written → ComponentEntityType → Text
entity_said w (entity.Module i) = codes "module " ++ node_number w (identity_of (part.Module i))
entity_said w (entity.Func i) = codes "func " ++ node_number w (identity_of (part.Func i))
entity_said w (entity.Value t) = codes "value " ++ value_text w t
entity_said w (entity.Ty c r) = codes "type " ++ node_number w (identity_of (any_part c)) ++ codes " of " ++ node_number w (identity_of (any_part r))
entity_said w (entity.Instance i) = codes "instance " ++ node_number w (identity_of (part.Instance i))
entity_said w (entity.Component i) = codes "component " ++ node_number w (identity_of (part.Component i))

-- the line of an entry behind a word
abbrev pub entry_said : Text → Text × ComponentItem → Written → Text
entry_said word e w = word ++ quoted e.0 ++ codes " " ++ entity_said w e.1.ty ++ name_text (entry_name e) ++ codes "\n"
