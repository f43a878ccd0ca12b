-- How it is told whether a defined type is named.
use Rattle.std.specs.Prelude.{List, Bool, true, false, Option, Some, None}
use Rattle.wcv_types.specs.Sets.{with_type}
use Rattle.wcv_types.specs.declared.ids.AliasableResourceId.{AliasableResourceId}
use Rattle.wcv_types.specs.declared.ids.ComponentAnyTypeId.{ComponentAnyTypeId}
use Rattle.wcv_types.specs.declared.ids.ComponentDefinedTypeId.{ComponentDefinedTypeId}
use Rattle.wcv_types.specs.declared.shapes.ComponentDefinedType.{ComponentDefinedType}
use Rattle.wcv_types.specs.declared.shapes.ComponentDefinedType.TheVariants as d
use Rattle.wcv_types.specs.declared.shapes.ComponentEntityType.{ComponentEntityType}
use Rattle.wcv_types.specs.declared.shapes.ComponentEntityType.TheVariants as entity
use Rattle.wcv_types.specs.declared.shapes.ComponentValType.{ComponentValType}
use Rattle.wcv_types.specs.declared.shapes.ComponentValType.TheVariants as v

-- records, variants, flags and enums are named by their own identity
abbrev pub names_itself : ComponentDefinedType → Bool
names_itself (d.Record fs) = true
names_itself (d.Variant cs) = true
names_itself (d.Flags ns) = true
names_itself (d.Enum ns) = true
names_itself s = false

-- the reference of a handle
abbrev pub handle_of : ComponentDefinedType → Option AliasableResourceId
handle_of (d.Own r) = Some r
handle_of (d.Borrow r) = Some r
handle_of s = None

-- the node that a value type is
abbrev pub node_id : Option ComponentValType → Option ComponentDefinedTypeId
node_id None = None
node_id (Some (v.Primitive q)) = None
node_id (Some (v.Ty i)) = Some i

-- the set with what a type entity creates
abbrev pub with_created_type : List ComponentAnyTypeId → ComponentEntityType → List ComponentAnyTypeId
with_created_type ids (entity.Ty c r) = with_type ids c
with_created_type ids x = ids
