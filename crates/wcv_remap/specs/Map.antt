-- What contracts see of a map, and where it sends types.
use Rattle.std.specs.Prelude.{List, Bool, true, false, ◌&&◌, eqb, Option, Some, None, option_map}
use Rattle.std.specs.List.{list_any}
use Rattle.std.specs.Map.{lookup}
use Rattle.wcv_core.specs.Names.{Name, number}
use Rattle.wcv_types.specs.Sets.{same_resource}
use Rattle.wcv_types.specs.Unfold.{any_part}
use Rattle.wcv_types.specs.declared.ids.AliasableResourceId.{AliasableResourceId}
use Rattle.wcv_types.specs.declared.ids.ComponentAnyTypeId.{ComponentAnyTypeId}
use Rattle.wcv_types.specs.declared.ids.Part.{Part}
use Rattle.wcv_types.specs.declared.ids.Part.TheVariants as p
use Rattle.wcv_types.specs.declared.ids.ResourceId.{ResourceId}
use Rattle.wcv_remap.specs.declared.map.Kept.{Kept}

-- where a type goes, and whether that was given and not added by a rebuilding
pub record Sent : Type 0 where
  pub to : Part
  pub given : Bool

-- the resources that are replaced, and the types that are, or were visited, in the order in which they came
pub record Map : Type 0 where
  pub resources : List (ResourceId × ResourceId)
  pub types : List (Part × Sent)

-- some type was given
abbrev pub gives_types : Map → Bool
gives_types m = list_any (λ (e : Part × Sent). e.1.given) m.types

-- an entry, by parts
abbrev pub sent : ComponentAnyTypeId × Kept → Part × Sent
sent e = (any_part e.0, record { to = any_part e.1.to; given = e.1.given })

-- two ids are one
abbrev pub same_part : Part → Part → Bool
same_part (p.Resource q) (p.Resource r) = eqb q.resource.index r.resource.index && eqb q.stamp r.stamp
same_part (p.Defined i) (p.Defined j) = eqb i.index j.index
same_part (p.Func i) (p.Func j) = eqb i.index j.index
same_part (p.Instance i) (p.Instance j) = eqb i.index j.index
same_part (p.Component i) (p.Component j) = eqb i.index j.index
same_part (p.Module i) (p.Module j) = eqb i.index j.index
same_part (p.CoreInstance i) (p.CoreInstance j) = eqb i.index j.index
same_part (p.Core i) (p.Core j) = eqb i.index j.index
same_part _ _ = false

-- a node that a map may send elsewhere, and that is made again where something in it goes elsewhere
abbrev pub is_node : Part → Bool
is_node (p.Defined i) = true
is_node (p.Func i) = true
is_node (p.Instance i) = true
is_node (p.Component i) = true
is_node _ = false

-- what a map may send elsewhere: what an index space of types holds
abbrev pub is_type : Part → Bool
is_type (p.Resource r) = true
is_type q = is_node q

-- ## Where things go

abbrev pub entry : Map → Part → Option Sent
entry m q = lookup (same_part q) m.types

abbrev pub sent_to : Map → Part → Option Part
sent_to m q = option_map (λ s. s.to) (entry m q)

abbrev pub resource_to : Map → ResourceId → Option ResourceId
resource_to m r = lookup (same_resource r) m.resources

-- what is there, or else the other
abbrev pub or_else : {X : Type 0} → Option X → X → X
or_else None x = x
or_else (Some y) x = y

-- a reference keeps its stamp
abbrev pub reference_to : Map → AliasableResourceId → AliasableResourceId
reference_to m r = record { resource = or_else (resource_to m r.resource) r.resource; stamp = r.stamp }

-- where a map sends a type that need not be looked at. A core module, a core instance and a core type mention no resource, and stay
abbrev pub goes_to : Map → Part → Option Part
goes_to m (p.Resource r) = Some (or_else (sent_to m (p.Resource r)) (p.Resource (reference_to m r)))
goes_to m (p.Module i) = Some (p.Module i)
goes_to m (p.CoreInstance i) = Some (p.CoreInstance i)
goes_to m (p.Core i) = Some (p.Core i)
goes_to m q = sent_to m q

-- where it sends resources, by their names
abbrev pub resources_by : Map → Name → Option Name
resources_by m (number k) = option_map (λ (q : ResourceId). number q.index) (resource_to m (record { index = k }))
resources_by m _ = None
