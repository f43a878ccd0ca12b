-- Imports and exports.
use Rattle.std.specs.Prelude.{Bool, ◌&&◌, not, Option, is_some, if◌then◌else◌, codes}
use Rattle.serde_json.specs.Data.{Data, string, object, Members, no_members, member}
use Rattle.wcv_syntax.specs.declared.component_type.ComponentTypeRef.{ComponentTypeRef}
use Rattle.wcv_syntax.specs.declared.component_type.ComponentTypeRef.TheVariants as ref
use Rattle.wcv_syntax.specs.declared.component_type.TypeBounds.{TypeBounds}
use Rattle.wcv_syntax.specs.declared.component_type.TypeBounds.TheVariants as bounds
use Rattle.wcv_syntax.specs.declared.instance.ComponentExternalKind.{ComponentExternalKind}
use Rattle.wcv_syntax.specs.declared.name.ComponentExport.{ComponentExport}
use Rattle.wcv_syntax.specs.declared.name.ComponentExternName.{ComponentExternName}
use Rattle.wcv_syntax.specs.declared.name.ComponentImport.{ComponentImport}
use Rattle.wcv_write.specs.Indices.{Indexing}
use Rattle.wcv_write.specs.Json.{under, with_optional}
use Rattle.wcv_write.specs.Sorts.{sort_name, sort_space}
use Rattle.wcv_write.specs.Values.{value_data}
use Rattle.wcv_write.specs.declared.indices.Space.TheVariants as space

-- {"eq": index} or "sub-resource"
abbrev pub bounds_data : Indexing → TypeBounds → Data
bounds_data ix (bounds.Eq k) = under (codes "eq") (ix space.Ty k)
bounds_data ix bounds.SubResource = string (codes "sub-resource")

-- a written type: {"module": index}, {"func": index}, {"value": value type}, one of these, {"instance": index} or {"component": index}
unfoldable pub ref_data : Indexing → ComponentTypeRef → Data
ref_data ix (ref.Module k) = under (codes "module") (ix space.CoreType k)
ref_data ix (ref.Func k) = under (codes "func") (ix space.Ty k)
ref_data ix (ref.Value v) = under (codes "value") (value_data ix v)
ref_data ix (ref.Ty b) = bounds_data ix b
ref_data ix (ref.Instance k) = under (codes "instance") (ix space.Ty k)
ref_data ix (ref.Component k) = under (codes "component") (ix space.Ty k)

-- nothing stands beside the name
abbrev pub is_plain : ComponentExternName → Bool
is_plain n = not (is_some n.implements) && (not (is_some n.version_suffix) && not (is_some n.external_id))

-- a text, or {"id": text, "implements": text, "name": text, "suffix": text}, all but the name absent or there
unfoldable pub name_data : ComponentExternName → Data
name_data n =
    if is_plain n then string n.name
    else object (with_optional (codes "id") string n.external_id (with_optional (codes "implements") string n.implements
    (member (codes "name") (string n.name) (with_optional (codes "suffix") string n.version_suffix no_members))))

-- {"name": name, "type": written type}
abbrev pub named_ref_data : Indexing → ComponentExternName → ComponentTypeRef → Data
named_ref_data ix name ty = object (member (codes "name") (name_data name) (member (codes "type") (ref_data ix ty) no_members))

abbrev pub import_data : Indexing → ComponentImport → Data
import_data ix i = named_ref_data ix i.name i.ty

-- the last members of an export
abbrev pub sort_members : Indexing → ComponentExternalKind → Option ComponentTypeRef → Members
sort_members ix sort ty = member (codes "sort") (string (sort_name sort)) (with_optional (codes "type") (ref_data ix) ty no_members)

-- {"index": index, "name": name, "sort": sort, "type": written type}, the last absent or there
unfoldable pub export_data : Indexing → ComponentExport → Data
export_data ix e = object (member (codes "index") (ix (sort_space e.kind) e.index) (member (codes "name") (name_data e.name) (sort_members ix e.kind e.ty)))
