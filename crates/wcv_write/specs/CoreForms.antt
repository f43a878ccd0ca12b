-- Core types, core modules and core instances. An index among core types is always a number.
use Rattle.std.specs.Prelude.{List, Bool, false, if◌then◌else◌, codes}
use Rattle.serde_json.specs.Data.{Data, null, boolean, string, object, Members, no_members, member}
use Rattle.wcv_core.specs.CoreForm.{CompositeForm, func_form, struct_form, array_form, SubForm, Group}
use Rattle.wcv_core.specs.declared.core_types.FieldType.{FieldType}
use Rattle.wcv_core.specs.declared.core_types.StorageType.{StorageType}
use Rattle.wcv_core.specs.declared.core_types.StorageType.TheVariants as storage
use Rattle.wcv_core.specs.declared.core_types.SuperType.{SuperType}
use Rattle.wcv_core.specs.declared.core_types.SuperType.TheVariants as parent
use Rattle.wcv_core.specs.declared.core_types.ValType.{ValType}
use Rattle.wcv_syntax.specs.Model.{Text, Module_decl, module_type, module_import, module_export, module_outer, Core_type_form, core_rec, core_module_type, Core_instance_form, core_instantiate, core_bag}
use Rattle.wcv_syntax.specs.declared.core_section.Export.{Export}
use Rattle.wcv_syntax.specs.declared.core_section.Import.{Import}
use Rattle.wcv_syntax.specs.declared.core_section.InstantiationArg.{InstantiationArg}
use Rattle.wcv_syntax.specs.declared.core_section.TypeRef.{TypeRef}
use Rattle.wcv_write.specs.Core.{core_value_data}
use Rattle.wcv_write.specs.CoreItems.{entity_data}
use Rattle.wcv_write.specs.Indices.{Indexing}
use Rattle.wcv_write.specs.Json.{count, list_data, pair, triple, under, with_mark, with_optional}
use Rattle.wcv_write.specs.Sorts.{core_sort_name, core_sort_space}
use Rattle.wcv_write.specs.declared.indices.Space.TheVariants as space

-- ## Core types

unfoldable pub storage_data : StorageType → Data
storage_data storage.I8 = string (codes "i8")
storage_data storage.I16 = string (codes "i16")
storage_data (storage.Val v) = core_value_data v

-- {"mut": Boolean, "type": type of a field}
unfoldable pub field_data : FieldType → Data
field_data f = object (with_mark (codes "mut") f.mutable (member (codes "type") (storage_data f.storage) no_members))

-- [[core value type, ..], [core value type, ..]], the parameters and the results
unfoldable pub core_func_data : List ValType → List ValType → Data
core_func_data params results = pair (list_data core_value_data params) (list_data core_value_data results)

-- whether a type is final, unless it is, before others
abbrev pub with_final : Bool → Members → Members
with_final is_final ms = if is_final then ms else member (codes "final") (boolean false) ms

-- A supertype by its index. One by its id is that of no listing.
abbrev pub super_data : SuperType → Data
super_data (parent.Index k) = count k
super_data (parent.Id t) = null

-- the last member of a type
abbrev pub super_member : SubForm → Members
super_member s = with_optional (codes "super") super_data s.supertype no_members

-- those that stand behind the form of an array
abbrev pub last_members : SubForm → Members
last_members s = with_final s.is_final (with_mark (codes "shared") s.shared (super_member s))

-- the form, between the other members
abbrev pub sub_members : CompositeForm → SubForm → Members
sub_members (func_form params results) s =
    with_final s.is_final (member (codes "func") (core_func_data params results) (with_mark (codes "shared") s.shared (super_member s)))
sub_members (struct_form fields) s =
    with_final s.is_final (with_mark (codes "shared") s.shared (member (codes "struct") (list_data field_data fields) (super_member s)))
sub_members (array_form field) s = member (codes "array") (field_data field) (last_members s)

-- {"final": Boolean, FORM: body, "shared": Boolean, "super": index}
unfoldable pub sub_data : SubForm → Data
sub_data s = object (sub_members s.inner s)

-- [type, ..]
abbrev pub group_data : Group → Data
group_data = list_data sub_data

-- ## Declarations

-- [name of a module, name, what it is]
abbrev pub core_import_data : Import → Data
core_import_data i = triple (string i.«module») (string i.name) (entity_data i.ty)

-- [name, what it is]
abbrev pub core_export_data : Text → TypeRef → Data
core_export_data name ty = pair (string name) (entity_data ty)

-- an outer alias counts from the declaration outwards
unfoldable pub module_decl_data : Module_decl → Data
module_decl_data (module_type g) = under (codes "type") (group_data g)
module_decl_data (module_import i) = under (codes "import") (core_import_data i)
module_decl_data (module_export name ty) = under (codes "export") (core_export_data name ty)
module_decl_data (module_outer steps k) = under (codes "alias") (pair (count steps) (count k))

-- ## Bodies of items

-- {"rec": [type, ..]} or {"module": [declaration, ..]}
unfoldable pub core_type_data : Core_type_form → Data
core_type_data (core_rec g) = under (codes "rec") (group_data g)
core_type_data (core_module_type ds) = under (codes "module") (list_data module_decl_data ds)

-- [declaration, ..]
abbrev pub core_module_data : List Module_decl → Data
core_module_data = list_data module_decl_data

-- [name, index]
abbrev pub core_arg_data : Indexing → InstantiationArg → Data
core_arg_data ix a = pair (string a.name) (ix space.CoreInstance a.index)

-- [name, core sort, index]
abbrev pub core_listed_data : Indexing → Export → Data
core_listed_data ix e = triple (string e.name) (string (core_sort_name e.kind)) (ix (core_sort_space e.kind) e.index)

-- {"args": [argument, ..], "module": index} or {"exports": [item, ..]}
unfoldable pub core_instance_data : Indexing → Core_instance_form → Data
core_instance_data ix (core_instantiate m args) = object (member (codes "args") (list_data (core_arg_data ix) args) (member (codes "module") (ix space.CoreModule m) no_members))
core_instance_data ix (core_bag es) = under (codes "exports") (list_data (core_listed_data ix) es)
