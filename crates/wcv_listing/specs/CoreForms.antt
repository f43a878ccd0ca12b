-- Core types, core modules and core instances.
use Rattle.std.specs.Prelude.{ℕ, List, [], ◌∷◌, map, Bool, true, if◌then◌else◌, Option, Some, None, option_map, option_and_then, codes}
use Rattle.serde_json.specs.Data.{Data}
use Rattle.serde_json.specs.Find.{as_array, as_bool, as_str, get}
use Rattle.wcv_core.specs.CoreForm.{CompositeForm, func_form, struct_form, array_form, SubForm, Group}
use Rattle.wcv_core.specs.declared.core_types.FieldType.{FieldType}
use Rattle.wcv_core.specs.declared.core_types.GlobalType.{GlobalType}
use Rattle.wcv_core.specs.declared.core_types.MemoryType.{MemoryType}
use Rattle.wcv_core.specs.declared.core_types.RefType.{RefType}
use Rattle.wcv_core.specs.declared.core_types.StorageType.{StorageType}
use Rattle.wcv_core.specs.declared.core_types.StorageType.TheVariants as storage
use Rattle.wcv_core.specs.declared.core_types.SuperType.{SuperType}
use Rattle.wcv_core.specs.declared.core_types.SuperType.TheVariants as parent
use Rattle.wcv_core.specs.declared.core_types.TableType.{TableType}
use Rattle.wcv_core.specs.declared.core_types.ValType.{ValType}
use Rattle.wcv_syntax.specs.declared.core_section.Export.{Export}
use Rattle.wcv_syntax.specs.declared.core_section.ExternalKind.{ExternalKind}
use Rattle.wcv_syntax.specs.declared.core_section.Import.{Import}
use Rattle.wcv_syntax.specs.declared.core_section.InstantiationArg.{InstantiationArg}
use Rattle.wcv_syntax.specs.declared.core_section.TypeRef.{TypeRef}
use Rattle.wcv_syntax.specs.declared.core_section.TypeRef.TheVariants as ref
use Rattle.wcv_syntax.specs.Model.{Text, Module_decl, module_type, module_import, module_export, module_outer, Core_type_form, core_rec, core_module_type, Core_instance_form, core_instantiate, core_bag}
use Rattle.wcv_listing.specs.Aliases.{core_sort_of}
use Rattle.wcv_listing.specs.Core.{core_value_of, ref_type_of}
use Rattle.wcv_listing.specs.Fields.{both, named, has_only, first_of, only_key, natural, natural_in, index, index_in, pair_of, triple_of, array_of, mark, optional, or_else}

-- ## Core types

-- those of a field alone, by their names
abbrev pub packed_names : List (List ℕ × StorageType)
packed_names = (codes "i8", storage.I8) ∷ (codes "i16", storage.I16) ∷ []

abbrev pub packed_of : Data → Option StorageType
packed_of d = option_and_then (named packed_names) (as_str d)

-- one of these, or a core value type
abbrev pub storage_of : Data → Option StorageType
storage_of d = or_else (packed_of d) (option_map storage.Val (core_value_of d))

-- {"type": type of a field, "mut": Boolean}, the last absent or there
abbrev pub field_of : Data → Option FieldType
field_of d =
    if has_only (codes "type" ∷ codes "mut" ∷ []) d
    then both (λ (s : StorageType) (m : Bool). record { storage = s; mutable = m }) (option_and_then storage_of (get (codes "type") d)) (mark (get (codes "mut") d))
    else None

-- [[core value type, ..], [core value type, ..]], the parameters and the results
abbrev pub core_func_of : Data → Option CompositeForm
core_func_of d = option_and_then (λ p. both func_form (array_of core_value_of p.0) (array_of core_value_of p.1)) (option_and_then pair_of (as_array d))

-- the forms by their names, and what stands under each
abbrev pub composite_forms : List (List ℕ × (Data → Option CompositeForm))
composite_forms =
    (codes "func", core_func_of) ∷ (codes "struct", λ d. option_map struct_form (array_of field_of d)) ∷ (codes "array", λ d. option_map array_form (field_of d)) ∷ []

abbrev pub composite_of : List ℕ → Data → Option CompositeForm
composite_of name d = option_and_then (λ read. read d) (named composite_forms name)

-- whether a type is final, which it is where nothing says so
abbrev pub final_mark : Option Data → Option Bool
final_mark None = Some true
final_mark (Some d) = as_bool d

abbrev pub super_of : Data → Option SuperType
super_of d = option_map parent.Index (index d)

-- {"final": Boolean, "super": index, "shared": Boolean, NAME: body}, all but the last absent or there
abbrev pub sub_under : List ℕ → Data → Option SubForm
sub_under name d =
    if has_only (codes "final" ∷ codes "super" ∷ codes "shared" ∷ name ∷ []) d
    then both (λ (place : Bool × (Option SuperType × Bool)) (inner : CompositeForm). record { is_final = place.0; supertype = place.1.0; shared = place.1.1; inner = inner })
    (both (λ final rest. (final, rest)) (final_mark (get (codes "final") d)) (both (λ above shared. (above, shared)) (optional super_of (get (codes "super") d)) (mark (get (codes "shared") d))))
    (option_and_then (composite_of name) (get name d))
    else None

-- the name is that of a form
abbrev pub sub_of : Data → Option SubForm
sub_of d = option_and_then (λ name. sub_under name d) (first_of (map (λ row. row.0) composite_forms) d)

-- [type, ..]
abbrev pub rec_of : Data → Option Group
rec_of = array_of sub_of

-- ## What is imported and exported

-- {"elem": reference type, "min": number, "max": number, "64": Boolean, "shared": Boolean}, the last three absent or there
abbrev pub table_of : Data → Option TableType
table_of d =
    if has_only (codes "elem" ∷ codes "min" ∷ codes "max" ∷ codes "64" ∷ codes "shared" ∷ []) d
    then both (λ (sizes : RefType × (ℕ × Option ℕ)) (marks : Bool × Bool). record { element_type = sizes.0; initial = sizes.1.0; maximum = sizes.1.1; table64 = marks.0; shared = marks.1 })
    (both (λ element limits. (element, limits)) (option_and_then ref_type_of (get (codes "elem") d)) (both (λ min max. (min, max)) (natural_in (codes "min") d) (optional natural (get (codes "max") d))))
    (both (λ wide shared. (wide, shared)) (mark (get (codes "64") d)) (mark (get (codes "shared") d)))
    else None

-- the exponent of the size of a page
abbrev pub page_of : Option Data → Option ℕ
page_of None = Some 16
page_of (Some d) = index d

-- {"min": number, "max": number, "64": Boolean, "shared": Boolean, "page": number}, all but the first absent or there
abbrev pub memory_of : Data → Option MemoryType
memory_of d =
    if has_only (codes "min" ∷ codes "max" ∷ codes "64" ∷ codes "shared" ∷ codes "page" ∷ []) d
    then both (λ (limits : ℕ × Option ℕ) (rest : Bool × (Bool × ℕ)). record { initial = limits.0; maximum = limits.1; memory64 = rest.0; shared = rest.1.0; page_size_log2 = rest.1.1 })
    (both (λ min max. (min, max)) (natural_in (codes "min") d) (optional natural (get (codes "max") d)))
    (both (λ wide rest. (wide, rest)) (mark (get (codes "64") d)) (both (λ shared page. (shared, page)) (mark (get (codes "shared") d)) (page_of (get (codes "page") d))))
    else None

-- {"type": core value type, "mut": Boolean, "shared": Boolean}, the last two absent or there
abbrev pub global_of : Data → Option GlobalType
global_of d =
    if has_only (codes "type" ∷ codes "mut" ∷ codes "shared" ∷ []) d
    then both (λ (v : ValType) (marks : Bool × Bool). record { content_type = v; mutable = marks.0; shared = marks.1 }) (option_and_then core_value_of (get (codes "type") d))
    (both (λ mutable shared. (mutable, shared)) (mark (get (codes "mut") d)) (mark (get (codes "shared") d)))
    else None

-- the sorts by their names, and what stands under each
abbrev pub entity_forms : List (List ℕ × (Data → Option TypeRef))
entity_forms =
    (codes "func", λ d. option_map ref.Func (index d))
    ∷ (codes "tag", λ d. option_map ref.Tag (index d))
    ∷ (codes "table", λ d. option_map ref.Table (table_of d))
    ∷ (codes "memory", λ d. option_map ref.Memory (memory_of d))
    ∷ (codes "global", λ d. option_map ref.Global (global_of d)) ∷ []

abbrev pub entity_under : List ℕ → Data → Option TypeRef
entity_under name d = option_and_then (λ read. read d) (named entity_forms name)

-- an object whose only key is the name of a sort
abbrev pub entity_of : Data → Option TypeRef
entity_of d = option_and_then (λ name. option_and_then (entity_under name) (get name d)) (only_key (map (λ row. row.0) entity_forms) d)

-- [name of a module, name, what it is]
abbrev pub core_import_of : Data → Option Import
core_import_of d =
    option_and_then (λ t. both (λ (names : Text × Text) (ty : TypeRef). record { «module» = names.0; name = names.1; ty = ty }) (both (λ m n. (m, n)) (as_str t.0) (as_str t.1.0)) (entity_of t.1.1))
    (option_and_then triple_of (as_array d))

-- [name, what it is]
abbrev pub core_export_of : Data → Option Module_decl
core_export_of d = option_and_then (λ p. both module_export (as_str p.0) (entity_of p.1)) (option_and_then pair_of (as_array d))

-- ## Declarations

-- {"type": [type, ..]}, {"import": import} or {"export": export}, in a core module
abbrev pub module_decl_of : Data → Option Module_decl
module_decl_of d =
    if has_only (codes "type" ∷ []) d then option_map module_type (option_and_then rec_of (get (codes "type") d))
    else if has_only (codes "import" ∷ []) d then option_map module_import (option_and_then core_import_of (get (codes "import") d))
    else if has_only (codes "export" ∷ []) d then option_and_then core_export_of (get (codes "export") d)
    else None

-- [count, index]
abbrev pub core_outer_of : Data → Option Module_decl
core_outer_of d = option_and_then (λ p. both module_outer (index p.0) (index p.1)) (option_and_then pair_of (as_array d))

-- one of these or {"alias": outer alias}, in the type of a core module
abbrev pub type_decl_of : Data → Option Module_decl
type_decl_of d = if has_only (codes "alias" ∷ []) d then option_and_then core_outer_of (get (codes "alias") d) else module_decl_of d

-- ## Bodies of items

-- the body of `core-type`: {"rec": [type, ..]} or {"module": [declaration, ..]}
abbrev pub core_type_of : Data → Option Core_type_form
core_type_of d =
    if has_only (codes "rec" ∷ []) d then option_map core_rec (option_and_then rec_of (get (codes "rec") d))
    else if has_only (codes "module" ∷ []) d then option_map core_module_type (option_and_then (array_of type_decl_of) (get (codes "module") d))
    else None

-- the body of `core-module`: [declaration, ..]
abbrev pub core_module_of : Data → Option (List Module_decl)
core_module_of = array_of module_decl_of

-- ## Core instances

-- [name, index]
abbrev pub core_arg_of : Data → Option InstantiationArg
core_arg_of d = option_and_then (λ p. both (λ (name : Text) (k : ℕ). record { name = name; index = k }) (as_str p.0) (index p.1)) (option_and_then pair_of (as_array d))

-- [name, core sort, index]
abbrev pub core_listed_of : Data → Option Export
core_listed_of d =
    option_and_then (λ t. both (λ (name : Text) (item : ExternalKind × ℕ). record { name = name; kind = item.0; index = item.1 }) (as_str t.0) (both (λ kind k. (kind, k)) (core_sort_of t.1.0) (index t.1.1)))
    (option_and_then triple_of (as_array d))

-- the body of `core-instance`: {"module": index, "args": [argument, ..]} or {"exports": [item, ..]}
abbrev pub core_instance_of : Data → Option Core_instance_form
core_instance_of d =
    if has_only (codes "module" ∷ codes "args" ∷ []) d then both core_instantiate (index_in (codes "module") d) (option_and_then (array_of core_arg_of) (get (codes "args") d))
    else if has_only (codes "exports" ∷ []) d then option_map core_bag (option_and_then (array_of core_listed_of) (get (codes "exports") d))
    else None
