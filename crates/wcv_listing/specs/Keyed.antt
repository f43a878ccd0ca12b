-- Forms by the key that names them.
use Rattle.std.specs.Prelude.{ℕ, List, [], ◌∷◌, if◌then◌else◌, Option, Some, None, option_map, option_and_then, codes}
use Rattle.std.specs.Str.{bytes_eq}
use Rattle.json.specs.Json as json
use Rattle.json.specs.Find.{as_object}
use Rattle.serde_json.specs.Data.{Data}
use Rattle.serde_json.specs.Find.{get}
use Rattle.wcv_syntax.specs.declared.component_type.ComponentTypeRef.{ComponentTypeRef}
use Rattle.wcv_syntax.specs.declared.component_type.ComponentTypeRef.TheVariants as ref
use Rattle.wcv_syntax.specs.declared.component_type.TypeBounds.TheVariants as bounds
use Rattle.wcv_syntax.specs.declared.instance.ComponentAlias.{ComponentAlias}
use Rattle.wcv_syntax.specs.Model.{Type_form, func_type, defined_type, component_type, instance_type, Decl, core_type_decl, type_decl, alias_decl, import_decl, Module_decl, module_type, module_import, Core_type_form, core_rec, core_module_type, Entry, Form, core_type_item, core_module_item, core_instance_item, type_item, import_item, export_item, instance_item, alias_item, canon_item}
use Rattle.wcv_syntax.specs.View.{decls_of}
use Rattle.wcv_listing.specs.Aliases.{alias_of, export_alias_of, core_export_alias_of, outer_alias_of}
use Rattle.wcv_listing.specs.Canons.{canon_of}
use Rattle.wcv_listing.specs.CoreForms.{core_type_of, core_module_of, core_instance_of, rec_of, core_import_of, core_export_of, core_outer_of, type_decl_of}
use Rattle.wcv_listing.specs.Defined.{defined_of}
use Rattle.wcv_listing.specs.Fields.{both, named, has_only, natural_in, index, array_of}
use Rattle.wcv_listing.specs.Forms.{import_of, export_of, instance_of, start_of, component_of, func_of, resource_of, type_of, declared_export, component_decl_of, instance_decl_of}
use Rattle.wcv_listing.specs.Parsed.{data_of}
use Rattle.wcv_listing.specs.Values.{value_of}

-- names of forms, and what is read of what stands under each
abbrev pub Rows : Type 0 → Type 0
Rows Y = List (List ℕ × (Option Data → Option Y))

-- what stands under a name, by the row of that name
abbrev pub under : {Y : Type 0} → Rows Y → List ℕ → Data → Option Y
under [] name d = None
under (row ∷ rows) name d = if bytes_eq name row.0 then row.1 (Some d) else under rows name d

-- ## Items

-- the first key that is not `at`, as the text has them
abbrev pub beside_at : json.Members → Option (List ℕ)
beside_at json.no_members = None
beside_at (json.member k j ms) = if bytes_eq k (codes "at") then beside_at ms else Some k

abbrev pub beside_at_in : Option json.Members → Option (List ℕ)
beside_at_in None = None
beside_at_in (Some ms) = beside_at ms

abbrev pub name_beside_at : json.Json → Option (List ℕ)
name_beside_at j = beside_at_in (as_object j)

-- {"at": offset, NAME: body} and nothing else
abbrev pub parts_under : List ℕ → Data → Option (ℕ × (List ℕ × Data))
parts_under name d = if has_only (codes "at" ∷ name ∷ []) d then both (λ (offset : ℕ) (body : Data). (offset, (name, body))) (natural_in (codes "at") d) (get name d) else None

-- the offset, the name and the body of an item
abbrev pub parts_of : json.Json → Option (ℕ × (List ℕ × Data))
parts_of j = option_and_then (λ name. parts_under name (data_of j)) (name_beside_at j)

-- what stands under the name of a form, by the row of that name
abbrev pub form_under : List (List ℕ × (Data → Option Form)) → List ℕ → Data → Option Form
form_under rows name d = option_and_then (λ read. read d) (named rows name)

-- the forms of core items and of canonical functions
abbrev pub core_form_rows : List (List ℕ × (Data → Option Form))
core_form_rows =
    (codes "core-type", λ d. option_map core_type_item (core_type_of d))
    ∷ (codes "core-module", λ d. option_map core_module_item (core_module_of d))
    ∷ (codes "core-instance", λ d. option_map core_instance_item (core_instance_of d))
    ∷ (codes "canon", λ d. option_map canon_item (canon_of d)) ∷ []

-- the forms of items without items in them
abbrev pub plain_form_rows : List (List ℕ × (Data → Option Form))
plain_form_rows =
    (codes "type", λ d. option_map type_item (type_of d))
    ∷ (codes "import", λ d. option_map import_item (import_of d))
    ∷ (codes "export", λ d. option_map export_item (export_of d))
    ∷ (codes "instance", λ d. option_map instance_item (instance_of d))
    ∷ (codes "alias", λ d. option_map alias_item (alias_of d))
    ∷ (codes "start", start_of) ∷ core_form_rows

-- the forms of items; `inner` says which items may stand in one
abbrev pub form_rows : (Data → Option Entry) → List (List ℕ × (Data → Option Form))
form_rows inner = (codes "component", component_of inner) ∷ plain_form_rows

-- ## Bodies

-- an alias
abbrev pub alias_rows : Rows ComponentAlias
alias_rows =
    (codes "export", λ o. option_and_then export_alias_of o)
    ∷ (codes "core-export", λ o. option_and_then core_export_alias_of o)
    ∷ (codes "outer", λ o. option_and_then outer_alias_of o) ∷ []

-- a written type that names another
abbrev pub ref_rows : Rows ComponentTypeRef
ref_rows =
    (codes "module", λ o. option_map ref.Module (option_and_then index o))
    ∷ (codes "func", λ o. option_map ref.Func (option_and_then index o))
    ∷ (codes "value", λ o. option_map ref.Value (option_and_then value_of o))
    ∷ (codes "eq", λ o. option_map (λ k. ref.Ty (bounds.Eq k)) (option_and_then index o))
    ∷ (codes "instance", λ o. option_map ref.Instance (option_and_then index o))
    ∷ (codes "component", λ o. option_map ref.Component (option_and_then index o)) ∷ []

-- a core type
abbrev pub core_type_rows : Rows Core_type_form
core_type_rows =
    (codes "rec", λ o. option_map core_rec (option_and_then rec_of o)) ∷ (codes "module", λ o. option_map core_module_type (option_and_then (array_of type_decl_of) o)) ∷ []

-- a declaration of a core module
abbrev pub module_decl_rows : Rows Module_decl
module_decl_rows =
    (codes "type", λ o. option_map module_type (option_and_then rec_of o))
    ∷ (codes "import", λ o. option_map module_import (option_and_then core_import_of o))
    ∷ (codes "export", λ o. option_and_then core_export_of o) ∷ []

-- a declaration of the type of a core module
abbrev pub type_decl_rows : Rows Module_decl
type_decl_rows = (codes "alias", λ o. option_and_then core_outer_of o) ∷ module_decl_rows

-- a declared export or alias
abbrev pub plain_decl_rows : Rows Decl
plain_decl_rows =
    (codes "export", λ o. option_map declared_export (option_and_then import_of o)) ∷ (codes "alias", λ o. option_map alias_decl (option_and_then alias_of o)) ∷ []

-- a declaration of an instance type
abbrev pub instance_decl_rows : (Data → Option Type_form) → Rows Decl
instance_decl_rows inner =
    (codes "core-type", λ o. option_map core_type_decl (option_and_then core_type_of o)) ∷ (codes "type", λ o. option_map type_decl (option_and_then inner o)) ∷ plain_decl_rows

-- a declaration of a component type
abbrev pub component_decl_rows : (Data → Option Type_form) → Rows Decl
component_decl_rows inner = (codes "import", λ o. option_map import_decl (option_and_then import_of o)) ∷ instance_decl_rows inner

-- a type without declarations
abbrev pub plain_type_rows : Rows Type_form
plain_type_rows =
    (codes "func", λ o. option_map func_type (option_and_then func_of o))
    ∷ (codes "defined", λ o. option_map defined_type (option_and_then defined_of o))
    ∷ (codes "resource", λ o. option_and_then resource_of o) ∷ []

-- a type
abbrev pub type_rows : (Data → Option Type_form) → Rows Type_form
type_rows inner =
    (codes "component", λ o. option_map (λ ds. component_type (decls_of ds)) (option_and_then (array_of (component_decl_of inner)) o))
    ∷ (codes "instance", λ o. option_map (λ ds. instance_type (decls_of ds)) (option_and_then (array_of (instance_decl_of inner)) o)) ∷ plain_type_rows
