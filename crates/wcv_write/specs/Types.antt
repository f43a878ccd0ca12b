-- Types. What is declared in a type takes numbers, and no names of the items around.
use Rattle.std.specs.Prelude.{ℕ, Option, codes}
use Rattle.serde_json.specs.Data.{Data, array, object, Items, no_items, item, no_members, member}
use Rattle.wcv_core.specs.declared.core_types.ValType.{ValType}
use Rattle.wcv_syntax.specs.Model.{Func_form, Type_form, defined_type, func_type, component_type, instance_type, resource_type, Decl, core_type_decl, type_decl, alias_decl, export_decl, import_decl, Decls, no_decls, declare}
use Rattle.wcv_write.specs.Core.{core_value_data}
use Rattle.wcv_write.specs.CoreForms.{core_type_data}
use Rattle.wcv_write.specs.Defined.{defined_data}
use Rattle.wcv_write.specs.Externs.{named_ref_data, import_data}
use Rattle.wcv_write.specs.Indices.{Indexing, numbers}
use Rattle.wcv_write.specs.Json.{list_data, under, with_mark, with_optional}
use Rattle.wcv_write.specs.Sorts.{alias_data}
use Rattle.wcv_write.specs.Values.{value_data, param_data}
use Rattle.wcv_write.specs.declared.indices.Space.TheVariants as space

-- {"async": Boolean, "params": [[name, value type], ..], "result": value type}
unfoldable pub func_data : Indexing → Func_form → Data
func_data ix f =
    object (with_mark (codes "async") f.async (member (codes "params") (list_data (param_data ix) f.params) (with_optional (codes "result") (value_data ix) f.result no_members)))

-- {"dtor": index, "rep": core value type}, the first absent or there
unfoldable pub resource_data : Indexing → ValType → Option ℕ → Data
resource_data ix rep dtor = object (with_optional (codes "dtor") (ix space.CoreFunc) dtor (member (codes "rep") (core_value_data rep) no_members))

abbrev mutual
  -- {FORM: body}
  pub type_data : Indexing → Type_form → Data
  type_data ix (defined_type d) = under (codes "defined") (defined_data ix d)
  type_data ix (func_type f) = under (codes "func") (func_data ix f)
  type_data ix (component_type ds) = under (codes "component") (array (decl_items ds))
  type_data ix (instance_type ds) = under (codes "instance") (array (decl_items ds))
  type_data ix (resource_type rep dtor) = under (codes "resource") (resource_data ix rep dtor)

  pub decl_data : Decl → Data
  decl_data (core_type_decl t) = under (codes "core-type") (core_type_data t)
  decl_data (type_decl t) = under (codes "type") (type_data numbers t)
  decl_data (alias_decl a) = under (codes "alias") (alias_data numbers a)
  decl_data (export_decl name ty) = under (codes "export") (named_ref_data numbers name ty)
  decl_data (import_decl i) = under (codes "import") (import_data numbers i)

  pub decl_items : Decls → Items
  decl_items no_decls = no_items
  decl_items (declare d ds) = item (decl_data d) (decl_items ds)
