-- Items.
use Rattle.std.specs.Prelude.{ℕ, List, codes}
use Rattle.serde_json.specs.Data.{Data, array, object, no_members, member}
use Rattle.serde_json.specs.Data as json
use Rattle.wcv_syntax.specs.Model.{Instance_form, instantiate, bag, Form, core_type_item, core_module_item, core_instance_item, type_item, import_item, export_item, component_item, instance_item, alias_item, start_item, canon_item, Items, no_items, next_item, Entry}
use Rattle.wcv_syntax.specs.declared.instance.ComponentInstantiationArg.{ComponentInstantiationArg}
use Rattle.wcv_write.specs.Canons.{canon_data}
use Rattle.wcv_write.specs.CoreForms.{core_type_data, core_module_data, core_instance_data}
use Rattle.wcv_write.specs.Externs.{import_data, export_data}
use Rattle.wcv_write.specs.Indices.{Indexing}
use Rattle.wcv_write.specs.Json.{count, list_data, triple, under}
use Rattle.wcv_write.specs.Sorts.{sort_name, sort_space, alias_data}
use Rattle.wcv_write.specs.Types.{type_data}
use Rattle.wcv_write.specs.declared.indices.Space.TheVariants as space

-- [name, sort, index]
abbrev pub arg_data : Indexing → ComponentInstantiationArg → Data
arg_data ix a = triple (json.string a.name) (json.string (sort_name a.kind)) (ix (sort_space a.kind) a.index)

-- {"args": [argument, ..], "component": index} or {"exports": [export, ..]}
unfoldable pub instance_data : Indexing → Instance_form → Data
instance_data ix (instantiate c args) = object (member (codes "args") (list_data (arg_data ix) args) (member (codes "component") (ix space.Component c) no_members))
instance_data ix (bag es) = under (codes "exports") (list_data (export_data ix) es)

-- {"args": [index, ..], "func": index, "results": count}
unfoldable pub start_data : Indexing → ℕ → List ℕ → ℕ → Data
start_data ix f args results =
    object (member (codes "args") (list_data (ix space.Value) args) (member (codes "func") (ix space.Func f) (member (codes "results") (count results) no_members)))

-- the offset, and a body under a key behind it
abbrev pub at_and : ℕ → List ℕ → Data → Data
at_and offset key body = object (member (codes "at") (count offset) (member key body no_members))

-- a body under a key, and the offset behind it
abbrev pub and_at : ℕ → List ℕ → Data → Data
and_at offset key body = object (member key body (member (codes "at") (count offset) no_members))

-- {"end": offset, "items": [item, ..]}
abbrev pub component_data : Data → ℕ → Data
component_data items end = object (member (codes "end") (count end) (member (codes "items") items no_members))

abbrev mutual
  -- {"at": offset, FORM: body}
  pub item_data : Indexing → ℕ → Form → Data
  item_data ix offset (core_type_item t) = at_and offset (codes "core-type") (core_type_data t)
  item_data ix offset (core_module_item ds) = at_and offset (codes "core-module") (core_module_data ds)
  item_data ix offset (core_instance_item i) = at_and offset (codes "core-instance") (core_instance_data ix i)
  item_data ix offset (type_item t) = at_and offset (codes "type") (type_data ix t)
  item_data ix offset (import_item i) = at_and offset (codes "import") (import_data ix i)
  item_data ix offset (export_item e) = at_and offset (codes "export") (export_data ix e)
  item_data ix offset (component_item is end) = at_and offset (codes "component") (component_data (array (item_list ix is)) end)
  item_data ix offset (instance_item i) = at_and offset (codes "instance") (instance_data ix i)
  item_data ix offset (alias_item a) = and_at offset (codes "alias") (alias_data ix a)
  item_data ix offset (start_item f args results) = at_and offset (codes "start") (start_data ix f args results)
  item_data ix offset (canon_item c) = at_and offset (codes "canon") (canon_data ix c)

  pub item_list : Indexing → Items → json.Items
  item_list ix no_items = json.no_items
  item_list ix (next_item offset form is) = json.item (item_data ix offset form) (item_list ix is)

abbrev pub entry_data : Indexing → Entry → Data
entry_data ix e = item_data ix e.offset e.form
