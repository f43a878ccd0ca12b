-- Items as the bytes of a component binary, in one fixed way: the shortest numbers, and a section for each item.
use Rattle.std.specs.Prelude.{ℕ, List, [], ◌∷◌, Option, Some, None}
use Rattle.wcv_syntax.specs.Model.{Form, core_type_item, core_module_item, core_instance_item, type_item, import_item, export_item, component_item, instance_item, alias_item, start_item, canon_item, Items, no_items, next_item, Entry}
use Rattle.wcv_syntax.specs.View.{items_of}
use Rattle.wcv_encode.specs.Bytes.{Bytes, ◌⧺◌, byte, u32_bytes, vec, section}
use Rattle.wcv_encode.specs.Canons.{canon_bytes}
use Rattle.wcv_encode.specs.Entries.{core_instance_bytes, import_bytes, export_bytes, alias_bytes, instance_bytes}
use Rattle.wcv_encode.specs.Modules.{core_type_bytes, module_bytes}
use Rattle.wcv_encode.specs.Types.{type_bytes}

unfoldable pub component_header : Bytes
component_header = Some (0x00 ∷ 0x61 ∷ 0x73 ∷ 0x6D ∷ 0x0D ∷ 0x00 ∷ 0x01 ∷ 0x00 ∷ [])

-- the id of the section of an item
abbrev pub form_id : Form → ℕ
form_id (core_module_item ds) = 1
form_id (core_instance_item i) = 2
form_id (core_type_item t) = 3
form_id (component_item is end) = 4
form_id (instance_item i) = 5
form_id (alias_item a) = 6
form_id (type_item t) = 7
form_id (canon_item f) = 8
form_id (start_item f args results) = 9
form_id (import_item i) = 10
form_id (export_item e) = 11

-- an item that is one of a list
unfoldable pub one_of : Form → Bytes
one_of (core_instance_item i) = core_instance_bytes i
one_of (core_type_item t) = core_type_bytes t
one_of (instance_item i) = instance_bytes i
one_of (alias_item a) = alias_bytes a
one_of (type_item t) = type_bytes t
one_of (canon_item f) = canon_bytes f
one_of (import_item i) = import_bytes i
one_of (export_item e) = export_bytes e
one_of form = None

-- offsets and ends are told by where things stand, and have no bytes
unfoldable mutual
  -- the contents of the section of an item
  pub contents : Form → Bytes
  contents (core_module_item ds) = module_bytes ds
  contents (component_item is end) = component_header ⧺ items_bytes is
  contents (start_item f args results) = u32_bytes f ⧺ vec u32_bytes args ⧺ u32_bytes results
  contents form = byte 1 ⧺ one_of form

  pub items_bytes : Items → Bytes
  items_bytes no_items = Some []
  items_bytes (next_item offset form is) = section (form_id form) (contents form) ⧺ items_bytes is

abbrev pub entry_bytes : Entry → Bytes
entry_bytes e = section (form_id e.form) (contents e.form)

-- the bytes of a component, if its items have any
unfoldable pub spelling : List Entry → Option (List ℕ)
spelling es = component_header ⧺ items_bytes (items_of es)
