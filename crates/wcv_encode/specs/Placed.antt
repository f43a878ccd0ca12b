-- Where items stand in the bytes that are written of them.
use Rattle.std.specs.Prelude.{ℕ, ◌+◌, List, [], ◌∷◌, length, Some, None}
use Rattle.wcv_syntax.specs.Model.{Form, core_module_item, component_item, start_item, Items, no_items, next_item, Entry}
use Rattle.wcv_syntax.specs.View.{items_of}
use Rattle.wcv_encode.specs.Bytes.{Bytes, u32_bytes, section}
use Rattle.wcv_encode.specs.Spelling.{component_header, form_id, contents}

-- how many bytes there are
abbrev pub size : Bytes → ℕ
size None = 0
size (Some b) = length b

-- where the contents begin of a section that begins at an offset: behind its id and its size
unfoldable pub inside : ℕ → Bytes → ℕ
inside at contents = at + 1 + size (u32_bytes (size contents))

-- how far an item stands in the contents of its section: behind the count, where these are a list
abbrev pub lead : Form → ℕ
lead (core_module_item ds) = 0
lead (component_item is end) = 0
lead (start_item f args results) = 0
lead f = 1

unfoldable mutual
  -- an item, in contents that begin at an offset
  pub placed_form : ℕ → Form → Form
  placed_form from (component_item is end) = component_item (placed_items (from + size component_header) is) (from + size (contents (component_item is end)))
  placed_form from f = f

  -- items, of which the first one's section begins at an offset
  pub placed_items : ℕ → Items → Items
  placed_items at no_items = no_items
  placed_items at (next_item offset f is) =
      next_item (inside at (contents f) + lead f) (placed_form (inside at (contents f)) f) (placed_items (at + size (section (form_id f) (contents f))) is)

unfoldable pub entries_of : Items → List Entry
entries_of no_items = []
entries_of (next_item offset f is) = record { offset = offset; form = f } ∷ entries_of is

-- the items of a component, each at the offset at which it is written
abbrev pub placed : List Entry → List Entry
placed es = entries_of (placed_items (size component_header) (items_of es))
