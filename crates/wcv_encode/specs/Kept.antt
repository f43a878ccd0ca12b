-- For how many bytes what is written counts, at most: for its own, bodies of functions among them, which are skipped when
-- they are read, and for more by the items that stand in it.
use Rattle.std.specs.Prelude.{ℕ, ◌+◌, List, [], ◌∷◌}
use Rattle.wcv_syntax.specs.Model.{Module_decl, module_export, Form, core_module_item, type_item, component_item, start_item, Items, no_items, next_item, Entry}
use Rattle.wcv_syntax.specs.View.{items_of}
use Rattle.wcv_encode.specs.Placed.{size}
use Rattle.wcv_encode.specs.Spelling.{spelling}
use Rattle.wcv_encode.specs.Types.{type_bytes}

-- a declaration counts three more for each entry that it makes: an export makes one, and one of what it exports
abbrev pub decl_more : Module_decl → ℕ
decl_more (module_export n t) = 6
decl_more d = 3

unfoldable pub module_more : List Module_decl → ℕ
module_more [] = 0
module_more (d ∷ ds) = decl_more d + module_more ds

unfoldable mutual
  -- an item of a list counts three more, and a type its bytes once more
  pub form_more : Form → ℕ
  form_more (core_module_item ds) = module_more ds
  form_more (component_item is end) = items_more is
  form_more (start_item f args results) = 0
  form_more (type_item t) = 3 + size (type_bytes t)
  form_more f = 3

  pub items_more : Items → ℕ
  items_more no_items = 0
  items_more (next_item offset f is) = form_more f + items_more is

-- for how many bytes the items of a component count, where they have bytes
abbrev pub kept : List Entry → ℕ
kept es = size (spelling es) + items_more (items_of es)
