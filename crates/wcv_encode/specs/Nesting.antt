-- How deep declared types and components stand in one another.
use Rattle.std.specs.Prelude.{ℕ, suc, max, List}
use Rattle.wcv_syntax.specs.Model.{Type_form, component_type, instance_type, Decl, type_decl, Decls, no_decls, declare, Form, type_item, component_item, Items, no_items, next_item, Entry}
use Rattle.wcv_syntax.specs.View.{items_of}

unfoldable mutual
  -- in a type; of one without declarations 0
  pub type_nesting : Type_form → ℕ
  type_nesting (component_type ds) = decls_nesting ds
  type_nesting (instance_type ds) = decls_nesting ds
  type_nesting t = 0

  pub decl_nesting : Decl → ℕ
  decl_nesting (type_decl t) = suc (type_nesting t)
  decl_nesting d = 0

  pub decls_nesting : Decls → ℕ
  decls_nesting no_decls = 0
  decls_nesting (declare d ds) = max (decl_nesting d) (decls_nesting ds)

unfoldable mutual
  -- in an item: types in one another, or components and then types
  pub form_nesting : Form → ℕ
  form_nesting (type_item t) = type_nesting t
  form_nesting (component_item is end) = suc (items_nesting is)
  form_nesting f = 0

  pub items_nesting : Items → ℕ
  items_nesting no_items = 0
  items_nesting (next_item offset f is) = max (form_nesting f) (items_nesting is)

-- in the items of a component
abbrev pub nesting : List Entry → ℕ
nesting es = items_nesting (items_of es)
