-- The types of the components inside others, each with its place, in the order in which they end.
use Rattle.std.specs.Prelude.{ℕ, suc, List, [], ◌∷◌, ◌++◌, Option, None, Some}
use Rattle.wcv_core.specs.Names.{Place, deeper}
use Rattle.wcv_core.specs.declared.features.WasmFeatures.{WasmFeatures}
use Rattle.wcv_syntax.specs.Model.{Form, component_item, Items, no_items, next_item}
use Rattle.wcv_lower.specs.Context.{concrete}
use Rattle.wcv_lower.specs.Declared.{inside}
use Rattle.wcv_lower.specs.Ending.{type_at_end}
use Rattle.wcv_lower.specs.Items.{read_item, read_items}
use Rattle.wcv_lower.specs.Names.{Names, introduced, names_by_place}
use Rattle.wcv_lower.specs.Trees.{Type_tree, Tree_stack, tree_maker, node_tree}
use Rattle.wcv_growth.specs.Valid.{start}

abbrev pub Nested_types : Type 0
Nested_types = List (Place × Type_tree)

-- those behind what was read, if it was
abbrev pub where_read : (Tree_stack → Nested_types) → Option Tree_stack → Nested_types
where_read f None = []
where_read f (Some s) = f s

-- the type at an end, if there is one
abbrev pub one_type : Place → Option Type_tree → Nested_types
one_type p None = []
one_type p (Some t) = (p, t) ∷ []

abbrev pub end_type : Names → Place → Tree_stack → Nested_types
end_type names p s = one_type p (type_at_end (node_tree (names.identity (introduced p))) s.top)

-- of the items of the list at place w, of which the first has position k; those inside a component come before it
abbrev mutual
  pub nested_from : WasmFeatures → Names → Place → ℕ → Tree_stack → Items → Nested_types
  nested_from fs names w k s no_items = []
  nested_from fs names w k s (next_item at f is) = nested_in fs names (deeper w k) s f ++ where_read (λ u. nested_from fs names w (suc k) u is) (read_item fs (tree_maker names) (deeper w k) s f)

  pub nested_in : WasmFeatures → Names → Place → Tree_stack → Form → Nested_types
  nested_in fs names p s (component_item is end) = nested_from fs names p 0 (inside concrete s) is ++ where_read (end_type names p) (read_items fs (tree_maker names) p 0 (inside concrete s) is)
  nested_in fs names p s f = []

-- of a root, by place
abbrev pub nested_types : WasmFeatures → Items → Nested_types
nested_types fs is = nested_from fs names_by_place [] 0 start is
