-- What is recorded of a run: the types of the components of its root, by place.
use Rattle.std.specs.Prelude.{ℕ, suc, List, [], Option}
use Rattle.std.specs.Map.{lookup}
use Rattle.std.specs.Option.{option_map_or}
use Rattle.wcv_core.specs.CoreForm.{Group}
use Rattle.wcv_core.specs.Names.{Place, deeper, same_place}
use Rattle.wcv_core.specs.declared.features.WasmFeatures.{WasmFeatures}
use Rattle.wcv_syntax.specs.Model.{Form, component_item, Items, no_items, next_item}
use Rattle.wcv_types.specs.Unfold.{Type_tree}
use Rattle.wcv_lower.specs.Context.{concrete, empty}
use Rattle.wcv_lower.specs.Declared.{inside}
use Rattle.wcv_lower.specs.Items.{read_item}
use Rattle.wcv_lower.specs.Names.{Names}
use Rattle.wcv_lower.specs.Trees.{Tree_stack, tree_reader, tree_maker}
use Rattle.wcv_growth.specs.Nested.{nested_from}
use Rattle.wcv_world.specs.Naming.{Naming}
use Rattle.wcv_world.specs.Values.{Run}

-- before the first item of a root, with these groups as the table of core types
abbrev pub start_over : List Group → Tree_stack
start_over gs = record { top = empty tree_reader concrete; outer = []; groups = gs }

-- the table behind items as far as growth is defined: of the list at place w, of which the first has position k
abbrev mutual
  pub table_from : WasmFeatures → Names → Place → ℕ → Tree_stack → Items → List Group
  table_from fs names w k s no_items = s.groups
  table_from fs names w k s (next_item at f is) = option_map_or (λ u. table_from fs names w (suc k) u is) (read_item fs (tree_maker names) (deeper w k) s f) (table_in fs names (deeper w k) s f)

  pub table_in : WasmFeatures → Names → Place → Tree_stack → Form → List Group
  table_in fs names p s (component_item is end) = table_from fs names p 0 (inside concrete s) is
  table_in fs names p s f = s.groups

-- so behind the items of a root
abbrev pub table_behind : WasmFeatures → Names → List Group → Items → List Group
table_behind fs names gs is = table_from fs names [] 0 (start_over gs) is

-- that of the component at a place, where growth gives it one
abbrev pub recorded_type : WasmFeatures → Names → List Group → Items → Place → Option Type_tree
recorded_type fs names gs is p = lookup (same_place p) (nested_from fs names [] 0 (start_over gs) is)

-- run r of a root
abbrev pub run_of : WasmFeatures → Naming → ℕ → List Group → Items → Run
run_of fs n r gs is = record { number = r; recorded = recorded_type fs (n.run r) gs is }
