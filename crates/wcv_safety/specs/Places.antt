-- The component at a place of a valid root, with the stack in which its first item is read.
use Rattle.std.specs.Prelude.{ℕ, suc, List, [], Some, ◌≡◌, ◌⊎◌}
use Rattle.wcv_core.specs.CoreForm.{Group}
use Rattle.wcv_core.specs.Names.{Place, deeper}
use Rattle.wcv_core.specs.declared.features.WasmFeatures.{WasmFeatures}
use Rattle.wcv_syntax.specs.Model.{Form, component_item, Items, no_items, next_item}
use Rattle.wcv_types.specs.Unfold.{Type_tree}
use Rattle.wcv_lower.specs.Checks.{IsFree}
use Rattle.wcv_lower.specs.Context.{concrete}
use Rattle.wcv_lower.specs.Declared.{inside}
use Rattle.wcv_lower.specs.Ending.{component_end_checks, type_at_end}
use Rattle.wcv_lower.specs.Items.{read_item}
use Rattle.wcv_lower.specs.Names.{Names, introduced}
use Rattle.wcv_lower.specs.Trees.{Tree_stack, tree_maker, node_tree}
use Rattle.wcv_growth.specs.Kept.{IsPrefix}
use Rattle.wcv_growth.specs.Valid.{ValidFrom}
use Rattle.wcv_world.specs.Naming.{naming_by_number, run_names}
use Rattle.wcv_world.specs.Recorded.{start_over, run_of}
use Rattle.wcv_world.specs.Values.{Run}

-- the items are those of a component at place p, and are read in the stack t: of the items of the list at place w, of which the first has
-- position k
abbrev mutual
  pub StandsIn : WasmFeatures → Names → Place → ℕ → Tree_stack → Items → Place → Tree_stack → Items → Type 0
  StandsIn fs names w k s no_items p t js = ⊥
  StandsIn fs names w k s (next_item at f is) p t js =
      StandsAt fs names (deeper w k) s f p t js ⊎ ((u : Tree_stack) × (read_item fs (tree_maker names) (deeper w k) s f ≡ Some u) × StandsIn fs names w (suc k) u is p t js)

  -- of the item at place q itself, or of one inside it
  pub StandsAt : WasmFeatures → Names → Place → Tree_stack → Form → Place → Tree_stack → Items → Type 0
  StandsAt fs names q s (component_item is end) p t js = ((q ≡ p) × (s ≡ t) × (is ≡ js)) ⊎ StandsIn fs names q 0 (inside concrete s) is p t js
  StandsAt fs names q s f p t js = ⊥

-- the items are valid as a root of the run with that number, read over these groups as the table of core types, and lead to that stack
pub record ValidOver (fs : WasmFeatures) (r : ℕ) (gs : List Group) (is : Items) (t : Tree_stack) : Type 0 where
  pub items : ValidFrom fs (run_names r) [] 0 (start_over gs) is t
  pub end : IsFree (component_end_checks t.top)

-- the items are those of the component at place p of a valid root of the run, which stands in the stack s; the table gs has all core types
-- of the root
pub record IsPlaceOf (fs : WasmFeatures) (gs : List Group) (r : Run) (p : Place) (s : Tree_stack) (is : Items) : Type 0 where
  pub groups : List Group
  pub root : Items
  pub last : Tree_stack
  pub run : r ≡ run_of fs naming_by_number r.number groups root
  pub valid : ValidOver fs r.number groups root last
  pub settled : IsPrefix last.groups gs
  pub stands : StandsIn fs (run_names r.number) [] 0 (start_over groups) root p s is

-- the items are a valid root of the run with that number over these groups, and t is its type, by the names of the run
pub record IsRoot (fs : WasmFeatures) (r : ℕ) (gs : List Group) (is : Items) (t : Type_tree) : Type 0 where
  pub last : Tree_stack
  pub valid : ValidOver fs r gs is last
  pub typed : type_at_end (node_tree ((run_names r).identity (introduced []))) last.top ≡ Some t
