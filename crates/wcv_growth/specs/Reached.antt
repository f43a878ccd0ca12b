-- The stacks that valid items of a root lead to, also those inside components whose items are not all read yet.
use Rattle.std.specs.Prelude.{ℕ, suc, ◌≤◌, [], Some, ◌≡◌}
use Rattle.wcv_core.specs.Names.{Place, deeper}
use Rattle.wcv_core.specs.declared.features.WasmFeatures.{WasmFeatures}
use Rattle.wcv_syntax.specs.Model.{Form, Items}
use Rattle.wcv_lower.specs.Checks.{IsFree}
use Rattle.wcv_lower.specs.Context.{concrete}
use Rattle.wcv_lower.specs.Declared.{inside}
use Rattle.wcv_lower.specs.Items.{read_item, component_checks}
use Rattle.wcv_lower.specs.Names.{Names, Under}
use Rattle.wcv_lower.specs.Trees.{Tree_stack, tree_maker}
use Rattle.wcv_growth.specs.Valid.{ValidItem, start}

-- the stack stands before the item at position k of the list at place w, where the items before it are valid, and so around it
pub data Reached (fs : WasmFeatures) (names : Names) : Place → ℕ → Tree_stack → Type 0 where
  -- before the root's first item
  at_start : Reached fs names [] 0 start
  -- behind an item
  behind : (w : Place) (k : ℕ) (s u : Tree_stack) (f : Form) → Reached fs names w k s → ValidItem fs names (deeper w k) s f → read_item fs (tree_maker names) (deeper w k) s f ≡ Some u → Reached fs names w (suc k) u
  -- before the first item of a component that has no cause of its own
  within : (w : Place) (k : ℕ) (s : Tree_stack) (is : Items) → Reached fs names w k s → IsFree (component_checks s is) → Reached fs names (deeper w k) 0 (inside concrete s)

-- in no item of the list at place w from position k on
abbrev pub Earlier : Place → ℕ → Place → Type 0
Earlier w k p = (j : ℕ) → k ≤ j → Under (deeper w j) p → ⊥
