-- Items that are read by calls, one after another, each by names of its own that the arena gave.
use Rattle.std.specs.Prelude.{ℕ, suc, [], ◌++◌, Some, ◌≡◌, ◌⊎◌}
use Rattle.wcv_core.specs.Names.{Place, deeper}
use Rattle.wcv_core.specs.declared.error.ErrorKind.{ErrorKind}
use Rattle.wcv_core.specs.declared.features.WasmFeatures.{WasmFeatures}
use Rattle.wcv_syntax.specs.Model.{Form, Items, no_items, next_item}
use Rattle.wcv_lower.specs.Checks.{Cause}
use Rattle.wcv_lower.specs.Ending.{component_end_checks}
use Rattle.wcv_lower.specs.Given.{GivenNames, names_of, Numbers, AtMost, GivesAt}
use Rattle.wcv_lower.specs.Items.{read_item}
use Rattle.wcv_lower.specs.Names.{Under}
use Rattle.wcv_lower.specs.Trees.{Tree_stack, tree_maker}
use Rattle.wcv_growth.specs.Nested.{Nested_types, nested_in}
use Rattle.wcv_growth.specs.Valid.{ValidItem, RefusedItem}

-- the item at place p is valid, and leads from one stack to another
abbrev pub ItemRead : WasmFeatures → Place → Tree_stack → Form → Tree_stack → Numbers → Numbers → Type 0
ItemRead fs p s f u a b = (n : GivenNames) × GivesAt (Under p) a b n × ValidItem fs (names_of n) p s f × (read_item fs (tree_maker (names_of n)) p s f ≡ Some u)

-- so where the components that end in it have those types
abbrev pub ItemTells : WasmFeatures → Place → Tree_stack → Form → Tree_stack → Numbers → Numbers → Nested_types → Type 0
ItemTells fs p s f u a b xs = (r : ItemRead fs p s f u a b) × (nested_in fs (names_of r.0) p s f ≡ xs)

-- so the items of the list at place w, of which the first has position k
abbrev pub ItemsRead : WasmFeatures → Place → ℕ → Tree_stack → Items → Tree_stack → Numbers → Numbers → Nested_types → Type 0
ItemsRead fs w k s no_items u a b xs = (s ≡ u) × AtMost a b × (xs ≡ [])
ItemsRead fs w k s (next_item at f is) u a b xs =
    (t : Tree_stack) × (m : Numbers) × AtMost a m × AtMost m b × (ys : Nested_types) × (zs : Nested_types) × ItemTells fs (deeper w k) s f t a m ys × ItemsRead fs w (suc k) t is u m b zs × (xs ≡ ys ++ zs)

-- the item at place p, which stands at offset `at`, is refused
abbrev pub ItemRefused : WasmFeatures → Place → Tree_stack → ℕ → Form → ErrorKind → ℕ → Numbers → Numbers → Type 0
ItemRefused fs p s at f kind offset a b = (n : GivenNames) × GivesAt (Under p) a b n × RefusedItem fs (names_of n) p s at f kind offset

-- one of the items is refused, or the end behind them, and those before it were read
abbrev pub ItemsRefused : WasmFeatures → Place → ℕ → Tree_stack → Items → ℕ → ErrorKind → ℕ → Numbers → Numbers → Type 0
ItemsRefused fs w k s no_items end kind offset a b = Cause (component_end_checks s.top) kind × (offset ≡ end)
ItemsRefused fs w k s (next_item at f is) end kind offset a b =
    ItemRefused fs (deeper w k) s at f kind offset a b ⊎ ((t : Tree_stack) × (m : Numbers) × AtMost a m × AtMost m b × ItemRead fs (deeper w k) s f t a m × ItemsRefused fs w (suc k) t is end kind offset m b)
