-- The line of a node, after the lines of its parts.
use Rattle.std.specs.Prelude.{ℕ, ◌≤◌, ◌≡◌, List, [], slice_get, Option, Some, None}
use Rattle.std.specs.List.{fold}
use Rattle.wcv_core.specs.Names.{number}
use Rattle.wcv_core.specs.declared.core_types.EntityType.{EntityType}
use Rattle.wcv_types.specs.Arena.{Arena}
use Rattle.wcv_types.specs.Identity.{of_node}
use Rattle.wcv_types.specs.Standing.{core_items, identity_of}
use Rattle.wcv_types.specs.Text.{Written, form_text, with_line, with_resources, has_line, write}
use Rattle.wcv_types.specs.Tree.{Text, head, parts}
use Rattle.wcv_types.specs.Unfold.{Type_tree, place, tree_at}
use Rattle.wcv_types.specs.declared.arena.Node.{Node}
use Rattle.wcv_types.specs.declared.ids.Part.{Part}
use Rattle.wcv_types.specs.declared.ids.Part.TheVariants as p
use Rattle.wcv_text.specs.Numbers.{so_far}
use Rattle.wcv_text.specs.declared.numbers.Numbers.{Numbers}

-- the form of the root of a tree
abbrev pub form_of : Written → Type_tree → Text
form_of w t = form_text w (head t) (parts t)

-- with the own line of a part, whose tree that is
abbrev pub own_line : Part → Type_tree → Written → Written
own_line q t w = with_line (with_resources w (head t)) (identity_of q) (head t) (parts t)

-- each part in order
abbrev pub write_all : Arena → Written → List Part → Written
write_all a w qs = fold (λ v q. write v (tree_at a q)) w qs

-- what the node imports and exports, if it is there
abbrev pub items_if : Option Node → List EntityType
items_if None = []
items_if (Some x) = core_items x

-- the core items of a core module, or of a core instance that was made of items
abbrev pub items_at : Arena → Part → List EntityType
items_at a (p.Resource r) = []
items_at a (p.Core i) = []
items_at a q = items_if (slice_get a.nodes (place q))

-- the nodes from that place on have lines where they had them
abbrev pub NoneFrom : ℕ → Numbers → Numbers → Type 0
NoneFrom bound old new = (k : ℕ) → bound ≤ k → has_line (so_far new []) (Some (of_node (number k))) ≡ has_line (so_far old []) (Some (of_node (number k)))
