-- What is known of imports and exports, added up.
use Rattle.std.specs.Prelude.{◌≡◌}
use Rattle.wcv_core.specs.Names.{Name}
use Rattle.wcv_types.specs.Measure.{size, sizes, depth, depths}
use Rattle.wcv_types.specs.Resources.{mentions, mentions_in}
use Rattle.wcv_types.specs.Tree.{Parts}
use Rattle.wcv_types.specs.Unfold.{Type_tree, capped}
use Rattle.wcv_types.specs.declared.arena.Node.{Node}
use Rattle.wcv_types.specs.declared.arena.Node.TheVariants as n
use Rattle.wcv_types.specs.declared.entry_facts.Total.{Total}

-- of one
pub record IsTotalOf (s : Total) (t : Type_tree) : Type 0 where
  pub size : s.size ≡ capped (size t)
  pub depth : s.depth ≡ capped (depth t)
  pub refers : s.refers ≡ mentions t

-- of all
pub record IsTotalOfParts (s : Total) (ps : Parts Name Name) : Type 0 where
  pub size : s.size ≡ capped (sizes ps)
  pub depth : s.depth ≡ capped (depths ps)
  pub refers : s.refers ≡ mentions_in ps

-- an instance, a component or a core module: no handle, and nothing that a name could be missing of
abbrev pub HasEntries : Node → Type 0
HasEntries (n.Instance s) = Unit {0}
HasEntries (n.Component s) = Unit {0}
HasEntries (n.Module s) = Unit {0}
HasEntries (n.CoreInstance s) = Unit {0}
HasEntries x = ⊥
