-- What the arena keeps of a node, so that no call reads a type through.
use Rattle.std.specs.Prelude.{ℕ, List, [], Bool, Some, slice_get, slice_index_or, map, take, ◌≡◌}
use Rattle.wcv_core.specs.Names.{Name}
use Rattle.wcv_core.specs.declared.primitive.PrimitiveValType.TheVariants as prim
use Rattle.wcv_types.specs.Tree.{Tree, func, node}
use Rattle.wcv_types.specs.Abi.{IsAbiOf}
use Rattle.wcv_types.specs.Named.{is_named, are_named}
use Rattle.wcv_types.specs.Open.{open_flat, listed}
use Rattle.wcv_types.specs.Resources.{mentions}
use Rattle.wcv_types.specs.Unfold.{Type_tree, IsInfoOf, tree_in, trees}
use Rattle.wcv_types.specs.declared.facts.Facts.{Facts}
use Rattle.wcv_types.specs.declared.arena.Node.{Node}
use Rattle.wcv_types.specs.declared.arena.Node.TheVariants as n
use Rattle.wcv_types.specs.declared.nodes.Known.{Known}
use Rattle.wcv_types.specs.declared.shapes.ComponentDefinedType.TheVariants as d

-- nothing in the type has to be named: the type itself, or of a function its parts
abbrev pub is_plain : Tree Name Name → Bool
is_plain (node (func i b) ps) = are_named [] ps
is_plain t = is_named [] t

pub record IsFactsOf (f : Facts) (t : Type_tree) : Type 0 where
  pub info : IsInfoOf f.info t
  pub abi : IsAbiOf f.abi t
  pub plain : f.plain ≡ is_plain t
  pub refers : f.refers ≡ mentions t
  -- of a value type, as many as are kept
  pub flat : listed f.flat ≡ take 17 (open_flat t)

-- what stands past them, where no node points
abbrev pub no_node : Node
no_node = n.Defined (d.Primitive prim.Bool)

-- the nodes at these positions, in order
abbrev pub nodes_at : List Known → List ℕ → List Node
nodes_at ks ps = map (λ p. slice_index_or (map (λ k. k.node) ks) p no_node) ps

-- the node stands at its position, and what is kept of it is that of its tree
pub record IsKnown (ks : List Known) (position : ℕ) (t : Type_tree) : Type 0 where
  pub known : Known
  pub there : slice_get ks position ≡ Some known
  pub facts : IsFactsOf known.facts t

-- so of each node
abbrev pub AllKnown : List Known → List ℕ → Type 0
AllKnown ks ps = (k position : ℕ) → slice_get ps k ≡ Some position → IsKnown ks position (tree_in (trees (nodes_at ks ps)) k)
