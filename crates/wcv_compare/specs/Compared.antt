-- Pairs of nodes that a comparison found to pass with each other.
use Rattle.std.specs.Prelude.{ℕ, List, [], ◌∷◌, ◌++◌, Bool, true, false, cond, eqb, ◌&&◌, Option, None, Some, All, ◌≡◌}
use Rattle.std.specs.List.{list_any}
use Rattle.wcv_types.specs.Arena.{Arena}
use Rattle.wcv_types.specs.Entities.{entity_tree}
use Rattle.wcv_types.specs.Unfold.{tree_in, trees}
use Rattle.wcv_types.specs.declared.shapes.ComponentEntityType.{ComponentEntityType}
use Rattle.wcv_types.specs.declared.shapes.ComponentEntityType.TheVariants as entity
use Rattle.wcv_matching.specs.Matching.{Reading}
use Rattle.wcv_matching.specs.OnePass.{Atom}
use Rattle.wcv_atoms.specs.IdPasses.{Answers}
use Rattle.wcv_compare.specs.declared.compared.Compared.{Compared}
use Rattle.wcv_compare.specs.declared.compared.LevelPair.{LevelPair}
use Rattle.wcv_compare.specs.declared.compared.NodePair.{NodePair}

-- ## Sets of pairs

abbrev pub same_nodes : NodePair → NodePair → Bool
same_nodes p q = eqb p.left q.left && eqb p.right q.right

abbrev pub same_pair : LevelPair → LevelPair → Bool
same_pair p q = eqb p.level q.level && same_nodes p.nodes q.nodes

abbrev pub has_pair : List LevelPair → LevelPair → Bool
has_pair ps p = list_any (same_pair p) ps

-- the set with that pair, which it may have already
abbrev pub with_pair : List LevelPair → LevelPair → List LevelPair
with_pair ps p = cond (has_pair ps p) ps (ps ++ p ∷ [])

-- ## Entities

-- the place of a node of which is kept what it passes with
abbrev pub kept_place : ComponentEntityType → Option ℕ
kept_place (entity.Module i) = Some i.index
kept_place (entity.Func i) = Some i.index
kept_place (entity.Instance i) = Some i.index
kept_place (entity.Component i) = Some i.index
kept_place x = None

-- the pair of both at the level
pub record IsPairOf (k : ℕ) (x y : ComponentEntityType) (p : LevelPair) : Type 0 where
  pub level : p.level ≡ k
  pub left : kept_place x ≡ Some p.nodes.left
  pub right : kept_place y ≡ Some p.nodes.right

-- ## What was found

-- the two nodes pass with each other at their level, as f and g read
abbrev pub IsPassed : Arena → Bool → Reading Atom → Reading Atom → LevelPair → Type 0
IsPassed a exact f g p = Answers a.core exact p.level f g (tree_in (trees a.nodes) p.nodes.left) (tree_in (trees a.nodes) p.nodes.right) true

-- so do all pairs; those of exchanged sides pass as g and f read
pub record ArePassed (a : Arena) (f g : Reading Atom) (c : Compared) : Type 0 where
  pub same : All (IsPassed a true f g) c.same
  pub matching : All (IsPassed a false f g) c.matching
  pub same_flipped : All (IsPassed a true g f) c.same_flipped
  pub matching_flipped : All (IsPassed a false g f) c.matching_flipped

-- where the answer is yes
abbrev pub PassedIf : Bool → Arena → Reading Atom → Reading Atom → Compared → Type 0
PassedIf answer a f g c = answer ≡ true → ArePassed a f g c

-- both entities pass with each other
abbrev pub Pass : Arena → Bool → ℕ → Reading Atom → Reading Atom → ComponentEntityType → ComponentEntityType → Type 0
Pass a exact k f g x y = Answers a.core exact k f g (entity_tree (trees a.nodes) x) (entity_tree (trees a.nodes) y) true
