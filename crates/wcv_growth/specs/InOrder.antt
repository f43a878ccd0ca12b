-- What valid items leave in order, in each stack that they lead to and by place: the table of core types, and the types that stand in the
-- open contexts, also further out.
use Rattle.std.specs.Prelude.{ℕ, ◌≤◌, Some, ◌≡◌}
use Rattle.wcv_core.specs.Names.{Name, Place, deeper}
use Rattle.wcv_types.specs.Identity.{Identity}
use Rattle.wcv_closed.specs.ClosedMatching.{SupersKeepForm}
use Rattle.wcv_closed.specs.ClosedTable.{IsTable}
use Rattle.wcv_matching.specs.Orderly.{Orderly}
use Rattle.wcv_matching.specs.TableMatching.{CoreWithin}
use Rattle.wcv_lower.specs.Context.{at_distance}
use Rattle.wcv_lower.specs.Even.{IsRegular}
use Rattle.wcv_lower.specs.Names.{Under}
use Rattle.wcv_lower.specs.Owned.{OwnsNot, OwnApart, Everywhere, IsOwn, AreBalanced, IsMadeAt}
use Rattle.wcv_lower.specs.Trees.{Tree_context, Tree_stack}

-- so before the item at position k of the list at place w
pub record IsInOrder (w : Place) (k : ℕ) (s : Tree_stack) : Type 0 where
  -- each group stands once and in closed form, and supertypes have the form of their types, so matching goes on over it
  pub table : IsTable s.groups
  pub supers : SupersKeepForm s.groups
  -- names differ in each node, and what it owns is led to; the core types of core modules are of the table
  pub orderly : Everywhere Orderly s
  pub within : Everywhere (CoreWithin s.groups) s
  -- what a type owns, no type inside it owns, no open context has, and no later item of the list gives
  pub apart : Everywhere OwnApart s
  pub spared : (j : ℕ) (c : Tree_context) (r : Name) → at_distance j s ≡ Some c → IsOwn c r → Everywhere (OwnsNot r) s
  pub late : (j : ℕ) (q : Place) (r : Name) → k ≤ j → Under (deeper w j) q → IsMadeAt q r → Everywhere (OwnsNot r) s
  -- nodes of one identity are of one height, and so are owners of one resource
  pub regular : (n : Identity → ℕ) × Everywhere (IsRegular n) s
  pub balanced : AreBalanced s
