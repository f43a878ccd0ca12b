-- What holds inside each type of an arena holds inside what is imported or exported.
use Rattle.std.proofs.Common.{arith, sym, subst, Bool, false}
use Rattle.std.specs.Bool.{Decides}
use Rattle.wcv_core.specs.Names.{Name}
use Rattle.wcv_core.specs.CoreGroups.{total}
use Rattle.wcv_core.specs.CoreSizes.{IsEntityWithin}
use Rattle.wcv_types.specs.Arena.{Arena}
use Rattle.wcv_types.specs.Entities.{any_part, entity_tree, EntityStands}
use Rattle.wcv_types.specs.Standing.{AllFit, Stands}
use Rattle.wcv_types.specs.Tree.{Head, Parts}
use Rattle.wcv_types.specs.Unfold.{trees, tree_at}
use Rattle.wcv_types.specs.declared.ids.Part.{Part}
use Rattle.wcv_types.specs.declared.ids.Part.TheVariants as p
use Rattle.wcv_types.specs.declared.shapes.ComponentEntityType.{ComponentEntityType}
use Rattle.wcv_types.specs.declared.shapes.ComponentEntityType.TheVariants as entity
use Rattle.wcv_types.specs.declared.shapes.ComponentValType.TheVariants as v
use Rattle.wcv_closed.specs.ClosedTable.{IsTable}
use Rattle.wcv_matching.specs.AtomTests.{same_seen}
use Rattle.wcv_atoms.specs.IdPasses.{Answers}
use Rattle.wcv_matching.specs.OnePass.{enough, given}
use Rattle.wcv_matching.specs.Orderly.{EachNode, Orderly}
use Rattle.wcv_matching.specs.TableMatching.{CoreWithin, TypeMatches}
use Rattle.wcv_matching.proofs.ArenaTypes.{HoldsOfLeaves, leaves_led, all_led}
use Rattle.wcv_matching.proofs.AtomTests.{seen-decides}
use Rattle.wcv_matching.proofs.CoreInside.{nothing_named, all_within}
use Rattle.wcv_matching.proofs.NamesInside.{leaves-apart, all_apart}
use Rattle.wcv_matching.proofs.PassByIds.{matching-by_ids}

module _ (a : Arena) where
  pub entity_each : (P : Head Name Name → Parts Name Name → Type 0) → HoldsOfLeaves P → ((q : Part) → Stands a q → EachNode P (tree_at a q)) → (x : ComponentEntityType) → EntityStands a x → EachNode P (entity_tree (trees a.nodes) x)
  entity_each P leaves each (entity.Module i) s = each (p.Module i) s
  entity_each P leaves each (entity.Func i) s = each (p.Func i) s
  entity_each P leaves each (entity.Value (v.Primitive q)) s = (leaves.primitives q, tt)
  entity_each P leaves each (entity.Value (v.Ty i)) s = each (p.Defined i) s
  entity_each P leaves each (entity.Ty c r) s = (leaves.entities _ _, (each (any_part c) s.0, (each (any_part r) s.1, tt)))
  entity_each P leaves each (entity.Instance i) s = each (p.Instance i) s
  entity_each P leaves each (entity.Component i) s = each (p.Component i) s

  module _ (fit : AllFit a) where
    pub entity_orderly : (x : ComponentEntityType) → EntityStands a x → Orderly (entity_tree (trees a.nodes) x)
    entity_orderly x s = (entity_each _ leaves-apart (all_apart a fit) x s, entity_each _ leaves_led (all_led a fit) x s)

    pub entity_within : (x : ComponentEntityType) → EntityStands a x → CoreWithin a.core (entity_tree (trees a.nodes) x)
    entity_within x s = entity_each _ (nothing_named (IsEntityWithin (total a.core))) (all_within a fit) x s

    -- the answer at the top
    pub entities_decided : IsTable a.core → (x y : ComponentEntityType) → EntityStands a x → EntityStands a y → (c : Bool) → Answers a.core false 0 given given (entity_tree (trees a.nodes) x) (entity_tree (trees a.nodes) y) c →
        Decides c (TypeMatches a.core (entity_tree (trees a.nodes) x) (entity_tree (trees a.nodes) y))
    entities_decided table x y s t c m =
        subst (λ (b : Bool). Decides b (TypeMatches a.core (entity_tree (trees a.nodes) x) (entity_tree (trees a.nodes) y))) (sym (m (enough (entity_tree (trees a.nodes) x) (entity_tree (trees a.nodes) y)) (omega arith) (omega arith)))
        (matching-by_ids a.core same_seen seen-decides table (entity_tree (trees a.nodes) x) (entity_tree (trees a.nodes) y) (entity_orderly x s) (entity_orderly y t) (entity_within x s) (entity_within y t))
