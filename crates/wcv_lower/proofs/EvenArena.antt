-- What stands in an arena is regular.
use Rattle.std.proofs.Common.{ℕ, List, [], ◌∷◌, ◌++◌, refl, ap, Some, None}
use Rattle.wcv_core.specs.Names.{Name}
use Rattle.wcv_core.specs.declared.core_types.EntityType.{EntityType}
use Rattle.wcv_types.specs.Arena.{Arena}
use Rattle.wcv_types.specs.Entities.{SlotStands}
use Rattle.wcv_types.specs.Standing.{AllFit, Stands}
use Rattle.wcv_types.specs.Tree.{Text, Head, import, export, Parts}
use Rattle.wcv_types.specs.Unfold.{Type_tree, Slot, leaf, at, both, core, head_of, slots_of, slot_parts, slot_tree, entry_slots, core_import_slots, core_export_slots, trees, tree_at}
use Rattle.wcv_types.specs.declared.arena.Node.{Node}
use Rattle.wcv_types.specs.declared.arena.Node.TheVariants as n
use Rattle.wcv_types.specs.declared.ids.Part.{Part}
use Rattle.wcv_types.specs.declared.item_map.ComponentItem.{ComponentItem}
use Rattle.wcv_types.proofs.Lists.{some-inj}
use Rattle.wcv_matching.specs.Formed.{ExportsAlone, SidesAlone, ItemsAlone, IsFormed, node_height, HeightByIdentity}
use Rattle.wcv_matching.specs.Orderly.{EachNode, AreNamedApart}
use Rattle.wcv_matching.proofs.ArenaHeights.{all_by_identity}
use Rattle.wcv_matching.proofs.ArenaTypes.{HoldsOfLeaves, each_type}
use Rattle.wcv_matching.proofs.NamesInside.{leaves-apart, all_apart}
use Rattle.wcv_lower.specs.Even.{IsLevel, IsRegular}
use Rattle.wcv_lower.proofs.EvenTypes.{each_both}

-- ## The parts of nodes

-- formed, where type entities are level
abbrev IsShaped : Head Name Name → Parts Name Name → Type 0
IsShaped h ps = IsLevel h ps → IsFormed h ps

leaves_shaped : HoldsOfLeaves IsShaped
leaves_shaped = record { left_out = λ l. tt; primitives = λ q l. tt; references = λ r s l. tt; types = λ i l. tt; items = λ e l. tt; entities = λ c r l. l }

module _ (ts : List Type_tree) where
  exports_alone : (es : List (Text × ComponentItem)) → ExportsAlone (slot_parts ts (entry_slots export es))
  exports_alone [] = tt
  exports_alone (e ∷ es) = exports_alone es

  exports_aside : (es : List (Text × ComponentItem)) → SidesAlone (slot_parts ts (entry_slots export es))
  exports_aside [] = tt
  exports_aside (e ∷ es) = exports_aside es

  sides_alone : (is es : List (Text × ComponentItem)) → SidesAlone (slot_parts ts (entry_slots import is ++ entry_slots export es))
  sides_alone [] es = exports_aside es
  sides_alone (i ∷ is) es = sides_alone is es

  core_exports_alone : (es : List (Text × EntityType)) → ItemsAlone (slot_parts ts (core_export_slots es))
  core_exports_alone [] = tt
  core_exports_alone (e ∷ es) = ((e.1, refl), core_exports_alone es)

  items_alone : (is : List ((Text × Text) × EntityType)) (es : List (Text × EntityType)) → ItemsAlone (slot_parts ts (core_import_slots is ++ core_export_slots es))
  items_alone [] es = core_exports_alone es
  items_alone (i ∷ is) es = ((i.1, refl), items_alone is es)

  node_shaped : (k : ℕ) (x : Node) → IsShaped (head_of k x) (slot_parts ts (slots_of x))
  node_shaped k (n.Defined s) l = tt
  node_shaped k (n.Func s) l = tt
  node_shaped k (n.Instance s) l = exports_alone s.exports
  node_shaped k (n.Component s) l = sides_alone s.imports s.exports
  node_shaped k (n.Module s) l = items_alone s.imports s.exports
  node_shaped k (n.CoreInstance s) l = tt

-- ## What stands there

module _ (a : Arena) where
  leaves_high : HoldsOfLeaves (HeightByIdentity a)
  leaves_high = record { left_out = λ i e. cc; primitives = λ q i e. cc; references = λ r s i e. ap (node_height a) (some-inj e); types = λ k i e. cc; items = λ x i e. cc; entities = λ c r i e. cc }

  -- what holds inside each type holds inside each slot
  slot_each : (P : Head Name Name → Parts Name Name → Type 0) → HoldsOfLeaves P → ((q : Part) → Stands a q → EachNode P (tree_at a q)) → (s : Slot) → SlotStands a s → EachNode P (slot_tree (trees a.nodes) s)
  slot_each P leaves each (leaf None) h = (leaves.left_out, tt)
  slot_each P leaves each (leaf (Some q)) h = (leaves.primitives q, tt)
  slot_each P leaves each (at q) h = each q h
  slot_each P leaves each (both c r) h = (leaves.entities _ _, (each c h.0, (each r h.1, tt)))
  slot_each P leaves each (core e) h = (leaves.items e, tt)

  module _ (fit : AllFit a) where
    all_shaped : (q : Part) → Stands a q → EachNode IsShaped (tree_at a q)
    all_shaped q s = each_type IsShaped leaves_shaped a fit (λ k x e. node_shaped (trees a.nodes) k x) q s

    pub slots_regular : (s : Slot) → SlotStands a s → IsRegular (node_height a) (slot_tree (trees a.nodes) s)
    slots_regular s h = (
      slot_each (λ i ps. AreNamedApart ps) leaves-apart (all_apart a fit) s h,
      each_both IsShaped (HeightByIdentity a) (slot_tree (trees a.nodes) s) (slot_each IsShaped leaves_shaped all_shaped s h) (slot_each (HeightByIdentity a) leaves_high (all_by_identity a fit) s h),
    )
