-- What holds at each node of an arena holds at each node inside its types.
use Rattle.std.proofs.Common.{◌≡◌, ℕ, zero, suc, ◌<◌, [], ◌∷◌, Some, None, Option, sym, subst, arith}
use Rattle.std.specs.Prelude.{slice_get, All}
use Rattle.std.proofs.lemmas.List.Elements.{All-head, All-tail}
use Rattle.wcv_core.specs.Names.{Name}
use Rattle.wcv_core.specs.declared.core_types.EntityType.{EntityType}
use Rattle.wcv_core.specs.declared.primitive.PrimitiveValType.{PrimitiveValType}
use Rattle.wcv_types.specs.Arena.{Arena}
use Rattle.wcv_types.specs.Led.{HeadLed}
use Rattle.wcv_types.specs.Standing.{Stands, StandsBefore, AllFit}
use Rattle.wcv_types.specs.Tree.{Head, nothing, primitive, type_entity, core_type, core_item, here, resource, Parts, none, part}
use Rattle.wcv_types.specs.Unfold.{Slot, leaf, at, both, core, Slots, rank, head_of, leaf_tree, slot_refs, slot_tree, slots_of, slot_parts, parts_in, trees, tree_at, unfolded, Type_tree}
use Rattle.wcv_types.specs.declared.arena.Node.{Node}
use Rattle.wcv_types.specs.declared.arena.Node.TheVariants as n
use Rattle.wcv_types.specs.declared.ids.Part.{Part}
use Rattle.wcv_types.specs.declared.ids.Part.TheVariants as p
use Rattle.wcv_types.proofs.AddedAgain.{fits_again}
use Rattle.wcv_types.proofs.Unfolding.{all_left, all_right, tree_in-unfolds, parts_before}
use Rattle.wcv_matching.specs.Orderly.{EachNode, EachNodeIn, AllPathsLead}

-- P holds of what is no node: what is left out, a primitive, a reference, a core type, an item, and a type entity
pub record HoldsOfLeaves (P : Head Name Name → Parts Name Name → Type 0) : Type 0 where
  pub left_out : P nothing none
  pub primitives : (q : PrimitiveValType) → P (primitive q) none
  pub references : (r s : Name) → P (resource r s) none
  pub types : (i : ℕ) → P (core_type i) none
  pub items : (e : EntityType) → P (core_item e) none
  pub entities : (c r : Type_tree) → P type_entity (part here c (part here r none))

module _ (P : Head Name Name → Parts Name Name → Type 0) (leaves : HoldsOfLeaves P) (a : Arena) where
  each_leaf : (o : Option PrimitiveValType) → EachNode P (leaf_tree o)
  each_leaf None = (leaves.left_out, tt)
  each_leaf (Some q) = (leaves.primitives q, tt)

  -- of the parts that stand before a node, where it is so of each
  module _ (bound : ℕ) (ih : (q : Part) → Stands a q → rank q < bound → EachNode P (tree_at a q)) where
    each_slot : (s : Slot) → All (StandsBefore a bound) (slot_refs s) → EachNode P (slot_tree (trees a.nodes) s)
    each_slot (leaf o) h = each_leaf o
    each_slot (core e) h = (leaves.items e, tt)
    each_slot (at q) h = let w = All-head (StandsBefore a bound) q [] h in ih q w.stands w.before
    each_slot (both c r) h =
        let v = All-head (StandsBefore a bound) c (r ∷ []) h in
        let w = All-head (StandsBefore a bound) r [] (All-tail (StandsBefore a bound) c (r ∷ []) h) in
        (leaves.entities _ _, (ih c v.stands v.before, (ih r w.stands w.before, tt)))

    each_slots : (ss : Slots) → All (StandsBefore a bound) (parts_in ss) → EachNodeIn P (slot_parts (trees a.nodes) ss)
    each_slots [] h = tt
    each_slots (s ∷ ss) h =
        (each_slot s.1 (all_left (StandsBefore a bound) (slot_refs s.1) (parts_in ss) h), each_slots ss (all_right (StandsBefore a bound) (slot_refs s.1) (parts_in ss) h))

  module _ (fit : AllFit a) (at_nodes : (k : ℕ) (x : Node) → slice_get a.nodes k ≡ Some x → P (head_of k x) (slot_parts (trees a.nodes) (slots_of x))) where
    each_at : (k : ℕ) (x : Node) → slice_get a.nodes k ≡ Some x → ((q : Part) → Stands a q → rank q < suc k → EachNode P (tree_at a q)) → EachNode P (unfolded a k x)
    each_at k x h ih = (at_nodes k x h, each_slots (suc k) ih (slots_of x) (parts_before a k x fit h))

    -- of all types of a rank below the bound
    each_below : (bound : ℕ) (q : Part) → Stands a q → rank q < bound → EachNode P (tree_at a q)
    each_below zero q s w = absurd (omega (arith, w))
    each_below (suc m) (p.Resource r) s w = (leaves.references _ _, tt)
    each_below (suc m) (p.Defined i) s w = subst (EachNode P) (sym (tree_in-unfolds a i.index (n.Defined s.0) fit s.1)) (each_at i.index (n.Defined s.0) s.1 (λ q t l. each_below m q t (omega (arith, l, w))))
    each_below (suc m) (p.Func i) s w = subst (EachNode P) (sym (tree_in-unfolds a i.index (n.Func s.0) fit s.1)) (each_at i.index (n.Func s.0) s.1 (λ q t l. each_below m q t (omega (arith, l, w))))
    each_below (suc m) (p.Instance i) s w = subst (EachNode P) (sym (tree_in-unfolds a i.index (n.Instance s.0) fit s.1)) (each_at i.index (n.Instance s.0) s.1 (λ q t l. each_below m q t (omega (arith, l, w))))
    each_below (suc m) (p.Component i) s w = subst (EachNode P) (sym (tree_in-unfolds a i.index (n.Component s.0) fit s.1)) (each_at i.index (n.Component s.0) s.1 (λ q t l. each_below m q t (omega (arith, l, w))))
    each_below (suc m) (p.Module i) s w = subst (EachNode P) (sym (tree_in-unfolds a i.index (n.Module s.0) fit s.1)) (each_at i.index (n.Module s.0) s.1 (λ q t l. each_below m q t (omega (arith, l, w))))
    each_below (suc m) (p.CoreInstance i) s w = subst (EachNode P) (sym (tree_in-unfolds a i.index (n.CoreInstance s.0) fit s.1)) (each_at i.index (n.CoreInstance s.0) s.1 (λ q t l. each_below m q t (omega (arith, l, w))))
    each_below (suc m) (p.Core i) s w = (leaves.types i.index, tt)

    pub each_type : (q : Part) → Stands a q → EachNode P (tree_at a q)
    each_type q s = each_below (suc (rank q)) q s (omega arith)

-- ## What is owned is led to

-- a node's own place is no matter
led_at : (j k : ℕ) (x : Node) (ps : Parts Name Name) → HeadLed (head_of j x) ps → HeadLed (head_of k x) ps
led_at j k (n.Defined s) ps l = l
led_at j k (n.Func s) ps l = l
led_at j k (n.Instance s) ps l = l
led_at j k (n.Component s) ps l = l
led_at j k (n.Module s) ps l = l
led_at j k (n.CoreInstance s) ps l = l

pub leaves_led : HoldsOfLeaves HeadLed
leaves_led = record { left_out = tt; primitives = λ q. tt; references = λ r s. tt; types = λ i. tt; items = λ e. tt; entities = λ c r. tt }

pub all_led : (a : Arena) → AllFit a → (q : Part) → Stands a q → AllPathsLead (tree_at a q)
all_led a fit q s = each_type HeadLed leaves_led a fit (λ k x h. led_at _ k x (slot_parts (trees a.nodes) (slots_of x)) (fits_again a k x fit h).led) q s
