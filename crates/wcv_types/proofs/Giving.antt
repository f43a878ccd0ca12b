-- The names in the trees of an arena were given by it.
use Rattle.std.proofs.Common.{◌≡◌, ℕ, zero, suc, ◌<◌, List, [], ◌∷◌, ◌++◌, map, sym, subst, arith, Some, None}
use Rattle.std.specs.Prelude.{Option, slice_get, All}
use Rattle.std.proofs.lemmas.Option.{slice_get_within}
use Rattle.std.proofs.lemmas.List.Elements.{All-nil, All-cons, All-append, All-head, All-tail}
use Rattle.wcv_types.specs.Arena.{Arena}
use Rattle.wcv_types.specs.Given.{GaveResource, GaveIdentity, NamesGiven, AllNamesGiven}
use Rattle.wcv_core.specs.Names.{Name}
use Rattle.wcv_types.specs.Rename.{HeadNames, EachNameIn}
use Rattle.wcv_types.specs.Resources.{owned_by}
use Rattle.wcv_types.specs.Tree.{firsts}
use Rattle.wcv_types.specs.Standing.{Stands, StandsBefore, AllFit}
use Rattle.wcv_types.specs.Unfold.{Slot, leaf, at, both, core, Slots, rank, head_of, resource_path, leaf_tree, slot_refs, slot_tree, slots_of, slot_parts, parts_in, trees, tree_at, unfolded}
use Rattle.wcv_types.specs.declared.arena.Node.{Node}
use Rattle.wcv_types.specs.declared.arena.Node.TheVariants as n
use Rattle.wcv_types.specs.declared.ids.Part.{Part}
use Rattle.wcv_types.specs.declared.ids.Part.TheVariants as p
use Rattle.wcv_types.proofs.AddedAgain.{owned_given}
use Rattle.wcv_types.proofs.Unfolding.{all_left, all_right, tree_in-unfolds, parts_before}

module _ (a : Arena) where
  given_leaf : (o : Option _) → NamesGiven a (leaf_tree o)
  given_leaf None = (tt, tt)
  given_leaf (Some q) = (tt, tt)

  given_firsts : (ps : List (Name × List ℕ)) → All (GaveResource a) (firsts ps) → All (λ p. GaveResource a p.0) ps
  given_firsts [] h = All-nil (λ (p : Name × List ℕ). GaveResource a p.0)
  given_firsts (p ∷ ps) h = All-cons (λ (p : Name × List ℕ). GaveResource a p.0) p ps (All-head (GaveResource a) p.0 (firsts ps) h) (given_firsts ps (All-tail (GaveResource a) p.0 (firsts ps) h))

  -- and back
  first_given : (ps : List (Name × List ℕ)) → All (λ p. GaveResource a p.0) ps → All (GaveResource a) (firsts ps)
  first_given [] h = All-nil (GaveResource a)
  first_given (p ∷ ps) h =
      All-cons (GaveResource a) p.0 (firsts ps) (All-head (λ (q : Name × List ℕ). GaveResource a q.0) p ps h) (first_given ps (All-tail (λ (q : Name × List ℕ). GaveResource a q.0) p ps h))

  pub firsts_given : (ps qs : List (Name × List ℕ)) → All (λ p. GaveResource a p.0) ps → All (λ p. GaveResource a p.0) qs → All (GaveResource a) (firsts ps ++ firsts qs)
  firsts_given ps qs h i = All-append (GaveResource a) (firsts ps) (firsts qs) (first_given ps h) (first_given qs i)

  -- of the parts that stand before a node, where it is so of each
  module _ (bound : ℕ) (ih : (q : Part) → Stands a q → rank q < bound → NamesGiven a (tree_at a q)) where
    given_slot : (s : Slot) → All (StandsBefore a bound) (slot_refs s) → NamesGiven a (slot_tree (trees a.nodes) s)
    given_slot (leaf o) h = given_leaf o
    given_slot (core e) h = (tt, tt)
    given_slot (at q) h = let w = All-head (StandsBefore a bound) q [] h in ih q w.stands w.before
    given_slot (both c r) h =
        let v = All-head (StandsBefore a bound) c (r ∷ []) h in
        let w = All-head (StandsBefore a bound) r [] (All-tail (StandsBefore a bound) c (r ∷ []) h) in
        (tt, (ih c v.stands v.before, (ih r w.stands w.before, tt)))

    given_slots : (ss : Slots) → All (StandsBefore a bound) (parts_in ss) → EachNameIn (GaveResource a) (GaveIdentity a) (slot_parts (trees a.nodes) ss)
    given_slots [] h = tt
    given_slots (s ∷ ss) h =
        (given_slot s.1 (all_left (StandsBefore a bound) (slot_refs s.1) (parts_in ss) h), given_slots ss (all_right (StandsBefore a bound) (slot_refs s.1) (parts_in ss) h))

  module _ (fit : AllFit a) where
    given_head : (k : ℕ) (x : Node) → slice_get a.nodes k ≡ Some x → All (GaveResource a) (owned_by (head_of k x)) → HeadNames (GaveResource a) (GaveIdentity a) (head_of k x)
    given_head k (n.Defined s) h o = slice_get_within a.nodes k (n.Defined s) h
    given_head k (n.Func s) h o = slice_get_within a.nodes k (n.Func s) h
    given_head k (n.Instance s) h o = (slice_get_within a.nodes k (n.Instance s) h, o)
    given_head k (n.Component s) h o =
        let ins : List (Name × List ℕ) = map resource_path s.imported_resources in
        let outs : List (Name × List ℕ) = map resource_path s.defined_resources in
        (slice_get_within a.nodes k (n.Component s) h, given_firsts ins (all_left (GaveResource a) (firsts ins) (firsts outs) o), given_firsts outs (all_right (GaveResource a) (firsts ins) (firsts outs) o))
    given_head k (n.Module s) h o = slice_get_within a.nodes k (n.Module s) h
    given_head k (n.CoreInstance s) h o = slice_get_within a.nodes k (n.CoreInstance s) h

    given_node : (k : ℕ) (x : Node) → slice_get a.nodes k ≡ Some x → ((q : Part) → Stands a q → rank q < suc k → NamesGiven a (tree_at a q)) → NamesGiven a (unfolded a k x)
    given_node k x h ih = (given_head k x h (owned_given a k k x fit h), given_slots (suc k) ih (slots_of x) (parts_before a k x fit h))

    -- of all types of a rank below the bound
    given_below : (bound : ℕ) (q : Part) → Stands a q → rank q < bound → NamesGiven a (tree_at a q)
    given_below zero q s w = absurd (omega (arith, w))
    given_below (suc m) (p.Resource r) s w = ((s.resource, s.stamp), tt)
    given_below (suc m) (p.Defined i) s w =
        subst (NamesGiven a) (sym (tree_in-unfolds a i.index (n.Defined s.0) fit s.1)) (given_node i.index (n.Defined s.0) s.1 (λ q t l. given_below m q t (omega (arith, l, w))))
    given_below (suc m) (p.Func i) s w =
        subst (NamesGiven a) (sym (tree_in-unfolds a i.index (n.Func s.0) fit s.1)) (given_node i.index (n.Func s.0) s.1 (λ q t l. given_below m q t (omega (arith, l, w))))
    given_below (suc m) (p.Instance i) s w =
        subst (NamesGiven a) (sym (tree_in-unfolds a i.index (n.Instance s.0) fit s.1)) (given_node i.index (n.Instance s.0) s.1 (λ q t l. given_below m q t (omega (arith, l, w))))
    given_below (suc m) (p.Component i) s w =
        subst (NamesGiven a) (sym (tree_in-unfolds a i.index (n.Component s.0) fit s.1)) (given_node i.index (n.Component s.0) s.1 (λ q t l. given_below m q t (omega (arith, l, w))))
    given_below (suc m) (p.Module i) s w =
        subst (NamesGiven a) (sym (tree_in-unfolds a i.index (n.Module s.0) fit s.1)) (given_node i.index (n.Module s.0) s.1 (λ q t l. given_below m q t (omega (arith, l, w))))
    given_below (suc m) (p.CoreInstance i) s w =
        subst (NamesGiven a) (sym (tree_in-unfolds a i.index (n.CoreInstance s.0) fit s.1)) (given_node i.index (n.CoreInstance s.0) s.1 (λ q t l. given_below m q t (omega (arith, l, w))))
    given_below (suc m) (p.Core i) s w = (tt, tt)

    pub all_given : AllNamesGiven a
    all_given q s = given_below (suc (rank q)) q s (omega arith)
