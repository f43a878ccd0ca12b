-- Free resources, gathered in a set.
use Rattle.std.proofs.Common.{◌≡◌, ℕ, zero, suc, ◌+◌, ◌<◌, ◌≤◌, max, List, [], ◌∷◌, ◌++◌, length, take, take-suc, get_or, refl, sym, ◌∙◌, ap, subst, add-one, arith, inl, inr, ⊎_elim, true, false, eqb}
use Rattle.std.specs.Prelude.{◌⊎◌, All, Contains, Some}
use Rattle.std.specs.Map.{lookup}
use Rattle.std.proofs.lemmas.Bool.{false≢true}
use Rattle.std.proofs.lemmas.List.Elements.{All-nil, All-cons, All-head, All-tail, All-append, All-weaker, Contains-append_left, Contains-append_right, Contains-append_cases}
use Rattle.wcv_core.specs.Names.{Name, number, member}
use Rattle.wcv_types.specs.Arena.{Arena}
use Rattle.wcv_types.specs.Entities.{entity_slot, entry_parts, entry_trees, EntryStands, SlotStands}
use Rattle.wcv_types.specs.Gathering.{Continues, Gains, FreeAmong, FreeInSome, AllGathered, AllKnown}
use Rattle.wcv_types.specs.Resources.{owns, RefersTo, Free, FreeIn, mentions, mentions_in}
use Rattle.wcv_types.specs.Sets.{has_place, with_place, with_set, with_resource, resource_names}
use Rattle.wcv_types.specs.Standing.{Stands, StandsBefore, Unfolds}
use Rattle.wcv_types.specs.Tree.{Text, resource, node, head, Parts, none, part}
use Rattle.wcv_types.specs.Unfold.{Type_tree, Slot, leaf, at, both, core, rank, slot_refs, slot_tree, parts_at, trees, tree_at, tree_in}
use Rattle.wcv_types.specs.declared.arena.Node.TheVariants as n
use Rattle.wcv_types.specs.declared.ids.AliasableResourceId.{AliasableResourceId}
use Rattle.wcv_types.specs.declared.ids.ComponentInstanceTypeId.{ComponentInstanceTypeId}
use Rattle.wcv_types.specs.declared.ids.ComponentTypeId.{ComponentTypeId}
use Rattle.wcv_types.specs.declared.ids.Part.{Part}
use Rattle.wcv_types.specs.declared.ids.Part.TheVariants as p
use Rattle.wcv_types.specs.declared.ids.ResourceId.{ResourceId}
use Rattle.wcv_types.specs.declared.item_map.ComponentItem.{ComponentItem}
use Rattle.wcv_types.proofs.Gaining.{or_none, none_or, kept, gains_then, gains_as, gains_push}
use Rattle.wcv_types.proofs.SortLaws.{free_slot, slot_free, free_below, free_above}
use Rattle.wcv_types.proofs.Unfolding.{head_in}
use Rattle.wcv_types.proofs.Placed.{place_found, place_put, placed_found, placed_put}

-- ## Nodes that were seen

module _ (a : Arena) where
  abbrev Gathered : List ResourceId → ℕ → Type 0
  Gathered rs k = (r : Name) → Free r (tree_in (trees a.nodes) k) → member r (resource_names rs) ≡ true

  pub seen_gathered : (ks : List ℕ) (rs : List ResourceId) (k : ℕ) → AllGathered a ks rs → has_place ks k ≡ true → Gathered rs k
  seen_gathered ks rs k h e = place_found (Gathered rs) ks k h e

  pub gathered_kept : (ks : List ℕ) (old new : List ResourceId) → AllGathered a ks old → Continues old new → AllGathered a ks new
  gathered_kept ks old new h c = All-weaker (Gathered old) (Gathered new) (λ k g r f. kept old new r c (g r f)) ks h

  pub gathered_push : (ks : List ℕ) (rs : List ResourceId) (k : ℕ) → AllGathered a ks rs → Gathered rs k → AllGathered a (with_place ks k) rs
  gathered_push ks rs k h g = place_put (Gathered rs) ks k h g

-- ## Sets that are known

module _ (a : Arena) where
  abbrev Known : ℕ × List ResourceId → Type 0
  Known k = Gains (λ r. Free r (tree_in (trees a.nodes) k.0)) [] k.1

  pub known_gains : (ks : List (ℕ × List ResourceId)) (k : ℕ) (rs : List ResourceId) → AllKnown a ks → lookup (eqb k) ks ≡ Some rs → Gains (λ r. Free r (tree_in (trees a.nodes) k)) [] rs
  known_gains ks k rs h e = placed_found Known ks k rs h e

  pub known_put : (ks : List (ℕ × List ResourceId)) (k : ℕ) (rs : List ResourceId) → AllKnown a ks → Gains (λ r. Free r (tree_in (trees a.nodes) k)) [] rs → AllKnown a (with_set ks k rs)
  known_put ks k rs h g = placed_put Known ks k rs h g

-- ## Trees

-- where no reference stands, nothing is free
mutual
  pub closed : (t : Type_tree) (r : Name) → mentions t ≡ false → Free r t → ⊥
  closed (node (resource q s) ps) r e f = false≢true (sym e)
  closed (node h ps) r e (inl x) = x
  closed (node h ps) r e (inr x) = closed_in ps r e x.1

  closed_in : (ps : Parts Name Name) (r : Name) → mentions_in ps ≡ false → FreeIn r ps → ⊥
  closed_in none r e f = f
  closed_in (part k t ps) r e (inl f) = closed t r (or_none (mentions t) (mentions_in ps) e) f
  closed_in (part k t ps) r e (inr f) = closed_in ps r (none_or (mentions t) (mentions_in ps) e) f

module _ (a : Arena) where
  -- the tree of a node, by its place
  pub node_tree : (q : Part) (k : ℕ) → rank q ≡ suc k → tree_at a q ≡ tree_in (trees a.nodes) k
  node_tree (p.Resource r) k h = absurd (omega (arith, h))
  node_tree (p.Core i) k h = absurd (omega (arith, h))
  node_tree q k h = ap (tree_in (trees a.nodes)) (omega (arith, h))

  -- of what is no node, in a resource reference alone
  pub leaf_closed : (q : Part) (r : Name) → rank q ≡ 0 → ((x : AliasableResourceId) → q ≡ p.Resource x → ⊥) → Free r (tree_at a q) → ⊥
  leaf_closed (p.Resource x) r h o f = o x refl
  leaf_closed (p.Core i) r h o (inl x) = x
  leaf_closed (p.Core i) r h o (inr x) = x.1
  leaf_closed q r h o f = absurd (omega (arith, h))

  pub gains_reference : (q : AliasableResourceId) (xs ys : List ResourceId) → ys ≡ with_resource xs q.resource → Gains (λ r. Free r (tree_at a (p.Resource q))) xs ys
  gains_reference q xs ys w =
      gains_as (λ r. r ≡ number q.resource.index) (λ r. Free r (tree_at a (p.Resource q))) xs ys (λ r i. inl i) back (subst (Gains (λ r. r ≡ number q.resource.index) xs) (sym w) (gains_push xs q.resource))
    where
      back : (r : Name) → Free r (tree_at a (p.Resource q)) → r ≡ number q.resource.index
      back r (inl f) = f
      back r (inr f) = absurd f.1

  -- ## Nodes

  -- a node is no resource reference
  pub no_reference : (q : Part) (r : Name) → 0 < rank q → Stands a q → RefersTo r (head (tree_at a q)) → ⊥
  no_reference (p.Resource x) r w s f = absurd (omega (arith, w))
  no_reference (p.Core i) r w s f = absurd (omega (arith, w))
  no_reference (p.Defined i) r w s f = subst (RefersTo r) (head_in a.nodes i.index (n.Defined s.0) s.1) f
  no_reference (p.Func i) r w s f = subst (RefersTo r) (head_in a.nodes i.index (n.Func s.0) s.1) f
  no_reference (p.Instance i) r w s f = subst (RefersTo r) (head_in a.nodes i.index (n.Instance s.0) s.1) f
  no_reference (p.Component i) r w s f = subst (RefersTo r) (head_in a.nodes i.index (n.Component s.0) s.1) f
  no_reference (p.Module i) r w s f = subst (RefersTo r) (head_in a.nodes i.index (n.Module s.0) s.1) f
  no_reference (p.CoreInstance i) r w s f = subst (RefersTo r) (head_in a.nodes i.index (n.CoreInstance s.0) s.1) f

  -- and where it is no instance and no component it owns nothing
  pub owns_nothing : (q : Part) (r : Name) → Stands a q → ((x : ComponentInstanceTypeId) → q ≡ p.Instance x → ⊥) → ((x : ComponentTypeId) → q ≡ p.Component x → ⊥) → owns (head (tree_at a q)) r ≡ false
  owns_nothing (p.Instance i) r s o o' = absurd (o i refl)
  owns_nothing (p.Component i) r s o o' = absurd (o' i refl)
  owns_nothing (p.Resource x) r s o o' = refl
  owns_nothing (p.Core i) r s o o' = refl
  owns_nothing (p.Defined i) r s o o' = ap (λ h. owns h r) (head_in a.nodes i.index (n.Defined s.0) s.1)
  owns_nothing (p.Func i) r s o o' = ap (λ h. owns h r) (head_in a.nodes i.index (n.Func s.0) s.1)
  owns_nothing (p.Module i) r s o o' = ap (λ h. owns h r) (head_in a.nodes i.index (n.Module s.0) s.1)
  owns_nothing (p.CoreInstance i) r s o o' = ap (λ h. owns h r) (head_in a.nodes i.index (n.CoreInstance s.0) s.1)

  -- from its parts
  pub gains_node : (q : Part) (xs ys : List ResourceId) → Unfolds a q → ((r : Name) → RefersTo r (head (tree_at a q)) → ⊥) → ((r : Name) → owns (head (tree_at a q)) r ≡ false) → Gains (λ r. FreeInSome a r (parts_at a q)) xs ys →
      Gains (λ r. Free r (tree_at a q)) xs ys
  gains_node q xs ys u w o g = gains_as (λ r. FreeInSome a r (parts_at a q)) (λ r. Free r (tree_at a q)) xs ys (λ r x. free_above a r q x.0 u (o r) x.1 x.2) back g
    where
      back : (r : Name) → Free r (tree_at a q) → FreeInSome a r (parts_at a q)
      back r f = ⊎_elim (λ (x : RefersTo r (head (tree_at a q))). absurd (w r x)) (λ (x : (owns (head (tree_at a q)) r ≡ false) × FreeInSome a r (parts_at a q)). x.1) (free_below a r q u f)

  abbrev pub Outside : Part → List ResourceId → Name → Type 0
  Outside q inside r = (member r (resource_names inside) ≡ true) × (owns (head (tree_at a q)) r ≡ false)

  -- and without what it owns
  pub gains_scope : (q : Part) (inside xs ys : List ResourceId) → Unfolds a q → ((r : Name) → RefersTo r (head (tree_at a q)) → ⊥) → Gains (λ r. FreeInSome a r (parts_at a q)) [] inside → Gains (Outside q inside) xs ys →
      Gains (λ r. Free r (tree_at a q)) xs ys
  gains_scope q inside xs ys u w g h = gains_as (Outside q inside) (λ r. Free r (tree_at a q)) xs ys to back h
    where
      found : (r : Name) → (member r (resource_names []) ≡ true) ⊎ FreeInSome a r (parts_at a q) → FreeInSome a r (parts_at a q)
      found r (inl x) = absurd (false≢true x)
      found r (inr x) = x

      to : (r : Name) → Outside q inside r → Free r (tree_at a q)
      to r y = let x = found r (g.only r y.0) in free_above a r q x.0 u y.1 x.1 x.2

      back : (r : Name) → Free r (tree_at a q) → Outside q inside r
      back r f = ⊎_elim (λ (x : RefersTo r (head (tree_at a q))). absurd (w r x)) (λ (x : (owns (head (tree_at a q)) r ≡ false) × FreeInSome a r (parts_at a q)). (g.all r x.1, x.0)) (free_below a r q u f)

  -- ## Lists of parts

  only_one : (q x : Part) → Contains (q ∷ []) x → q ≡ x
  only_one q x (zero, l, e) = e
  only_one q x (suc k, l, e) = absurd (omega (arith, l))

  -- one more part
  pub gains_next : (qs : List Part) (k : ℕ) (d : Part) (xs ys zs : List ResourceId) → k < length qs → Gains (λ r. FreeInSome a r (take k qs)) xs ys → Gains (λ r. Free r (tree_at a (get_or qs k d))) ys zs →
      Gains (λ r. FreeInSome a r (take (k + 1) qs)) xs zs
  gains_next qs k d xs ys zs w g h =
      let more : take (k + 1) qs ≡ take k qs ++ q ∷ [] = ap (λ (j : ℕ). take j qs) (add-one k) ∙ take-suc qs k d w in
      subst (λ (ds : List Part). Gains (λ r. FreeInSome a r ds) xs zs) (sym more)
      (gains_as (λ r. FreeInSome a r (take k qs) ⊎ Free r (tree_at a q)) (λ r. FreeInSome a r (take k qs ++ q ∷ [])) xs zs to back (gains_then (λ r. FreeInSome a r (take k qs)) (λ r. Free r (tree_at a q)) xs ys zs g h))
    where
      q : Part
      q = get_or qs k d

      to : (r : Name) → FreeInSome a r (take k qs) ⊎ Free r (tree_at a q) → FreeInSome a r (take k qs ++ q ∷ [])
      to r (inl f) = (f.0, Contains-append_left (take k qs) (q ∷ []) f.0 f.1, f.2)
      to r (inr f) = (q, Contains-append_right (take k qs) (q ∷ []) q (0, omega arith, refl), f)

      back : (r : Name) → FreeInSome a r (take k qs ++ q ∷ []) → FreeInSome a r (take k qs) ⊎ Free r (tree_at a q)
      back r f =
          ⊎_elim (λ (c : Contains (take k qs) f.0). inl (f.0, c, f.2)) (λ (c : Contains (q ∷ []) f.0). inr (subst (λ (x : Part). Free r (tree_at a x)) (sym (only_one q f.0 c)) f.2))
          (Contains-append_cases (take k qs) (q ∷ []) f.0 f.1)

  -- ## Entries

  pub refs_all : (s : Slot) → SlotStands a s → All (Stands a) (slot_refs s)
  refs_all (leaf o) h = All-nil (Stands a)
  refs_all (at q) h = All-cons (Stands a) q [] h (All-nil (Stands a))
  refs_all (both c r) h = All-cons (Stands a) c (r ∷ []) h.0 (All-cons (Stands a) r [] h.1 (All-nil (Stands a)))
  refs_all (core e) h = All-nil (Stands a)

  pub entries_all : (es : List (Text × ComponentItem)) → All (EntryStands a) es → All (Stands a) (entry_parts es)
  entries_all [] h = All-nil (Stands a)
  entries_all (e ∷ es) h =
      All-append (Stands a) (slot_refs (entity_slot e.1.ty)) (entry_parts es) (refs_all (entity_slot e.1.ty) (All-head (EntryStands a) e es h)) (entries_all es (All-tail (EntryStands a) e es h))

  pub gains_entity : (s : Slot) (xs ys : List ResourceId) → Gains (λ r. FreeInSome a r (slot_refs s)) xs ys → Gains (λ r. Free r (slot_tree (trees a.nodes) s)) xs ys
  gains_entity s xs ys g = gains_as (λ r. FreeInSome a r (slot_refs s)) (λ r. Free r (slot_tree (trees a.nodes) s)) xs ys (λ r f. slot_free a r s f) (λ r f. free_slot a r s f) g

  among : (es : List (Text × ComponentItem)) (r : Name) → FreeInSome a r (entry_parts es) → FreeAmong (entry_trees (trees a.nodes) es) r
  among [] r f = omega (arith, f.1.1)
  among (e ∷ es) r f =
      ⊎_elim (λ (c : Contains (slot_refs (entity_slot e.1.ty)) f.0). inl (slot_free a r (entity_slot e.1.ty) (f.0, c, f.2))) (λ (c : Contains (entry_parts es) f.0). inr (among es r (f.0, c, f.2)))
      (Contains-append_cases (slot_refs (entity_slot e.1.ty)) (entry_parts es) f.0 f.1)

  in_entries : (es : List (Text × ComponentItem)) (r : Name) → FreeAmong (entry_trees (trees a.nodes) es) r → FreeInSome a r (entry_parts es)
  in_entries [] r f = absurd f
  in_entries (e ∷ es) r (inl f) = let w = free_slot a r (entity_slot e.1.ty) f in (w.0, Contains-append_left (slot_refs (entity_slot e.1.ty)) (entry_parts es) w.0 w.1, w.2)
  in_entries (e ∷ es) r (inr f) = let w = in_entries es r f in (w.0, Contains-append_right (slot_refs (entity_slot e.1.ty)) (entry_parts es) w.0 w.1, w.2)

  pub gains_entries : (es : List (Text × ComponentItem)) (xs ys : List ResourceId) → Gains (λ r. FreeInSome a r (entry_parts es)) xs ys → Gains (FreeAmong (entry_trees (trees a.nodes) es)) xs ys
  gains_entries es xs ys g = gains_as (λ r. FreeInSome a r (entry_parts es)) (FreeAmong (entry_trees (trees a.nodes) es)) xs ys (λ r f. among es r f) (λ r f. in_entries es r f) g

-- ## The measure

-- the greatest rank
abbrev pub ranks : List Part → ℕ
ranks [] = 0
ranks (q ∷ qs) = max (rank q) (ranks qs)

pub rank_within : (qs : List Part) (k : ℕ) (d : Part) → k < length qs → rank (get_or qs k d) ≤ ranks qs
rank_within [] k d w = absurd (omega (arith, w))
rank_within (x ∷ qs) zero d w = omega arith
rank_within (x ∷ qs) (suc k) d w = omega (arith, rank_within qs k d (omega (arith, w)))

module _ (a : Arena) (bound : ℕ) where
  ranks_before : (qs : List Part) → All (StandsBefore a bound) qs → 0 < bound → ranks qs < bound
  ranks_before [] h w = w
  ranks_before (q ∷ qs) h w = omega (arith, (All-head (StandsBefore a bound) q qs h).before, ranks_before qs (All-tail (StandsBefore a bound) q qs h) w)

  -- what stands before a node may be gone through
  pub parts_ready : (qs ds : List Part) → ds ≡ qs → All (StandsBefore a bound) qs → 0 < bound → (ranks ds < bound) × All (Stands a) ds
  parts_ready qs ds e h w = subst (λ (xs : List Part). (ranks xs < bound) × All (Stands a) xs) (sym e) (ranks_before qs h w, All-weaker (StandsBefore a bound) (Stands a) (λ q s. s.stands) qs h)
