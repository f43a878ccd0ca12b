-- Types by ids agree with their trees: what is free in them, and what they become.
use Rattle.std.proofs.Common.{◌≡◌, ℕ, zero, suc, List, [], ◌∷◌, length, refl, sym, ◌∙◌, ap, subst, inl, inr, Bool, true, false, ◌||◌, Some, None, arith}
use Rattle.std.specs.Prelude.{◌⊎◌, Option, Contains}
use Rattle.std.proofs.lemmas.List.Elements.{Contains-append_left, Contains-append_right}
use Rattle.wcv_core.specs.Names.{Name, number}
use Rattle.wcv_types.specs.Tree.{Head, nothing, primitive, resource, defined, func, instance, component, type_entity, core_module, core_instance, core_type, core_item, node, Parts, part, head, type_of}
use Rattle.wcv_types.specs.Arena.{Arena}
use Rattle.wcv_types.specs.Gathering.{FreeInSome}
use Rattle.wcv_types.specs.Identity.{Identity, of_node, identity_at}
use Rattle.wcv_types.specs.Resources.{owns, RefersTo, Free, FreeIn}
use Rattle.wcv_types.specs.Replacing.{Replacement, given_at, given_or, moves, changed_in, new_head, replaced, replaced_in}
use Rattle.wcv_types.specs.Rebuild.{refill, anew, MadeAgain, BecomesIn}
use Rattle.wcv_types.specs.Standing.{identity_of, Unfolds}
use Rattle.wcv_types.specs.Unfold.{Slot, leaf, at, both, core, Slots, leaf_tree, part_tree, slot_refs, slot_tree, slots_at, slot_parts, parts_in, parts_at, place, rank, trees, tree_at}
use Rattle.wcv_types.specs.declared.ids.Part.{Part}
use Rattle.wcv_types.specs.declared.ids.Part.TheVariants as p

-- ## What is free

module _ (a : Arena) (r : Name) where
  leaf_free : (o : Option _) → Free r (leaf_tree o) → ⊥
  leaf_free None (inl x) = x
  leaf_free None (inr x) = x.1
  leaf_free (Some q) (inl x) = x
  leaf_free (Some q) (inr x) = x.1

  -- in one of the parts
  pub free_slot : (s : Slot) → Free r (slot_tree (trees a.nodes) s) → FreeInSome a r (slot_refs s)
  free_slot (leaf o) f = absurd (leaf_free o f)
  free_slot (at q) f = (q, (0, omega arith, refl), f)
  free_slot (core x) (inl f) = absurd f
  free_slot (core x) (inr f) = absurd f.1
  free_slot (both c d) (inl x) = absurd x
  free_slot (both c d) (inr (e, inl f)) = (c, (0, omega arith, refl), f)
  free_slot (both c d) (inr (e, inr (inl f))) = (d, (1, omega arith, refl), f)
  free_slot (both c d) (inr (e, inr (inr f))) = absurd f

  pub slot_free : (s : Slot) → FreeInSome a r (slot_refs s) → Free r (slot_tree (trees a.nodes) s)
  slot_free (leaf o) (q, c, f) = absurd (omega (arith, c.1))
  slot_free (core x) (q, c, f) = absurd (omega (arith, c.1))
  slot_free (at s) (q, (zero, l, e), f) = subst (λ x. Free r (tree_at a x)) (sym e) f
  slot_free (at s) (q, (suc n, l, e), f) = absurd (omega (arith, l))
  slot_free (both s t) (q, (zero, l, e), f) = inr (refl, inl (subst (λ x. Free r (tree_at a x)) (sym e) f))
  slot_free (both s t) (q, (suc zero, l, e), f) = inr (refl, inr (inl (subst (λ x. Free r (tree_at a x)) (sym e) f)))
  slot_free (both s t) (q, (suc (suc n), l, e), f) = absurd (omega (arith, l))

  free_parts : (ss : Slots) → FreeIn r (slot_parts (trees a.nodes) ss) → FreeInSome a r (parts_in ss)
  free_parts [] f = absurd f
  free_parts (s ∷ ss) (inl f) = let w = free_slot s.1 f in (w.0, Contains-append_left (slot_refs s.1) (parts_in ss) w.0 w.1, w.2)
  free_parts (s ∷ ss) (inr f) = let w = free_parts ss f in (w.0, Contains-append_right (slot_refs s.1) (parts_in ss) w.0 w.1, w.2)

  pub free_below : (q : Part) → Unfolds a q → Free r (tree_at a q) → RefersTo r (head (tree_at a q)) ⊎ ((owns (head (tree_at a q)) r ≡ false) × FreeInSome a r (parts_at a q))
  free_below q u f = go (subst (Free r) u.tree f)
    where
      go : Free r (node (head (tree_at a q)) (slot_parts (trees a.nodes) (slots_at a.nodes q))) → RefersTo r (head (tree_at a q)) ⊎ ((owns (head (tree_at a q)) r ≡ false) × FreeInSome a r (parts_at a q))
      go (inl x) = inl x
      go (inr x) = inr (x.0, free_parts (slots_at a.nodes q) x.1)

  -- in a part, it is so in the whole
  in_slots : (ss : Slots) (q : Part) → Contains (parts_in ss) q → Free r (tree_at a q) → FreeIn r (slot_parts (trees a.nodes) ss)
  in_slots [] q c f = absurd (omega (arith, c.1))
  in_slots ((k, leaf o) ∷ ss) q c f = inr (in_slots ss q c f)
  in_slots ((k, core x) ∷ ss) q c f = inr (in_slots ss q c f)
  in_slots ((k, at s) ∷ ss) q (zero, l, e) f = inl (subst (λ x. Free r (tree_at a x)) (sym e) f)
  in_slots ((k, at s) ∷ ss) q (suc n, l, e) f = inr (in_slots ss q (n, omega (arith, l), e) f)
  in_slots ((k, both s t) ∷ ss) q (zero, l, e) f = inl (inr (refl, inl (subst (λ x. Free r (tree_at a x)) (sym e) f)))
  in_slots ((k, both s t) ∷ ss) q (suc zero, l, e) f = inl (inr (refl, inr (inl (subst (λ x. Free r (tree_at a x)) (sym e) f))))
  in_slots ((k, both s t) ∷ ss) q (suc (suc n), l, e) f = inr (in_slots ss q (n, omega (arith, l), e) f)

  pub free_above : (q p : Part) → Unfolds a q → owns (head (tree_at a q)) r ≡ false → Contains (parts_at a q) p → Free r (tree_at a p) → Free r (tree_at a q)
  free_above q p u o c f = subst (Free r) (sym u.tree) (inr (o, in_slots (slots_at a.nodes q) p c f))

-- ## What a node becomes

place_last : (q : Part) (n : ℕ) → rank q ≡ suc n → place q ≡ n
place_last (p.Resource r) n h = absurd (omega (arith, h))
place_last (p.Core i) n h = absurd (omega (arith, h))
place_last (p.Defined i) n h = omega (arith, h)
place_last (p.Func i) n h = omega (arith, h)
place_last (p.Instance i) n h = omega (arith, h)
place_last (p.Component i) n h = omega (arith, h)
place_last (p.Module i) n h = omega (arith, h)
place_last (p.CoreInstance i) n h = omega (arith, h)

module _ (a : Arena) (m : Replacement) where
  leaf_stays : (o : Option _) → leaf_tree o ≡ replaced m (leaf_tree o)
  leaf_stays None = refl
  leaf_stays (Some q) = refl

  -- the parts that were put into the slots make the replaced parts
  pub slots_become : (ss : Slots) (qs : List Part) → BecomesIn a m (parts_in ss) qs → slot_parts (trees a.nodes) (refill ss qs) ≡ replaced_in m (slot_parts (trees a.nodes) ss)
  slots_become [] qs b = refl
  slots_become ((k, leaf o) ∷ ss) qs b =
      let e : leaf_tree o ≡ replaced m (leaf_tree o) = leaf_stays o in
      let e' = slots_become ss qs b in
      λ j. part k (e j) (e' j)
  slots_become ((k, core x) ∷ ss) qs b = ap (λ ps. part k (slot_tree (trees a.nodes) (core x)) ps) (slots_become ss qs b)
  slots_become ((k, at q) ∷ ss) [] b = absurd b
  slots_become ((k, at q) ∷ ss) (r ∷ rs) b =
      let e : part_tree (trees a.nodes) r ≡ replaced m (part_tree (trees a.nodes) q) = b.0 in
      let e' = slots_become ss rs b.1 in
      λ j. part k (e j) (e' j)
  slots_become ((k, both c d) ∷ ss) [] b = absurd b
  slots_become ((k, both c d) ∷ ss) (q ∷ []) b = absurd b.1
  slots_become ((k, both c d) ∷ ss) (q ∷ r ∷ rs) b =
      let e : part_tree (trees a.nodes) q ≡ replaced m (part_tree (trees a.nodes) c) = b.0 in
      let e' : part_tree (trees a.nodes) r ≡ replaced m (part_tree (trees a.nodes) d) = b.1.0 in
      let e'' = slots_become ss rs b.1.1 in
      λ j. part k (type_of (e j) (e' j)) (e'' j)

  -- the head that is made again is the replaced head
  head_becomes : (h : Head Name Name) (k n : Name) (b : Bool) → identity_at h ≡ Some (of_node k) → m.again k ≡ n → b ≡ true → anew n h ≡ new_head m b h
  head_becomes (defined i x) k n b e g c = let i_is : i ≡ k = cc in (λ j. defined (sym g j) x) ∙ (λ j. defined (m.again (sym i_is j)) x) ∙ (λ j. new_head m (sym c j) (defined i x))
  head_becomes (func i x) k n b e g c = let i_is : i ≡ k = cc in (λ j. func (sym g j) x) ∙ (λ j. func (m.again (sym i_is j)) x) ∙ (λ j. new_head m (sym c j) (func i x))
  head_becomes (instance i x) k n b e g c = let i_is : i ≡ k = cc in (λ j. instance (sym g j) x) ∙ (λ j. instance (m.again (sym i_is j)) x) ∙ (λ j. new_head m (sym c j) (instance i x))
  head_becomes (component i x y) k n b e g c = let i_is : i ≡ k = cc in (λ j. component (sym g j) x y) ∙ (λ j. component (m.again (sym i_is j)) x y) ∙ (λ j. new_head m (sym c j) (component i x y))
  head_becomes (resource r s) k n b e g c = cc
  head_becomes nothing k n b e g c = cc
  head_becomes (primitive q) k n b e g c = cc
  head_becomes type_entity k n b e g c = cc
  head_becomes (core_module i x) k n b e g c = let i_is : i ≡ k = cc in (λ j. core_module (sym g j) x) ∙ (λ j. core_module (m.again (sym i_is j)) x) ∙ (λ j. new_head m (sym c j) (core_module i x))
  head_becomes (core_instance i x) k n b e g c = let i_is : i ≡ k = cc in (λ j. core_instance (sym g j) x) ∙ (λ j. core_instance (m.again (sym i_is j)) x) ∙ (λ j. new_head m (sym c j) (core_instance i x))
  head_becomes (core_type ty) k n b e g c = cc
  head_becomes (core_item x) k n b e g c = cc

  -- no node is given for it
  none_given : (h : Head Name Name) (k : Name) → identity_at h ≡ Some (of_node k) → m.nodes (of_node k) ≡ None → given_at m h ≡ None
  none_given h k e w = ap (λ (o : Option Identity). elim o [ None ↦ None | Some i ↦ m.nodes i ]) e ∙ w

  pub made_replaced : (b : Arena) (q made : Part) (qs : List Part) (k : Name) → Unfolds a q → identity_of q ≡ of_node k → MadeAgain a b q qs made → m.again k ≡ number (place made) → m.nodes (of_node k) ≡ None →
      BecomesIn a m (parts_at a q) qs → changed_in m (slot_parts (trees a.nodes) (slots_at a.nodes q)) ≡ true → tree_at b made ≡ replaced m (tree_at a q)
  made_replaced b q made qs k u i r g w becomes c =
      let h : Head Name Name = head (tree_at a q) in
      let ps : Parts Name Name = slot_parts (trees a.nodes) (slots_at a.nodes q) in
      let e : identity_at h ≡ Some (of_node k) = u.known ∙ ap Some i in
      let b_is : (moves m h || changed_in m ps) ≡ true = or_right (moves m h) (changed_in m ps) c in
      let last : number (place made) ≡ number (length a.nodes) = ap number (place_last made (length a.nodes) r.last) in
      let top : anew (number (length a.nodes)) h ≡ new_head m (moves m h || changed_in m ps) h = head_becomes h k (number (length a.nodes)) (moves m h || changed_in m ps) e (g ∙ last) b_is in
      let below : slot_parts (trees a.nodes) (refill (slots_at a.nodes q) qs) ≡ replaced_in m ps = slots_become (slots_at a.nodes q) qs becomes in
      r.tree ∙ (λ j. node (top j) (below j)) ∙ ap (λ o. given_or o (node (new_head m (moves m h || changed_in m ps) h) (replaced_in m ps))) (sym (none_given h k e w)) ∙ ap (replaced m) (sym u.tree)
    where
      or_right : (x y : Bool) → y ≡ true → (x || y) ≡ true
      or_right true y e = refl
      or_right false y e = e
