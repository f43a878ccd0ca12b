-- What an arena makes, by ids, is what is made of their trees under the names that it gave.
use Rattle.std.proofs.Common.{◌≡◌, ◌+◌, refl, sym, ◌∙◌, ap, subst, arith, length, Some, List, ◌∷◌}
use Rattle.std.proofs.lemmas.Bool.{false≢true}
use Rattle.wcv_core.specs.Names.{Name, Place, number}
use Rattle.wcv_types.specs.Arena.{Arena}
use Rattle.wcv_types.specs.Entities.{any_part, SlotStands}
use Rattle.wcv_types.specs.Renewed as arena
use Rattle.wcv_types.specs.Renewed.{Renewed}
use Rattle.wcv_types.specs.Standing.{Stands}
use Rattle.wcv_types.specs.Tree.{type_of, exports, owned}
use Rattle.wcv_types.specs.Unfold.{Type_tree, Slot, at, slot_tree, trees, tree_at}
use Rattle.wcv_types.specs.declared.ids.ComponentAnyTypeId.{ComponentAnyTypeId}
use Rattle.wcv_types.specs.declared.ids.ComponentAnyTypeId.TheVariants as any
use Rattle.wcv_types.specs.declared.ids.Part.{Part}
use Rattle.wcv_types.specs.declared.ids.Part.TheVariants as part
use Rattle.wcv_types.proofs.Lists.{some-inj, map-id}
use Rattle.wcv_lower.specs.Given.{names_of}
use Rattle.wcv_lower.specs.Mapped.{MakesSame, map_node, map_brought}
use Rattle.wcv_lower.specs.Names.{Names, introduced}
use Rattle.wcv_lower.specs.NewTypes.{renewed, instance_tree, instance_resources}
use Rattle.wcv_lower.specs.Readers.{New_node, Brought}
use Rattle.wcv_lower.specs.Slots.{slot_reader, to_trees, slot_maker, next_part, next_node, instance_by, instance_slot, last_instance, next_resources}
use Rattle.wcv_lower.specs.Trees.{tree_maker, type_entry, node_tree}
use Rattle.wcv_lower.specs.Uses.{uses_again, uses_new, uses_node, uses_instance}
use Rattle.wcv_spaces.proofs.Given.{again_names, renewed_same, resource_names, resource_name, reference_same}
use Rattle.wcv_types.specs.declared.ids.ComponentInstanceTypeId.{ComponentInstanceTypeId}

module _ (a b : Arena) (p : Place) where
  next_same : (r : ComponentAnyTypeId) → any_part (arena.next_id a r) ≡ next_part a (any_part r)
  next_same (any.Resource r) = refl
  next_same (any.Defined i) = refl
  next_same (any.Func i) = refl
  next_same (any.Instance i) = refl
  next_same (any.Component i) = refl

  -- a type that is made again
  pub makes_again : (r c : ComponentAnyTypeId) → Stands a (any_part r) → Renewed a b r c → MakesSame (to_trees b) (SlotStands b) (slot_maker a b) (tree_maker (names_of (again_names a r p)) p) (uses_again (slot_reader b) (at (any_part r)))
  makes_again r c h w =
      let t : Type_tree = tree_at a (any_part r) in
      let stays : tree_at b (any_part r) ≡ t = w.stay.trees (any_part r) h in
      let new : tree_at b (next_part a (any_part r)) ≡ arena.renewed (arena.next_name a r) t = ap (λ (q : Part). tree_at b q) (sym (next_same r)) ∙ ap (λ (q : ComponentAnyTypeId). tree_at b (any_part q)) (sym w.made_is) ∙ w.tree in
      let is : renewed (names_of (again_names a r p)) p (tree_at b (any_part r)) ≡ tree_at b (next_part a (any_part r)) = ap (renewed (names_of (again_names a r p)) p) stays ∙ renewed_same a r p h ∙ sym new in
      record {
        again = λ x e. subst (λ (y : Slot). (tree_maker (names_of (again_names a r p)) p).again (slot_tree (trees b.nodes) y) ≡ slot_tree (trees b.nodes) ((slot_maker a b).again y)) (some-inj e) (λ j. type_of (is j) (tree_at b (any_part r)));
        again_known = λ x e. subst (λ (y : Slot). SlotStands b ((slot_maker a b).again y)) (some-inj e) (subst (Stands b) (next_same r) (subst (λ (q : ComponentAnyTypeId). Stands b (any_part q)) w.made_is w.stands), w.stay.stands (any_part r) h);
        resource = λ e. absurd (false≢true e);
        reference = λ e. absurd (false≢true e);
        reference_known = λ e. absurd (false≢true e);
        instance_of = λ x e. absurd (cc);
        instance_known = λ x e. absurd (cc);
        instantiate = λ args x e. absurd (cc);
        build = λ n e. absurd (cc);
        build_type = λ n e. absurd (cc);
      }

  -- a resource that is new
  pub makes_resource : b.resources ≡ a.resources + 1 → b.stamps ≡ a.stamps + 1 → MakesSame (to_trees b) (SlotStands b) (slot_maker a b) (tree_maker (names_of (resource_names a p)) p) (uses_new (slot_reader b))
  makes_resource e f = record {
    again = λ x e. absurd (cc);
    again_known = λ x e. absurd (cc);
    resource = λ e. resource_name a p;
    reference = λ e. (λ j. type_of (reference_same a p j) (reference_same a p j));
    reference_known = λ g. (record { resource = omega (arith, e); stamp = omega (arith, f) }, record { resource = omega (arith, e); stamp = omega (arith, f) });
    instance_of = λ x e. absurd (cc);
    instance_known = λ x e. absurd (cc);
    instantiate = λ args x e. absurd (cc);
    build = λ n e. absurd (cc);
    build_type = λ n e. absurd (cc);
  }

  -- the arena's next node, under names that call it so
  pub makes_node : (names : Names) (n : New_node (slot_reader b)) → names.identity (introduced p) ≡ number (length a.nodes) → tree_at b (next_node a n) ≡ node_tree (number (length a.nodes)) (map_node (to_trees b) n) →
      MakesSame (to_trees b) (SlotStands b) (slot_maker a b) (tree_maker names p) (uses_node (Some n))
  makes_node names n i t =
      let built : node_tree (names.identity (introduced p)) (map_node (to_trees b) n) ≡ tree_at b (next_node a n) = ap (λ (k : Name). node_tree k (map_node (to_trees b) n)) i ∙ sym t in
      record {
        again = λ x e. absurd (cc);
        again_known = λ x e. absurd (cc);
        resource = λ e. absurd (false≢true e);
        reference = λ e. absurd (false≢true e);
        reference_known = λ e. absurd (false≢true e);
        instance_of = λ x e. absurd (cc);
        instance_known = λ x e. absurd (cc);
        instantiate = λ args x e. absurd (cc);
        build = λ m e. subst (λ (k : New_node (slot_reader b)). node_tree (names.identity (introduced p)) (map_node (to_trees b) k) ≡ tree_at b (next_node a k)) (some-inj e) built;
        build_type = λ m e. subst (λ (k : New_node (slot_reader b)). type_entry (node_tree (names.identity (introduced p)) (map_node (to_trees b) k)) ≡ type_of (tree_at b (next_node a k)) (tree_at b (next_node a k))) (some-inj e) (ap type_entry built);
      }

  -- an instance of a type that owns resources: the last node, and the next resources
  pub makes_instance : (names : Names) (i : ComponentInstanceTypeId) (r : Name) (rs : List Name) → owned (tree_at b (part.Instance i)) ≡ r ∷ rs → instance_resources names p (tree_at b (part.Instance i)) ≡ next_resources a.resources (r ∷ rs) (exports (tree_at b (part.Instance i))) →
      Stands b (last_instance b) → tree_at b (last_instance b) ≡ instance_tree names p (tree_at b (part.Instance i)) → MakesSame (to_trees b) (SlotStands b) (slot_maker a b) (tree_maker names p) (uses_instance (slot_reader b) (at (part.Instance i)))
  makes_instance names i r rs own rs_are h t =
      let x : Type_tree = tree_at b (part.Instance i) in
      let made : Brought (slot_reader b) = instance_by a b (at (part.Instance i)) (r ∷ rs) (exports x) in
      let by : instance_slot a b (at (part.Instance i)) ≡ made = ap (λ (ns : List Name). instance_by a b (at (part.Instance i)) ns (exports x)) own in
      let same : (tree_maker names p).instance_of x ≡ map_brought (to_trees b) made =
      λ j. record { entity = sym t j; resources = (rs_are ∙ sym (map-id (next_resources a.resources (r ∷ rs) (exports x)))) j } in
      record {
        again = λ y e. absurd (cc);
        again_known = λ y e. absurd (cc);
        resource = λ e. absurd (false≢true e);
        reference = λ e. absurd (false≢true e);
        reference_known = λ e. absurd (false≢true e);
        instance_of = λ y e. subst (λ (z : Slot). (tree_maker names p).instance_of (slot_tree (trees b.nodes) z) ≡ map_brought (to_trees b) (instance_slot a b z)) (some-inj e) (same ∙ ap (map_brought (to_trees b)) (sym by));
        instance_known = λ y e. subst (λ (z : Slot). SlotStands b (instance_slot a b z).entity) (some-inj e) (subst (λ (w : Brought (slot_reader b)). SlotStands b w.entity) (sym by) h);
        instantiate = λ args x e. absurd (cc);
        build = λ n e. absurd (cc);
        build_type = λ n e. absurd (cc);
      }
