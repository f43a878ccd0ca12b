-- Instances that are made again with other parts.
use Rattle.std.proofs.Common.{◌≡◌, suc, List, length, refl, sym, ◌∙◌, ap, subst, Some}
use Rattle.std.specs.Prelude.{Option, All, slice_get}
use Rattle.std.proofs.lemmas.List.Elements.{All-nil}
use Rattle.wcv_core.specs.CoreGroups.{total}
use Rattle.wcv_core.specs.CoreSizes.{IsEntityWithin}
use Rattle.wcv_core.specs.Names.{number}
use Rattle.wcv_types.specs.Arena.{Arena}
use Rattle.wcv_types.specs.ByName.{NamesDiffer}
use Rattle.wcv_types.specs.Entities.{entry_parts}
use Rattle.wcv_types.specs.Given.{NamesGiven, AllNamesGiven}
use Rattle.wcv_types.specs.Led.{HasPath, Led}
use Rattle.wcv_types.specs.Rebuild.{SameSorts, refill, anew, Refits, MadeAgain}
use Rattle.wcv_types.specs.Standing.{Stands, GaveResource, Fits, with_node}
use Rattle.wcv_types.specs.Tree.{export, exports_in, instance, node, head}
use Rattle.wcv_types.specs.Unfold.{Type_tree, IsInfoOf, rank, head_of, slots_of, slots_if, slot_parts, parts_in, parts_at, entry_slots, resource_names, trees, tree_at, tree_of, unfolded}
use Rattle.wcv_types.specs.declared.arena.Node.{Node}
use Rattle.wcv_types.specs.declared.arena.Node.TheVariants as n
use Rattle.wcv_types.specs.declared.ids.ComponentInstanceTypeId.{ComponentInstanceTypeId}
use Rattle.wcv_types.specs.declared.ids.Part.{Part}
use Rattle.wcv_types.specs.declared.ids.Part.TheVariants as p
use Rattle.wcv_types.specs.declared.ids.ResourceId.{ResourceId}
use Rattle.wcv_types.specs.declared.instance_type.ComponentInstanceType.{ComponentInstanceType}
use Rattle.wcv_types.proofs.EntryLists.{entry_parts-are}
use Rattle.wcv_types.proofs.Rebuilding.{made_again}

-- one that may be added to the arena
pub instance_fits : (a : Arena) (s : ComponentInstanceType) → All (Stands a) (parts_in (entry_slots export s.exports)) → All (GaveResource a) (resource_names s.defined_resources) →
    All (HasPath (exports_in (slot_parts (trees a.nodes) (entry_slots export s.exports)))) (resource_names s.defined_resources) → NamesDiffer s.exports → IsInfoOf s.info (tree_of (trees a.nodes) (n.Instance s)) → Fits a (n.Instance s)
instance_fits a s parts owned led apart info = record {
  parts = parts;
  info = record { size = info.size; depth = info.depth };
  owned = owned;
  led = led;
  within = All-nil (IsEntityWithin (total a.core));
  stated = tt;
  apart = apart;
}

pub instance_parts : (a : Arena) (i : ComponentInstanceTypeId) (s : ComponentInstanceType) → slice_get a.nodes i.index ≡ Some (n.Instance s) → parts_at a (p.Instance i) ≡ entry_parts s.exports
instance_parts a i s found = ap (λ (x : Option Node). parts_in (slots_if x)) found ∙ entry_parts-are export s.exports

module _ (a : Arena) (i : ComponentInstanceTypeId) (s : ComponentInstanceType) (qs : List Part) (found : slice_get a.nodes i.index ≡ Some (n.Instance s)) (tree : tree_at a (p.Instance i) ≡ unfolded a i.index (n.Instance s)) where
  -- with these parts, what it owns is still led to
  pub instance_led : Refits a (p.Instance i) qs → All (HasPath (exports_in (slot_parts (trees a.nodes) (refill (slots_of (n.Instance s)) qs)))) (resource_names s.defined_resources)
  instance_led r =
      subst (λ (o : Option Node). Led (node (head_of i.index (n.Instance s)) (slot_parts (trees a.nodes) (refill (slots_if o) qs)))) found
      (subst (λ (t : Type_tree). Led (node (head t) (slot_parts (trees a.nodes) (refill (slots_if (slice_get a.nodes i.index)) qs)))) tree r.led)

  pub instance_owned : AllNamesGiven a → Stands a (p.Instance i) → All (GaveResource a) (resource_names s.defined_resources)
  instance_owned g st = (subst (NamesGiven a) tree (g (p.Instance i) st)).0.1

  pub instance_sorts : Refits a (p.Instance i) qs → SameSorts (parts_in (slots_of (n.Instance s))) qs
  instance_sorts r = subst (λ (o : Option Node). SameSorts (parts_in (slots_if o)) qs) found r.same_sorts

  pub instance_made : (b : Arena) (made : ComponentInstanceTypeId) (t : ComponentInstanceType) → slots_of (n.Instance t) ≡ refill (slots_of (n.Instance s)) qs → t.defined_resources ≡ s.defined_resources →
      b ≡ with_node a (n.Instance t) → rank (p.Instance made) ≡ suc (length a.nodes) → Stands b (p.Instance made) → MadeAgain a b (p.Instance i) qs (p.Instance made)
  instance_made b made t slots own e last st =
      made_again a b (p.Instance i) (p.Instance made) qs (n.Instance t) e last st refl (slots ∙ ap (λ (x : Option Node). refill (slots_if x) qs) (sym found))
      (ap (λ (rs : List ResourceId). instance (number (length a.nodes)) (resource_names rs)) own ∙ ap (λ (z : Type_tree). anew (number (length a.nodes)) (head z)) (sym tree)) refl
