-- Components that are made again with other parts.
use Rattle.std.proofs.Common.{◌≡◌, suc, List, ◌++◌, length, map, refl, sym, ◌∙◌, ap, subst, Some}
use Rattle.std.specs.Prelude.{Option, All, slice_get}
use Rattle.std.proofs.lemmas.List.Elements.{All-nil}
use Rattle.wcv_core.specs.CoreGroups.{total}
use Rattle.wcv_core.specs.CoreSizes.{IsEntityWithin}
use Rattle.wcv_core.specs.Names.{number}
use Rattle.wcv_types.specs.Arena.{Arena}
use Rattle.wcv_types.specs.Entities.{entry_parts}
use Rattle.wcv_types.specs.Given.{NamesGiven, AllNamesGiven}
use Rattle.wcv_types.specs.Led.{HeadLed, Led}
use Rattle.wcv_types.specs.Rebuild.{SameSorts, Fills, after, refill, anew, Refits, MadeAgain}
use Rattle.wcv_types.specs.Resources.{owned_by}
use Rattle.wcv_types.specs.Standing.{Stands, GaveResource, AreNamesApart, Fits, with_node}
use Rattle.wcv_types.specs.Tree.{Extern_name, Role, import, export, component, node, head}
use Rattle.wcv_types.specs.Unfold.{Type_tree, Slots, IsInfoOf, rank, head_of, resource_path, slots_of, slots_if, slot_parts, parts_in, parts_at, entry_slots, trees, tree_at, tree_of, unfolded}
use Rattle.wcv_types.specs.declared.arena.Node.{Node}
use Rattle.wcv_types.specs.declared.arena.Node.TheVariants as n
use Rattle.wcv_types.specs.declared.component_type.ComponentType.{ComponentType}
use Rattle.wcv_types.specs.declared.ids.ComponentTypeId.{ComponentTypeId}
use Rattle.wcv_types.specs.declared.ids.Part.{Part}
use Rattle.wcv_types.specs.declared.ids.Part.TheVariants as p
use Rattle.wcv_types.proofs.EntryLists.{Entry, entry_parts-are}
use Rattle.wcv_types.proofs.Giving.{firsts_given}
use Rattle.wcv_types.proofs.Knowing.{parts_in-append}
use Rattle.wcv_types.proofs.Rebuilding.{fills_sorts, fills_both, refill_both, made_again}

-- one that may be added to the arena
pub component_fits : (a : Arena) (s : ComponentType) → All (Stands a) (parts_in (slots_of (n.Component s))) → All (GaveResource a) (owned_by (head_of 0 (n.Component s))) →
    HeadLed (head_of 0 (n.Component s)) (slot_parts (trees a.nodes) (slots_of (n.Component s))) → AreNamesApart (n.Component s) → IsInfoOf s.info (tree_of (trees a.nodes) (n.Component s)) → Fits a (n.Component s)
component_fits a s parts owned led apart info = record {
  parts = parts;
  info = record { size = info.size; depth = info.depth };
  owned = owned;
  led = led;
  within = All-nil (IsEntityWithin (total a.core));
  stated = tt;
  apart = apart;
}

-- its parts: those of its imports, and then those of its exports
pub parts_of_component : (s : ComponentType) → parts_in (slots_of (n.Component s)) ≡ entry_parts s.imports ++ entry_parts s.exports
parts_of_component s = parts_in-append (entry_slots import s.imports) (entry_slots export s.exports) ∙ (λ j. entry_parts-are import s.imports j ++ entry_parts-are export s.exports j)

pub component_parts : (a : Arena) (i : ComponentTypeId) (s : ComponentType) → slice_get a.nodes i.index ≡ Some (n.Component s) → parts_at a (p.Component i) ≡ entry_parts s.imports ++ entry_parts s.exports
component_parts a i s found = ap (λ (x : Option Node). parts_in (slots_if x)) found ∙ parts_of_component s

-- parts of the same sorts fill its imports, and then its exports, in whatever roles
pub component_fill : (s : ComponentType) (qs : List Part) → SameSorts (parts_in (slots_of (n.Component s))) qs → (r r' : Extern_name → Role) →
    Fills (entry_slots r s.imports) qs × Fills (entry_slots r' s.exports) (after (entry_slots r s.imports) qs)
component_fill s qs h r r' =
    let ins : Slots = entry_slots r s.imports in
    let outs : Slots = entry_slots r' s.exports in
    let same : parts_in (slots_of (n.Component s)) ≡ parts_in (ins ++ outs) =
    parts_of_component s ∙ sym (parts_in-append ins outs ∙ (λ j. entry_parts-are r s.imports j ++ entry_parts-are r' s.exports j)) in
    fills_both ins outs qs (fills_sorts (ins ++ outs) qs (subst (λ (ps : List Part). SameSorts ps qs) same h))

-- imports and exports that were made again, one after the other
pub component_refilled : (s : ComponentType) (qs rs left : List Part) (is es as_is as_es : List Entry) → as_is ≡ s.imports → as_es ≡ s.exports → rs ≡ qs → left ≡ after (entry_slots import as_is) rs →
    entry_slots import is ≡ refill (entry_slots import as_is) rs → entry_slots export es ≡ refill (entry_slots export as_es) left → entry_slots import is ++ entry_slots export es ≡ refill (slots_of (n.Component s)) qs
component_refilled s qs rs left is es as_is as_es i e r l f g =
    let first : entry_slots import is ≡ refill (entry_slots import s.imports) qs = f ∙ (λ j. refill (entry_slots import (i j)) (r j)) in
    let left_is : left ≡ after (entry_slots import s.imports) qs = l ∙ (λ j. after (entry_slots import (i j)) (r j)) in
    let second : entry_slots export es ≡ refill (entry_slots export s.exports) (after (entry_slots import s.imports) qs) = g ∙ (λ j. refill (entry_slots export (e j)) (left_is j)) in
    (λ j. first j ++ second j) ∙ sym (refill_both (entry_slots import s.imports) (entry_slots export s.exports) qs)

module _ (a : Arena) (i : ComponentTypeId) (s : ComponentType) (qs : List Part) (found : slice_get a.nodes i.index ≡ Some (n.Component s)) (tree : tree_at a (p.Component i) ≡ unfolded a i.index (n.Component s)) where
  -- with these parts, the paths still lead to its resources
  pub component_led : Refits a (p.Component i) qs → HeadLed (head_of 0 (n.Component s)) (slot_parts (trees a.nodes) (refill (slots_of (n.Component s)) qs))
  component_led r =
      subst (λ (o : Option Node). Led (node (head_of i.index (n.Component s)) (slot_parts (trees a.nodes) (refill (slots_if o) qs)))) found
      (subst (λ (t : Type_tree). Led (node (head t) (slot_parts (trees a.nodes) (refill (slots_if (slice_get a.nodes i.index)) qs)))) tree r.led)

  pub component_owned : AllNamesGiven a → Stands a (p.Component i) → All (GaveResource a) (owned_by (head_of 0 (n.Component s)))
  component_owned g st =
      let w = (subst (NamesGiven a) tree (g (p.Component i) st)).0 in
      firsts_given a (map resource_path s.imported_resources) (map resource_path s.defined_resources) w.1 w.2

  pub component_sorts : Refits a (p.Component i) qs → SameSorts (parts_in (slots_of (n.Component s))) qs
  component_sorts r = subst (λ (o : Option Node). SameSorts (parts_in (slots_if o)) qs) found r.same_sorts

  pub component_made : (b : Arena) (made : ComponentTypeId) (t : ComponentType) → slots_of (n.Component t) ≡ refill (slots_of (n.Component s)) qs → t.imported_resources ≡ s.imported_resources → t.defined_resources ≡ s.defined_resources →
      b ≡ with_node a (n.Component t) → rank (p.Component made) ≡ suc (length a.nodes) → Stands b (p.Component made) → MadeAgain a b (p.Component i) qs (p.Component made)
  component_made b made t slots ins outs e last st =
      made_again a b (p.Component i) (p.Component made) qs (n.Component t) e last st refl (slots ∙ ap (λ (x : Option Node). refill (slots_if x) qs) (sym found))
      ((λ j. component (number (length a.nodes)) (map resource_path (ins j)) (map resource_path (outs j))) ∙ ap (λ (z : Type_tree). anew (number (length a.nodes)) (head z)) (sym tree)) refl
