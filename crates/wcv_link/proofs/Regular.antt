-- What stands in a state is regular: an item that makes an instance asks it of the context on top.
use Rattle.std.proofs.lemmas.List.Elements.{All-map, All-weaker}
use Rattle.wcv_syntax.specs.Model.{Form, instance_item}
use Rattle.wcv_types.specs.Arena.{Arena}
use Rattle.wcv_types.specs.Entities.{SlotStands, EntryStands, entity_slot, entry_tree}
use Rattle.wcv_types.specs.Standing.{AllFit}
use Rattle.wcv_types.specs.Tree.{Text, Extern_name}
use Rattle.wcv_types.specs.Unfold.{Type_tree, Slot, leaf, at, both, core, slot_tree, trees}
use Rattle.wcv_types.specs.declared.item_map.ComponentItem.{ComponentItem}
use Rattle.wcv_matching.specs.Formed.{node_height}
use Rattle.wcv_lower.specs.Even.{IsRegular}
use Rattle.wcv_lower.specs.Owned.{AllEntries, AreRegular, ItemRegular}
use Rattle.wcv_lower.proofs.EvenArena.{slots_regular}
use Rattle.wcv_spaces.specs.Contents.{Contents, ids, core_ids, sides, id_slot, core_slot, id_tree, core_tree, context_of, IdStands, CoreStands, CoreIdStands, StateStands}

module _ (a : Arena) (s : Contents) (h : StateStands a s) where
  core_known : (x : Slot) → CoreStands a x → SlotStands a x
  core_known (leaf o) w = w
  core_known (at q) w = w
  core_known (both c r) w = w
  core_known (core e) w = tt

  -- what holds of each slot of the arena holds of each entry
  pub entries_have : (P : Type_tree → Type 0) → ((q : Slot) → SlotStands a q → P (slot_tree (trees a.nodes) q)) → AllEntries P (context_of a s)
  entries_have P f = record {
    core = λ k. All-map P (core_tree (trees a.nodes) k) (core_ids k s.spaces) (All-weaker (CoreIdStands a k) (λ x. P (core_tree (trees a.nodes) k x)) (λ x w. f (core_slot k x) (core_known (core_slot k x) w)) (core_ids k s.spaces) (h.core k));
    space = λ k. All-map P (id_tree (trees a.nodes) k) (ids k s.spaces) (All-weaker (IdStands a k) (λ x. P (id_tree (trees a.nodes) k x)) (λ x w. f (id_slot k x) w) (ids k s.spaces) (h.space k));
    side = λ d. All-map (λ (e : Extern_name × Type_tree). P e.1) (entry_tree (trees a.nodes)) (sides s d)
        (All-weaker (EntryStands a) (λ (e : Text × ComponentItem). P (entry_tree (trees a.nodes) e).1) (λ e w. f (entity_slot e.1.ty) w) (sides s d) (h.side d));
  }

  regular_here : AllFit a → AreRegular (context_of a s)
  regular_here fit = (node_height a, entries_have (IsRegular (node_height a)) (λ q w. slots_regular a fit q w))

  pub item_regular : AllFit a → (f : Form) → ItemRegular (context_of a s) f
  item_regular fit (instance_item i) = regular_here fit
  item_regular fit f = tt
