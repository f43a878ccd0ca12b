-- The rules over the ids of a state are those over the trees that they stand for.
use Rattle.std.proofs.Common.{◌≡◌, ℕ, List, [], ◌∷◌, map, refl, sym, ◌∙◌, ap, subst, Some, None}
use Rattle.std.specs.Prelude.{All, Option, slice_get}
use Rattle.std.specs.Option.{option_map}
use Rattle.std.proofs.lemmas.List.Elements.{All-weaker}
use Rattle.std.proofs.lemmas.Option.{slice_get-map}
use Rattle.wcv_core.specs.declared.features.WasmFeatures.{WasmFeatures}
use Rattle.wcv_syntax.specs.Model.{Form}
use Rattle.wcv_types.specs.Arena.{Arena}
use Rattle.wcv_types.specs.ComponentTrees.{resource_path}
use Rattle.wcv_types.specs.Entities.{SlotStands}
use Rattle.wcv_types.specs.Sets.{identities}
use Rattle.wcv_types.specs.Standing.{AllFit}
use Rattle.wcv_types.specs.Tree.{Extern_name}
use Rattle.wcv_types.specs.Unfold.{Slot, leaf, at, both, core, slot_tree, trees}
use Rattle.wcv_types.proofs.Lists.{map-id, map-map, some-inj}
use Rattle.wcv_lower.specs.Growth.{grow, checks}
use Rattle.wcv_lower.specs.Mapped.{IsKnown, MakesSame, map_context, map_stack}
use Rattle.wcv_lower.specs.Readers.{Maker}
use Rattle.wcv_lower.specs.Slots.{slot_reader, to_trees}
use Rattle.wcv_lower.specs.Trees.{tree_reader}
use Rattle.wcv_lower.specs.Uses.{uses}
use Rattle.wcv_lower.proofs.GrowthLaws.{grow-mapped, checks-mapped}
use Rattle.wcv_lower.proofs.Unfolded.{unfold_commutes}
use Rattle.wcv_spaces.specs.Contents.{Contents, ids, core_ids, sides, names, id_slot, core_slot, context_of, stack_of, defined_resource, CoreStands, CoreIdStands, StateStands}
use Rattle.wcv_state.specs.Slots.{entry_slot, slots_of, slot_stack_of}
use Rattle.wcv_spaces.proofs.Keeping.{all_at}

module _ (a : Arena) where
  -- what a state holds stands for its context
  pub context_same : (s : Contents) → map_context (to_trees a) (slots_of a s) ≡ context_of a s
  context_same s = λ j. record (context_of a s) {
    core = λ k. map-map (slot_tree (trees a.nodes)) (core_slot k) (core_ids k s.spaces) j;
    space = λ k. map-map (slot_tree (trees a.nodes)) (id_slot k) (ids k s.spaces) j;
    side = λ d. map-map (λ (e : Extern_name × Slot). (e.0, slot_tree (trees a.nodes) e.1)) entry_slot (sides s d) j;
    imported = map-id (map resource_path s.imported_resources) j;
    defined = map-id (map defined_resource s.defined_resources) j;
    named = λ d. map-id (identities (names s d)) j;
  }

  -- so do the states that are open
  pub stack_same : (s : Contents) (around : List Contents) → map_stack (to_trees a) (slot_stack_of a s around) ≡ stack_of a s (map (context_of a) around)
  stack_same s around = λ j. record { top = context_same s j; outer = go around j; groups = a.core }
    where
      go : (ts : List Contents) → map (map_context (to_trees a)) (map (slots_of a) ts) ≡ map (context_of a) ts
      go [] = refl
      go (t ∷ ts) = λ j. context_same t j ∷ go ts j

  -- what stands in a list that is mapped
  mapped_at : {I : Type 0} (P : Slot → Type 0) (f : I → Slot) (xs : List I) → All (λ y. P (f y)) xs → (i : ℕ) (x : Slot) → slice_get (map f xs) i ≡ Some x → P x
  mapped_at {I} P f xs h i x e = go (slice_get xs i) (λ y w. all_at (λ y. P (f y)) xs i y h w) (sym (slice_get-map f xs i) ∙ e)
    where
      go : (o : Option I) → ((y : I) → o ≡ Some y → P (f y)) → option_map f o ≡ Some x → P x
      go None w e = cc
      go (Some y) w e = subst P (some-inj e) (w y refl)

  core_known : (x : Slot) → CoreStands a x → SlotStands a x
  core_known (leaf o) h = h
  core_known (at q) h = h
  core_known (both c r) h = h
  core_known (core e) h = tt

  -- what it holds is known
  pub slots_known : (s : Contents) → StateStands a s → IsKnown (SlotStands a) (slots_of a s)
  slots_known s h = record {
    space = λ k. mapped_at (SlotStands a) (id_slot k) (ids k s.spaces) (h.space k);
    core = λ k. mapped_at (SlotStands a) (core_slot k) (core_ids k s.spaces) (All-weaker (CoreIdStands a k) (λ y. SlotStands a (core_slot k y)) (λ y w. core_known (core_slot k y) w) (core_ids k s.spaces) (h.core k));
  }

  module _ (fit : AllFit a) (fs : WasmFeatures) (k : Maker (slot_reader a)) (l : Maker tree_reader) (s : Contents) (around : List Contents) (h : StateStands a s) (f : Form) (u : MakesSame (to_trees a) (SlotStands a) k l (uses fs (slot_stack_of a s around) f)) where
    pub ids_grow : grow fs l (stack_of a s (map (context_of a) around)) f ≡ option_map (map_stack (to_trees a)) (grow fs k (slot_stack_of a s around) f)
    ids_grow = ap (λ t. grow fs l t f) (sym (stack_same s around)) ∙ grow-mapped (to_trees a) (unfold_commutes a fit) fs k l (slot_stack_of a s around) f (slots_known s h) u

    pub ids_checked : checks fs l (stack_of a s (map (context_of a) around)) f ≡ checks fs k (slot_stack_of a s around) f
    ids_checked = ap (λ t. checks fs l t f) (sym (stack_same s around)) ∙ checks-mapped (to_trees a) (unfold_commutes a fit) fs k l (slot_stack_of a s around) f (slots_known s h) u
