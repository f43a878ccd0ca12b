-- The trees of the slots of an arena: a map that commutes with all that is read. So the rules over ids are those over trees.
use Rattle.std.proofs.Common.{◌≡◌, ℕ, suc, ◌≤◌, ◌<◌, List, [], ◌∷◌, map, refl, sym, ◌∙◌, ap, subst, arith, length, get_or, inl, inr, Bool, true, false, cond, Some, None}
use Rattle.std.specs.Prelude.{All, Option, bytes_eq, slice_get, ◌⊎◌}
use Rattle.std.specs.Option.{option_map}
use Rattle.std.proofs.lemmas.List.{get_or_past}
use Rattle.std.proofs.lemmas.List.Elements.{All-weaker}
use Rattle.std.proofs.lemmas.Option.{slice_get_cases}
use Rattle.wcv_core.specs.Names.{Name}
use Rattle.wcv_types.specs.Arena.{Arena}
use Rattle.wcv_types.specs.Entities.{SlotStands}
use Rattle.wcv_types.specs.Standing.{Stands, StandsBefore, AllFit}
use Rattle.wcv_types.specs.Tree as tree
use Rattle.wcv_types.specs.Tree.{Text, Extern_name, Head, Role, here, label, import, export, core_import, core_export, node, Parts, Sort, is_nothing, head, exports_in}
use Rattle.wcv_types.specs.Unfold.{Type_tree, Slot, leaf, at, both, core, Slots, left_out, head_of, slots_if, slot_refs, parts_in, parts_of, slot_tree, slot_parts, part_tree, tree_in, trees}
use Rattle.wcv_types.specs.Unfold as nodes
use Rattle.wcv_types.specs.declared.arena.Node.{Node}
use Rattle.wcv_types.specs.declared.arena.Node.TheVariants as n
use Rattle.wcv_types.specs.declared.ids.Part.{Part}
use Rattle.wcv_types.specs.declared.ids.Part.TheVariants as p
use Rattle.wcv_types.proofs.Grown.{length-trees}
use Rattle.wcv_types.proofs.Knowing.{refs_stand}
use Rattle.wcv_types.proofs.Lists.{map-id, some-inj}
use Rattle.wcv_types.proofs.Unfolding.{head_in, tree_in-unfolds, sort_stands, parts_before, all_left, all_right}
use Rattle.wcv_lower.specs.Checks.{same_sort}
use Rattle.wcv_lower.specs.Mapped.{Commutes, map_entries}
use Rattle.wcv_lower.specs.Readers.{first_named}
use Rattle.wcv_lower.specs.Slots as slot
use Rattle.wcv_lower.specs.Slots.{part_sort, slot_sort, to_trees, export_slots}
use Rattle.wcv_lower.specs.Trees.{created, referenced, labelled, params, if_given, unlabelled, result, tree_reader}

-- ## No node is a type entity

-- the tree whose head is that of a node is no type entity
head_plain : (k : ℕ) (x : Node) (ps : Parts Name Name) → (created (node (head_of k x) ps) ≡ node (head_of k x) ps) × (referenced (node (head_of k x) ps) ≡ node (head_of k x) ps)
head_plain k (n.Defined s) ps = (refl, refl)
head_plain k (n.Func s) ps = (refl, refl)
head_plain k (n.Instance s) ps = (refl, refl)
head_plain k (n.Component s) ps = (refl, refl)
head_plain k (n.Module s) ps = (refl, refl)
head_plain k (n.CoreInstance s) ps = (refl, refl)

abbrev Plain : Type_tree → Type 0
Plain t = (created t ≡ t) × (referenced t ≡ t)

plain_by : (t : Type_tree) (h : Head Name Name) → head t ≡ h → ((ps : Parts Name Name) → Plain (node h ps)) → Plain t
plain_by (node k ps) h e w = subst (λ (i : Head Name Name). Plain (node i ps)) (sym e) (w ps)

module _ (a : Arena) where
  abbrev ts : List Type_tree
  ts = trees a.nodes

  node_plain : (k : ℕ) → Plain (tree_in (trees a.nodes) k)
  node_plain k = go (slice_get_cases a.nodes k).1
    where
      go : ((x : Node) × (k < length a.nodes) × (slice_get a.nodes k ≡ Some x) × (get_or a.nodes k x ≡ x)) ⊎ ((length a.nodes ≤ k) × (slice_get a.nodes k ≡ None)) → Plain (tree_in (trees a.nodes) k)
      go (inl w) = plain_by (tree_in (trees a.nodes) k) (head_of k w.0) (head_in a.nodes k w.0 w.2) (head_plain k w.0)
      go (inr w) = subst Plain (sym (get_or_past (trees a.nodes) k left_out (omega (arith, w.0, length-trees a.nodes)))) (refl, refl)

  part_plain : (q : Part) → Plain (part_tree (trees a.nodes) q)
  part_plain (p.Resource r) = (refl, refl)
  part_plain (p.Core i) = (refl, refl)
  part_plain (p.Defined i) = node_plain i.index
  part_plain (p.Func i) = node_plain i.index
  part_plain (p.Instance i) = node_plain i.index
  part_plain (p.Component i) = node_plain i.index
  part_plain (p.Module i) = node_plain i.index
  part_plain (p.CoreInstance i) = node_plain i.index

  created_same : (x : Slot) → created (slot_tree (trees a.nodes) x) ≡ slot_tree (trees a.nodes) (slot.created x)
  created_same (leaf None) = refl
  created_same (leaf (Some q)) = refl
  created_same (at q) = (part_plain q).0
  created_same (both c r) = refl
  created_same (core e) = refl

  referenced_same : (x : Slot) → referenced (slot_tree (trees a.nodes) x) ≡ slot_tree (trees a.nodes) (slot.referenced x)
  referenced_same (leaf None) = refl
  referenced_same (leaf (Some q)) = refl
  referenced_same (at q) = (part_plain q).1
  referenced_same (both c r) = refl
  referenced_same (core e) = refl

  -- ## Sorts

  pub part_sorted : (q : Part) → Stands a q → tree.sort (part_tree (trees a.nodes) q) ≡ part_sort q
  part_sorted (p.Resource r) h = refl
  part_sorted (p.Core i) h = refl
  part_sorted (p.Defined i) h = sort_stands a (p.Defined i) h
  part_sorted (p.Func i) h = sort_stands a (p.Func i) h
  part_sorted (p.Instance i) h = sort_stands a (p.Instance i) h
  part_sorted (p.Component i) h = sort_stands a (p.Component i) h
  part_sorted (p.Module i) h = sort_stands a (p.Module i) h
  part_sorted (p.CoreInstance i) h = sort_stands a (p.CoreInstance i) h

  sorted_same : (x : Slot) → SlotStands a x → tree.sort (slot_tree (trees a.nodes) x) ≡ slot_sort x
  sorted_same (leaf None) h = refl
  sorted_same (leaf (Some q)) h = refl
  sorted_same (at q) h = part_sorted q h
  sorted_same (both c r) h = refl
  sorted_same (core e) h = refl

  referenced_stands : (x : Slot) → SlotStands a x → SlotStands a (slot.referenced x)
  referenced_stands (leaf o) h = h
  referenced_stands (at q) h = h
  referenced_stands (both c r) h = h.1
  referenced_stands (core e) h = h

  -- what a node is made of stands with it
  made_stand : AllFit a → (k : ℕ) (x : Node) → slice_get a.nodes k ≡ Some x → All (Stands a) (parts_of x)
  made_stand f k x h = All-weaker (StandsBefore a (suc k)) (Stands a) (λ q w. w.stands) (parts_of x) (parts_before a k x f h)

  -- ## Exports

  -- what a node exports stands with it
  export_stands : (ss : Slots) → All (Stands a) (parts_in ss) → (n : Text) (y : Slot) → first_named n (export_slots ss) ≡ Some y → SlotStands a y
  export_stands [] h n y e = cc
  export_stands ((r, x) ∷ ss) h n y e = by_role r e (export_stands ss (all_right (Stands a) (slot_refs x) (parts_in ss) h) n y) (refs_stand a x (all_left (Stands a) (slot_refs x) (parts_in ss) h))
    where
      go : (b : Bool) → cond b (Some x) (first_named n (export_slots ss)) ≡ Some y → (first_named n (export_slots ss) ≡ Some y → SlotStands a y) → SlotStands a x → SlotStands a y
      go true e rest h = subst (SlotStands a) (some-inj e) h
      go false e rest h = rest e

      by_role : (r : Role) → first_named n (export_slots ((r, x) ∷ ss)) ≡ Some y → (first_named n (export_slots ss) ≡ Some y → SlotStands a y) → SlotStands a x → SlotStands a y
      by_role (export m) e rest h = go (bytes_eq n m.name) e rest h
      by_role here e rest h = rest e
      by_role (label l) e rest h = rest e
      by_role (import m) e rest h = rest e
      by_role (core_import l m) e rest h = rest e
      by_role (core_export m) e rest h = rest e

  node_stands : AllFit a → (k : ℕ) (x : Node) → slice_get a.nodes k ≡ Some x → (n : Text) (y : Slot) → first_named n (export_slots (slots_if (slice_get a.nodes k))) ≡ Some y → SlotStands a y
  node_stands f k x h n y e =
      export_stands (nodes.slots_of x) (made_stand f k x h) n y (ap (λ (o : Option Node). first_named n (export_slots (slots_if o))) (sym h) ∙ e)

  export_known : AllFit a → (x : Slot) → SlotStands a x → (t : Text) (y : Slot) → first_named t (slot.exports a x) ≡ Some y → SlotStands a y
  export_known f (leaf o) h t y e = cc
  export_known f (both c r) h t y e = cc
  export_known f (core o) h t y e = cc
  export_known f (at (p.Resource r)) h t y e = cc
  export_known f (at (p.Core i)) h t y e = cc
  export_known f (at (p.Defined i)) h t y e = node_stands f i.index (n.Defined h.0) h.1 t y e
  export_known f (at (p.Func i)) h t y e = node_stands f i.index (n.Func h.0) h.1 t y e
  export_known f (at (p.Instance i)) h t y e = node_stands f i.index (n.Instance h.0) h.1 t y e
  export_known f (at (p.Component i)) h t y e = node_stands f i.index (n.Component h.0) h.1 t y e
  export_known f (at (p.Module i)) h t y e = node_stands f i.index (n.Module h.0) h.1 t y e
  export_known f (at (p.CoreInstance i)) h t y e = node_stands f i.index (n.CoreInstance h.0) h.1 t y e

  exports_in_slots : (ss : Slots) → exports_in (slot_parts (trees a.nodes) ss) ≡ map_entries (slot_tree (trees a.nodes)) (export_slots ss)
  exports_in_slots [] = refl
  exports_in_slots ((export n, x) ∷ ss) = ap (λ (es : List (Extern_name × Type_tree)). (n, slot_tree (trees a.nodes) x) ∷ es) (exports_in_slots ss)
  exports_in_slots ((here, x) ∷ ss) = exports_in_slots ss
  exports_in_slots ((label l, x) ∷ ss) = exports_in_slots ss
  exports_in_slots ((import n, x) ∷ ss) = exports_in_slots ss
  exports_in_slots ((core_import m n, x) ∷ ss) = exports_in_slots ss
  exports_in_slots ((core_export n, x) ∷ ss) = exports_in_slots ss

  node_exports : AllFit a → (k : ℕ) (x : Node) → slice_get a.nodes k ≡ Some x →
      tree.exports (tree_in (trees a.nodes) k) ≡ map_entries (slot_tree (trees a.nodes)) (export_slots (slots_if (slice_get a.nodes k)))
  node_exports f k x h =
      ap tree.exports (tree_in-unfolds a k x f h) ∙ exports_in_slots (nodes.slots_of x) ∙ ap (λ (o : Option Node). map_entries (slot_tree (trees a.nodes)) (export_slots (slots_if o))) (sym h)

  exports_same : AllFit a → (x : Slot) → SlotStands a x → tree.exports (slot_tree (trees a.nodes) x) ≡ map_entries (slot_tree (trees a.nodes)) (slot.exports a x)
  exports_same f (leaf None) h = refl
  exports_same f (leaf (Some q)) h = refl
  exports_same f (both c r) h = refl
  exports_same f (core e) h = refl
  exports_same f (at (p.Resource r)) h = refl
  exports_same f (at (p.Core i)) h = refl
  exports_same f (at (p.Defined i)) h = node_exports f i.index (n.Defined h.0) h.1
  exports_same f (at (p.Func i)) h = node_exports f i.index (n.Func h.0) h.1
  exports_same f (at (p.Instance i)) h = node_exports f i.index (n.Instance h.0) h.1
  exports_same f (at (p.Component i)) h = node_exports f i.index (n.Component h.0) h.1
  exports_same f (at (p.Module i)) h = node_exports f i.index (n.Module h.0) h.1
  exports_same f (at (p.CoreInstance i)) h = node_exports f i.index (n.CoreInstance h.0) h.1

  -- ## Functions

  labelled_in_slots : (ss : Slots) → labelled (slot_parts (trees a.nodes) ss) ≡ map (slot_tree (trees a.nodes)) (slot.labelled ss)
  labelled_in_slots [] = refl
  labelled_in_slots ((label l, x) ∷ ss) = ap (λ (ts : List Type_tree). slot_tree (trees a.nodes) x ∷ ts) (labelled_in_slots ss)
  labelled_in_slots ((here, x) ∷ ss) = labelled_in_slots ss
  labelled_in_slots ((import n, x) ∷ ss) = labelled_in_slots ss
  labelled_in_slots ((export n, x) ∷ ss) = labelled_in_slots ss
  labelled_in_slots ((core_import m n, x) ∷ ss) = labelled_in_slots ss
  labelled_in_slots ((core_export n, x) ∷ ss) = labelled_in_slots ss

  params_same : AllFit a → (x : Slot) → SlotStands a x → params (slot_tree (trees a.nodes) x) ≡ map (slot_tree (trees a.nodes)) (slot.params a x)
  params_same f (leaf None) h = refl
  params_same f (leaf (Some q)) h = refl
  params_same f (both c r) h = refl
  params_same f (core e) h = refl
  params_same f (at (p.Resource r)) h = refl
  params_same f (at (p.Core i)) h = refl
  params_same f (at (p.Defined i)) h = ap params (tree_in-unfolds a i.index (n.Defined h.0) f h.1)
  params_same f (at (p.Func i)) h =
      ap params (tree_in-unfolds a i.index (n.Func h.0) f h.1) ∙ labelled_in_slots (nodes.slots_of (n.Func h.0)) ∙ ap (λ (o : Option Node). map (slot_tree (trees a.nodes)) (slot.labelled (slots_if o))) (sym h.1)
  params_same f (at (p.Instance i)) h = ap params (tree_in-unfolds a i.index (n.Instance h.0) f h.1)
  params_same f (at (p.Component i)) h = ap params (tree_in-unfolds a i.index (n.Component h.0) f h.1)
  params_same f (at (p.Module i)) h = ap params (tree_in-unfolds a i.index (n.Module h.0) f h.1)
  params_same f (at (p.CoreInstance i)) h = ap params (tree_in-unfolds a i.index (n.CoreInstance h.0) f h.1)

  given_same : (x : Slot) → SlotStands a x → if_given (slot_tree (trees a.nodes) x) ≡ option_map (slot_tree (trees a.nodes)) (slot.if_given x)
  given_same (leaf None) h = refl
  given_same (leaf (Some q)) h = refl
  given_same (both c r) h = refl
  given_same (core e) h = refl
  given_same (at q) h = ap (λ (s : Sort). cond (same_sort is_nothing s) None (Some (part_tree (trees a.nodes) q))) (part_sorted q h) ∙ ap (λ (b : Bool). cond b None (Some (part_tree (trees a.nodes) q))) (go q)
    where
      go : (q : Part) → same_sort is_nothing (part_sort q) ≡ false
      go (p.Resource r) = refl
      go _ = refl

  unlabelled_in_slots : (ss : Slots) → All (Stands a) (parts_in ss) → unlabelled (slot_parts (trees a.nodes) ss) ≡ option_map (slot_tree (trees a.nodes)) (slot.unlabelled ss)
  unlabelled_in_slots [] h = refl
  unlabelled_in_slots ((here, x) ∷ ss) h = given_same x (refs_stand a x (all_left (Stands a) (slot_refs x) (parts_in ss) h))
  unlabelled_in_slots ((label l, x) ∷ ss) h = unlabelled_in_slots ss (all_right (Stands a) (slot_refs x) (parts_in ss) h)
  unlabelled_in_slots ((import n, x) ∷ ss) h = unlabelled_in_slots ss (all_right (Stands a) (slot_refs x) (parts_in ss) h)
  unlabelled_in_slots ((export n, x) ∷ ss) h = unlabelled_in_slots ss (all_right (Stands a) (slot_refs x) (parts_in ss) h)
  unlabelled_in_slots ((core_import m n, x) ∷ ss) h = unlabelled_in_slots ss (all_right (Stands a) (slot_refs x) (parts_in ss) h)
  unlabelled_in_slots ((core_export n, x) ∷ ss) h = unlabelled_in_slots ss (all_right (Stands a) (slot_refs x) (parts_in ss) h)

  result_same : AllFit a → (x : Slot) → SlotStands a x → result (slot_tree (trees a.nodes) x) ≡ option_map (slot_tree (trees a.nodes)) (slot.result a x)
  result_same f (leaf None) h = refl
  result_same f (leaf (Some q)) h = refl
  result_same f (both c r) h = refl
  result_same f (core e) h = refl
  result_same f (at (p.Resource r)) h = refl
  result_same f (at (p.Core i)) h = refl
  result_same f (at (p.Defined i)) h = ap result (tree_in-unfolds a i.index (n.Defined h.0) f h.1)
  result_same f (at (p.Func i)) h =
      ap result (tree_in-unfolds a i.index (n.Func h.0) f h.1) ∙ unlabelled_in_slots (nodes.slots_of (n.Func h.0)) (made_stand f i.index (n.Func h.0) h.1) ∙
      ap (λ (o : Option Node). option_map (slot_tree (trees a.nodes)) (slot.unlabelled (slots_if o))) (sym h.1)
  result_same f (at (p.Instance i)) h = ap result (tree_in-unfolds a i.index (n.Instance h.0) f h.1)
  result_same f (at (p.Component i)) h = ap result (tree_in-unfolds a i.index (n.Component h.0) f h.1)
  result_same f (at (p.Module i)) h = ap result (tree_in-unfolds a i.index (n.Module h.0) f h.1)
  result_same f (at (p.CoreInstance i)) h = ap result (tree_in-unfolds a i.index (n.CoreInstance h.0) f h.1)

  -- ## The map

  pub unfold_commutes : AllFit a → Commutes (to_trees a) (SlotStands a)
  unfold_commutes f = record {
    sort = sorted_same;
    size = λ x. refl;
    depth = λ x. refl;
    created = created_same;
    referenced = referenced_same;
    referenced_known = referenced_stands;
    export_known = export_known f;
    exports = exports_same f;
    params = params_same f;
    result = result_same f;
    introduced = λ x. sym (map-id (tree_reader.introduced (slot_tree (trees a.nodes) x)));
    creates = λ x. sym (map-id (tree_reader.creates (slot_tree (trees a.nodes) x)));
    same = λ i j. refl;
    is_named = λ named s x. (λ j. tree_reader.is_named (λ d. map-id (named d) j) s (slot_tree (trees a.nodes) x));
    name_checks = λ fs es n x. refl;
    bare_name_checks = λ fs es n x. refl;
    matches = λ gs x y. refl;
    opens = λ gs args x. refl;
    has_free = λ x. refl;
    is_free = λ r x. refl;
    first_path = λ r es. refl;
    core_entry = λ x. refl;
    core_type = λ i. refl;
    core_imports = λ x. refl;
    core_exports = λ x. refl;
    item = λ x. refl;
    core_item = λ e. refl;
    primitive_known = λ q. tt;
    primitive = λ q. refl;
    left_out = refl;
    primitive_of = λ x. refl;
    contains = λ k x. refl;
    abi_size = λ k x. refl;
    outline = λ x. refl;
  }
