-- A type item whose node was stored, and its causes.
use Rattle.std.proofs.Common.{◌≡◌, ℕ, [], ◌∷◌, ◌++◌, length, sym, ◌∙◌, ap, Some, ◌⊎◌, inl, inr}
use Rattle.std.specs.Option.{option_map}
use Rattle.std.proofs.lemmas.List.Elements.{All-nil}
use Rattle.wcv_core.specs.CoreGroups.{total}
use Rattle.wcv_core.specs.CoreSizes.{IsEntityWithin}
use Rattle.wcv_core.specs.Names.{Name, Place, number}
use Rattle.wcv_core.specs.Refusal.{error_kind}
use Rattle.wcv_core.specs.declared.error.Error.{Error}
use Rattle.wcv_core.specs.declared.features.WasmFeatures.{WasmFeatures}
use Rattle.wcv_syntax.specs.Model.{Defined_form, Func_form, defined_type, func_type}
use Rattle.wcv_types.specs.Arena.{Arena}
use Rattle.wcv_types.specs.Standing.{GaveResource, Fits}
use Rattle.wcv_types.specs.Tree.{defined, func, node, Parts, here}
use Rattle.wcv_types.specs.Unfold.{former_of, Slots, defined_slots, option_slot, field_slots, slot_tree, slot_parts, tree_of, trees}
use Rattle.wcv_types.specs.declared.arena.Node.TheVariants as n
use Rattle.wcv_types.specs.declared.shapes.ComponentDefinedType.{ComponentDefinedType}
use Rattle.wcv_types.specs.declared.shapes.ComponentFuncType.{ComponentFuncType}
use Rattle.wcv_types.proofs.Grown.{length-trees}
use Rattle.wcv_lower.specs.Checks.{Checks, Cause, IsFree, if_found}
use Rattle.wcv_lower.specs.Context.{in_types, push}
use Rattle.wcv_lower.specs.Defined.{former, written_parts, handle_index, made_checks, defined_made, has_borrow, own_checks, content_checks, size_checks, node_checks, defined_checks}
use Rattle.wcv_lower.specs.Mapped.{map_parts}
use Rattle.wcv_lower.specs.Names.{Names, introduced}
use Rattle.wcv_lower.specs.Readers.{Made_parts, New_node, defined_node, func_node, Maker}
use Rattle.wcv_lower.specs.Trees.{Type_tree, type_entry, Tree_context, tree_reader, tree_maker, node_tree}
use Rattle.wcv_lower.specs.Types.{func_parts, func_made, func_own_checks, func_checks}
use Rattle.wcv_lower.specs.Values.{option_entry, parts_checks}
use Rattle.wcv_lower.proofs.Causes.{cause_left, cause_right, cause_either, free_both, free_left, free_right}
use Rattle.wcv_lower.proofs.SlotParts.{slot_parts_are}
use Rattle.wcv_spaces.specs.Contents.{Contents, context_of}
use Rattle.wcv_spaces.specs.Promises.{MemoryOrCausedBy}
use Rattle.wcv_spaces.proofs.Calls.{caused_more}
use Rattle.wcv_decls.specs.Items.{Stored, Added}
use Rattle.wcv_decls.specs.Resolved.{IsShape, IsFuncShape, resolve_checks, func_resolve_checks}

-- ## Causes in three steps: of what needs no other type, of what is looked up, and of the size

module _ (own parts content sizes : Checks) where
  pub all_free : IsFree own → IsFree (parts ++ content) → IsFree sizes → IsFree (own ++ (parts ++ (content ++ sizes)))
  all_free o r z = free_both own (parts ++ (content ++ sizes)) o (free_both parts (content ++ sizes) (free_left parts content r) (free_both content sizes (free_right parts content r) z))

  module _ {M : Type 0} (offset : ℕ) (e : Error M) where
    first_caused : MemoryOrCausedBy own offset e → MemoryOrCausedBy (own ++ (parts ++ (content ++ sizes))) offset e
    first_caused t = caused_more own (own ++ (parts ++ (content ++ sizes))) offset e (cause_left own (parts ++ (content ++ sizes)) (error_kind e)) t

    second_caused : MemoryOrCausedBy (parts ++ content) offset e → MemoryOrCausedBy (own ++ (parts ++ (content ++ sizes))) offset e
    second_caused t = caused_more (parts ++ content) (own ++ (parts ++ (content ++ sizes))) offset e
        (λ k. cause_right own (parts ++ (content ++ sizes)) (error_kind e) (go (cause_either parts content (error_kind e) k))) t
      where
        go : Cause parts (error_kind e) ⊎ Cause content (error_kind e) → Cause (parts ++ (content ++ sizes)) (error_kind e)
        go (inl k) = cause_left parts (content ++ sizes) (error_kind e) k
        go (inr k) = cause_right parts (content ++ sizes) (error_kind e) (cause_left content sizes (error_kind e) k)

    third_caused : MemoryOrCausedBy sizes offset e → MemoryOrCausedBy (own ++ (parts ++ (content ++ sizes))) offset e
    third_caused t = caused_more sizes (own ++ (parts ++ (content ++ sizes))) offset e
        (λ k. cause_right own (parts ++ (content ++ sizes)) (error_kind e) (cause_right parts (content ++ sizes) (error_kind e) (cause_right content sizes (error_kind e) k))) t

-- ## Defined types

module _ (a : Arena) (c : Tree_context) (x : Defined_form) (s : ComponentDefinedType) (h : IsShape a c x s) where
  pub shape_fits : Fits a (n.Defined s)
  shape_fits = record { parts = h.stands; info = tt; owned = All-nil (GaveResource a); led = tt; within = All-nil (IsEntityWithin (total a.core)); stated = tt; apart = tt }

  abbrev made_parts : Made_parts tree_reader
  made_parts = map_parts (slot_tree (trees a.nodes)) (defined_slots s)

  abbrev shape_node : New_node tree_reader
  shape_node = defined_node (former_of s) made_parts

  shape_made : defined_made c x ≡ Some shape_node
  shape_made = ap (option_map (λ (ps : Made_parts tree_reader). defined_node (former x) ps)) h.parts ∙ (λ j. Some (defined_node (sym h.formed j) made_parts))

  -- the tree of the node, under an identity
  shape_tree : (i : Name) → node_tree i shape_node ≡ node (defined i (former_of s)) (slot_parts (trees a.nodes) (defined_slots s))
  shape_tree i = ap (λ (ps : Parts Name Name). node (defined i (former_of s)) ps) (slot_parts_are (trees a.nodes) (defined_slots s))

  node_same : node_tree (number (length a.nodes)) shape_node ≡ tree_of (trees a.nodes) (n.Defined s)
  node_same = shape_tree (number (length a.nodes)) ∙ ap (λ (k : ℕ). node (defined (number k) (former_of s)) (slot_parts (trees a.nodes) (defined_slots s))) (sym (length-trees a.nodes))

  pub defined_added : (b : Arena) (st st' : Contents) → c ≡ context_of a st → Stored in_types a b st st' (n.Defined s) → Added a b st st' (defined_type x)
  defined_added b st st' e w = record {
    node = shape_node;
    made = ap (λ (d : Tree_context). defined_made d x) (sym e) ∙ shape_made;
    grown = w.grown ∙ ap (λ (t : Type_tree). push in_types (type_entry t) (context_of a st)) (sym node_same);
    nodes = w.nodes;
    core = w.core;
    live = w.live;
    keeps = w.keeps;
  }

  -- sizes do not look at the identity
  pub sizes_same : (m : Names) (p : Place) → size_checks tree_reader (tree_of (trees a.nodes) (n.Defined s)) ≡ if_found (node_checks (tree_maker m p)) (defined_made c x)
  sizes_same m p = sym (ap (if_found (node_checks (tree_maker m p))) shape_made ∙ ap (size_checks tree_reader) (shape_tree (m.identity (introduced p))))

module _ {M : Type 0} (fs : WasmFeatures) (mk : Maker tree_reader) (c : Tree_context) (x : Defined_form) (offset : ℕ) (e : Error M) where
  abbrev sizes : Checks
  sizes = if_found (node_checks mk) (defined_made c x)

  abbrev parts : Checks
  parts = made_checks fs c (handle_index x) (written_parts x)

  pub own_caused : MemoryOrCausedBy (own_checks fs x) offset e → MemoryOrCausedBy (defined_checks fs mk c x) offset e
  own_caused t = first_caused (own_checks fs x) parts (content_checks c x) sizes offset e t

  pub resolve_caused : MemoryOrCausedBy (resolve_checks fs c x) offset e → MemoryOrCausedBy (defined_checks fs mk c x) offset e
  resolve_caused t = second_caused (own_checks fs x) parts (content_checks c x) sizes offset e t

  pub size_caused : MemoryOrCausedBy (if_found (node_checks mk) (defined_made c x)) offset e → MemoryOrCausedBy (defined_checks fs mk c x) offset e
  size_caused t = third_caused (own_checks fs x) parts (content_checks c x) sizes offset e t

-- ## Function types

module _ (a : Arena) (c : Tree_context) (f : Func_form) (s : ComponentFuncType) (h : IsFuncShape a c f s) where
  abbrev gives_slots : Slots
  gives_slots = field_slots s.params.items ((here, option_slot s.result) ∷ [])

  abbrev func_shape : New_node tree_reader
  func_shape = func_node s.async_ (map_parts (slot_tree (trees a.nodes)) gives_slots)

  func_shape_made : func_made c f ≡ Some func_shape
  func_shape_made =
      ap (option_map (λ (ps : Made_parts tree_reader). func_node f.async ps)) h.slots.trees ∙
      (λ j. Some (func_node (sym h.async j) (map_parts (slot_tree (trees a.nodes)) gives_slots)))

  func_shape_tree : (i : Name) → node_tree i func_shape ≡ node (func i s.async_) (slot_parts (trees a.nodes) gives_slots)
  func_shape_tree i = ap (λ (ps : Parts Name Name). node (func i s.async_) ps) (slot_parts_are (trees a.nodes) gives_slots)

  func_same : node_tree (number (length a.nodes)) func_shape ≡ tree_of (trees a.nodes) (n.Func s)
  func_same = func_shape_tree (number (length a.nodes)) ∙ ap (λ (k : ℕ). node (func (number k) s.async_) (slot_parts (trees a.nodes) gives_slots)) (sym (length-trees a.nodes))

  pub func_added : (b : Arena) (st st' : Contents) → c ≡ context_of a st → Stored in_types a b st st' (n.Func s) → Added a b st st' (func_type f)
  func_added b st st' e w = record {
    node = func_shape;
    made = ap (λ (d : Tree_context). func_made d f) (sym e) ∙ func_shape_made;
    grown = w.grown ∙ ap (λ (t : Type_tree). push in_types (type_entry t) (context_of a st)) (sym func_same);
    nodes = w.nodes;
    core = w.core;
    live = w.live;
    keeps = w.keeps;
  }

  pub func_sizes_same : (m : Names) (p : Place) → size_checks tree_reader (tree_of (trees a.nodes) (n.Func s)) ≡ if_found (node_checks (tree_maker m p)) (func_made c f)
  func_sizes_same m p = sym (ap (if_found (node_checks (tree_maker m p))) func_shape_made ∙ ap (size_checks tree_reader) (func_shape_tree (m.identity (introduced p))))

module _ {M : Type 0} (fs : WasmFeatures) (mk : Maker tree_reader) (c : Tree_context) (f : Func_form) (offset : ℕ) (e : Error M) where
  abbrev func_sizes : Checks
  func_sizes = if_found (node_checks mk) (func_made c f)

  abbrev gives : Checks
  gives = if_found (has_borrow tree_reader) (option_entry c f.result)

  pub func_own_caused : MemoryOrCausedBy (func_own_checks fs f) offset e → MemoryOrCausedBy (func_checks fs mk c f) offset e
  func_own_caused t = first_caused (func_own_checks fs f) (parts_checks fs c (func_parts f)) gives func_sizes offset e t

  pub func_resolve_caused : MemoryOrCausedBy (func_resolve_checks fs c f) offset e → MemoryOrCausedBy (func_checks fs mk c f) offset e
  func_resolve_caused t = second_caused (func_own_checks fs f) (parts_checks fs c (func_parts f)) gives func_sizes offset e t

  pub func_size_caused : MemoryOrCausedBy (if_found (node_checks mk) (func_made c f)) offset e → MemoryOrCausedBy (func_checks fs mk c f) offset e
  func_size_caused t = third_caused (func_own_checks fs f) (parts_checks fs c (func_parts f)) gives func_sizes offset e t
