-- A state in an arena that grew stands for the same context; what calls keep.
use Rattle.std.proofs.Common.{◌≡◌, ℕ, zero, suc, List, [], ◌∷◌, ◌++◌, map, refl, sym, ◌∙◌, ap, subst, append-nil, append_assoc, arith, Bool, true, ◌⊎◌, inl, inr}
use Rattle.std.specs.Prelude.{slice_get, Option, Some, All}
use Rattle.std.proofs.lemmas.Option.{slice_get_within, get_or_from_slice_get}
use Rattle.std.proofs.lemmas.List.Elements.{All-nil, All-cons, All-head, All-tail, All-push, All-weaker, All-get_or}
use Rattle.wcv_core.specs.CoreGroups.{total}
use Rattle.wcv_core.specs.CoreSizes.{IsEntityWithin}
use Rattle.wcv_core.specs.Names.{Name, number}
use Rattle.wcv_core.specs.declared.core_types.ValType.{ValType}
use Rattle.wcv_core.specs.declared.features.WasmFeatures.{WasmFeatures}
use Rattle.wcv_types.specs.Arena.{Arena}
use Rattle.wcv_types.specs.ComponentTrees.{ResourceStands}
use Rattle.wcv_types.specs.Entities.{any_part, entity_slot, entity_tree, entry_name, entry_tree, entry_trees, SlotStands, EntityStands, EntryStands}
use Rattle.wcv_types.specs.Paths.{PathLeadsTo}
use Rattle.wcv_types.specs.Sets.{AllStand}
use Rattle.wcv_types.specs.Standing.{Stands, Extends}
use Rattle.wcv_types.specs.Measure.{sizes, depths}
use Rattle.wcv_types.specs.Tree.{Text, Extern_name, Sort, sort, type_of, Parts, none, entries, import, export}
use Rattle.wcv_types.specs.Unfold.{Slot, leaf, at, both, core, trees, slot_tree}
use Rattle.wcv_types.specs.declared.ids.ResourceId.{ResourceId}
use Rattle.wcv_types.specs.declared.item_map.ComponentItem.{ComponentItem}
use Rattle.wcv_types.specs.declared.shapes.ComponentEntityType.{ComponentEntityType}
use Rattle.wcv_types.specs.declared.shapes.ComponentEntityType.TheVariants as entity
use Rattle.wcv_types.proofs.Each.{map-push}
use Rattle.wcv_lower.specs.Step.{Step, appends, core_appends, marks_value, joins}
use Rattle.wcv_lower.specs.Trees.{Type_tree, Tree_context, tree_reader}
use Rattle.wcv_types.proofs.Grown.{extends_refl, extends_trans, stands_more, same_tree, items_within}
use Rattle.wcv_lower.specs.Context.{Space, in_types, in_funcs, in_values, in_instances, in_components, Core_space, core_types, core_funcs, core_tags, core_modules, core_instances, core_memories, core_tables, core_globals, Side, importing, exporting, same_space, same_core_space, joined, push, mark}
use Rattle.wcv_lower.specs.Context as lower
use Rattle.wcv_spaces.specs.Contents.{Contents, SpaceLists, Listed, Id, Core_id, ids, core_ids, push_id, push_core, with_id, with_core, with_charge, unmarked, entries_of, sides, names, empty_state, is_number, context_of, id_slot, core_slot, id_tree, core_tree, IdStands, CoreStands, CoreIdStands, LeadsToImport, side_parts, IsSized, StateStands}
use Rattle.wcv_spaces.specs.declared.kind.ComponentKind.{ComponentKind}
use Rattle.wcv_spaces.specs.Looking.{New_id, own_id, core_id, entity_id, entity_sort, enter_id, entered}
use Rattle.wcv_spaces.specs.Promises.{IsPrefix, KeepsEntries, Keeps}
use Rattle.wcv_spaces.proofs.Brought.{entity_sorted}
use Rattle.wcv_spaces.proofs.Sides.{each_space, each_core, each_side, ids_push, core_push, core_ids_push, space_push}

-- what holds of each element holds of the one at an index
pub all_at : {X : Type 0} (P : X → Type 0) (xs : List X) (k : ℕ) (x : X) → All P xs → slice_get xs k ≡ Some x → P x
all_at P xs k x a h = subst P (get_or_from_slice_get xs k x x h) (All-get_or P xs k x (slice_get_within xs k x h) a)

-- where f and g agree on each element that has the property
pub same_mapped : {A B : Type 0} (P : A → Type 0) (f g : A → B) (xs : List A) → ((x : A) → P x → f x ≡ g x) → All P xs → map f xs ≡ map g xs
same_mapped P f g [] h a = refl
same_mapped P f g (x ∷ xs) h a =
    let p : f x ≡ g x = h x (All-head P x xs a) in
    let q : map f xs ≡ map g xs = same_mapped P f g xs h (All-tail P x xs a) in
    λ j. p j ∷ q j

-- an element stays where one more joins behind it
get_before : {X : Type 0} (xs : List X) (x : X) (k : ℕ) (y : X) → slice_get xs k ≡ Some y → slice_get (xs ++ x ∷ []) k ≡ Some y
get_before [] x k y h = cc
get_before (z ∷ xs) x zero y h = h
get_before (z ∷ xs) x (suc k) y h = get_before xs x k y h

-- nothing stands before the first item
pub empty_stands : (a : Arena) (k : ComponentKind) (f : WasmFeatures) → StateStands a (empty_state k f)
empty_stands a k f = record {
  space = each_space (λ j. All (IdStands a j) (ids j (empty_state k f).spaces)) (All-nil _) (All-nil _) (All-nil _) (All-nil _) (All-nil _);
  core = each_core (λ j. All (CoreIdStands a j) (core_ids j (empty_state k f).spaces)) (All-nil _) (All-nil _) (All-nil _) (All-nil _) (All-nil _) (All-nil _) (All-nil _) (All-nil _);
  side = each_side (λ d. All (EntryStands a) (sides (empty_state k f) d)) (All-nil _) (All-nil _);
  imported = All-nil _;
  defined = All-nil _;
  numbers = All-nil _;
  named = each_side (λ d. AllStand a (names (empty_state k f) d)) (All-nil _) (All-nil _);
  lead = All-nil _;
  sized = record { size = refl; depth = refl };
}

-- ## Paths

-- one more entry behind the others changes no path
pub path_more : (p : List ℕ) (r : Name) (es : List (Extern_name × Type_tree)) (e : Extern_name × Type_tree) → PathLeadsTo p r es → PathLeadsTo p r (es ++ e ∷ [])
path_more [] r es e h = h
path_more (k ∷ []) r es e h = (h.0, get_before es e k h.0 h.1, h.2)
path_more (k ∷ j ∷ p) r es e h = (h.0, get_before es e k h.0 h.1, h.2, h.3)

pub lead_more : (a : Arena) (es : Listed) (e : Text × ComponentItem) (rs : List (ResourceId × List ℕ)) → All (LeadsToImport a es) rs → All (LeadsToImport a (es ++ e ∷ [])) rs
lead_more a es e rs h =
    All-weaker (LeadsToImport a es) (LeadsToImport a (es ++ e ∷ [])) (λ p w.
    subst (PathLeadsTo p.1 (number p.0.index)) (sym (map-push (entry_tree (trees a.nodes)) es e)) (path_more p.1 (number p.0.index) (entry_trees (trees a.nodes) es) (entry_tree (trees a.nodes) e) w)) rs h

-- ## An arena that grew

module _ (a b : Arena) (g : Extends a b) where
  slot_stands : (l : Slot) → SlotStands a l → SlotStands b l
  slot_stands (leaf o) h = tt
  slot_stands (at q) h = stands_more a b q g h
  slot_stands (both c r) h = (stands_more a b c g h.0, stands_more a b r g h.1)
  slot_stands (core e) h = tt

  core_stands : (l : Slot) → CoreStands a l → CoreStands b l
  core_stands (leaf o) h = tt
  core_stands (at q) h = stands_more a b q g h
  core_stands (both c r) h = (stands_more a b c g h.0, stands_more a b r g h.1)
  core_stands (core e) h =
      All-head (IsEntityWithin (total b.core)) e [] (items_within a b (e ∷ []) g (All-cons (IsEntityWithin (total a.core)) e [] h (All-nil (IsEntityWithin (total a.core)))))

  pub same_slot : (l : Slot) → SlotStands a l → slot_tree (trees b.nodes) l ≡ slot_tree (trees a.nodes) l
  same_slot (leaf o) h = refl
  same_slot (at q) h = same_tree a b q g h
  same_slot (both c r) h =
      let p = same_tree a b c g h.0 in
      let q = same_tree a b r g h.1 in
      λ j. type_of (p j) (q j)
  same_slot (core e) h = refl

  same_core : (l : Slot) → CoreStands a l → slot_tree (trees b.nodes) l ≡ slot_tree (trees a.nodes) l
  same_core (leaf o) h = refl
  same_core (at q) h = same_tree a b q g h
  same_core (both c r) h = same_slot (both c r) h
  same_core (core e) h = refl

  same_entries : (es : Listed) → All (EntryStands a) es → entry_trees (trees b.nodes) es ≡ entry_trees (trees a.nodes) es
  same_entries es h = same_mapped (EntryStands a) (entry_tree (trees b.nodes)) (entry_tree (trees a.nodes)) es (λ x p. ap (λ (t : Type_tree). (entry_name x, t)) (same_slot (entity_slot x.1.ty) p)) h

  resource_more : (r : ResourceId) → ResourceStands a r → ResourceStands b r
  resource_more r h = omega (arith, h, g.resources)

  pub entity_more : (x : ComponentEntityType) → EntityStands a x → EntityStands b x
  entity_more x h = slot_stands (entity_slot x) h

  same_parts : (s : Contents) → StateStands a s → side_parts (trees b.nodes) s ≡ side_parts (trees a.nodes) s
  same_parts s h = λ j. entries import (same_entries s.imports (h.side importing) j) (entries export (same_entries s.exports (h.side exporting) j) none)

  -- the ids of a state stand on
  pub state_stands : (s : Contents) → StateStands a s → StateStands b s
  state_stands s h = record {
    space = λ k. All-weaker (IdStands a k) (IdStands b k) (λ x. slot_stands (id_slot k x)) (ids k s.spaces) (h.space k);
    core = λ k. All-weaker (CoreIdStands a k) (CoreIdStands b k) (λ x. core_stands (core_slot k x)) (core_ids k s.spaces) (h.core k);
    side = λ d. All-weaker (EntryStands a) (EntryStands b) (λ x. entity_more x.1.ty) (sides s d) (h.side d);
    imported = All-weaker (λ (p : ResourceId × List ℕ). ResourceStands a p.0) (λ (p : ResourceId × List ℕ). ResourceStands b p.0) (λ p. resource_more p.0) s.imported_resources h.imported;
    defined = All-weaker (λ (p : ResourceId × Option ValType). ResourceStands a p.0) (λ (p : ResourceId × Option ValType). ResourceStands b p.0) (λ p. resource_more p.0) s.defined_resources h.defined;
    numbers = h.numbers;
    named = λ d. All-weaker (λ i. Stands a (any_part i)) (λ i. Stands b (any_part i)) (λ i. stands_more a b (any_part i) g) (names s d) (h.named d);
    lead = All-weaker (LeadsToImport a s.imports) (LeadsToImport b s.imports) (λ p w. subst (PathLeadsTo p.1 (number p.0.index)) (sym (same_entries s.imports (h.side importing))) w) s.imported_resources h.lead;
    sized = record {
      size = h.sized.size ∙ ap (λ (ps : Parts Name Name). suc (sizes ps)) (sym (same_parts s h));
      depth = h.sized.depth ∙ ap (λ (ps : Parts Name Name). suc (depths ps)) (sym (same_parts s h));
    };
  }

  -- the state stands for the same context
  pub same_context : (s : Contents) → StateStands a s → context_of b s ≡ context_of a s
  same_context s h = λ j. record (context_of a s) {
    core = λ k. same_mapped (CoreIdStands a k) (core_tree (trees b.nodes) k) (core_tree (trees a.nodes) k) (core_ids k s.spaces) (λ x. same_core (core_slot k x)) (h.core k) j;
    space = λ k. same_mapped (IdStands a k) (id_tree (trees b.nodes) k) (id_tree (trees a.nodes) k) (ids k s.spaces) (λ x. same_slot (id_slot k x)) (h.space k) j;
    side = λ d. same_entries (sides s d) (h.side d) j;
  }

-- ## What calls keep

pub no_more : {X : Type 0} (xs : List X) → IsPrefix xs xs
no_more xs = ([], sym (append-nil xs))

pub prefix_trans : {X : Type 0} (xs ys zs : List X) → IsPrefix xs ys → IsPrefix ys zs → IsPrefix xs zs
prefix_trans xs ys zs p q = (p.0 ++ q.0, q.1 ∙ ap (λ l. l ++ q.0) p.1 ∙ append_assoc xs p.0 q.0)

pub entries_refl : (s : SpaceLists) → KeepsEntries s s
entries_refl s = record { space = λ k. no_more (entries_of k s); core = λ k. no_more (core_ids k s) }

pub entries_trans : (s t u : SpaceLists) → KeepsEntries s t → KeepsEntries t u → KeepsEntries s u
entries_trans s t u p q = record {
  space = λ k. prefix_trans (entries_of k s) (entries_of k t) (entries_of k u) (p.space k) (q.space k);
  core = λ k. prefix_trans (core_ids k s) (core_ids k t) (core_ids k u) (p.core k) (q.core k);
}

-- the arena grew, and nothing else happened
pub keeps_grown : (a b : Arena) (s : Contents) → Extends a b → StateStands a s → Keeps a b s s
keeps_grown a b s g h = record {
  arena = g;
  stands = state_stands a b g s h;
  entries = entries_refl s.spaces;
  sides = λ d. no_more (sides s d);
  imported = no_more s.imported_resources;
  defined = no_more s.defined_resources;
  named = λ d. no_more (names s d);
  kind = refl;
  features = refl;
  context_type = λ v e. e;
}

-- one call after another
pub keeps_trans : (a b c : Arena) (s t u : Contents) → Keeps a b s t → Keeps b c t u → Keeps a c s u
keeps_trans a b c s t u p q = record {
  arena = extends_trans a b c p.arena q.arena;
  stands = q.stands;
  entries = entries_trans s.spaces t.spaces u.spaces p.entries q.entries;
  sides = λ d. prefix_trans (sides s d) (sides t d) (sides u d) (p.sides d) (q.sides d);
  imported = prefix_trans s.imported_resources t.imported_resources u.imported_resources p.imported q.imported;
  defined = prefix_trans s.defined_resources t.defined_resources u.defined_resources p.defined q.defined;
  named = λ d. prefix_trans (names s d) (names t d) (names u d) (p.named d) (q.named d);
  kind = q.kind ∙ p.kind;
  features = q.features ∙ p.features;
  context_type = λ v e. q.context_type v (p.context_type v e);
}

-- a call that only set the mark
pub keeps_marked : (a : Arena) (s z : Contents) (b : Bool) → z ≡ s → StateStands a s → Keeps a a s (record z { spent = b })
keeps_marked a s z b e h =
    let k : StateStands a z = subst (StateStands a) (sym e) h in
    subst (λ (w : Contents). Keeps a a w (record z { spent = b })) e (record {
      arena = extends_refl a;
      stands = record { space = k.space; core = k.core; side = k.side; imported = k.imported; defined = k.defined; numbers = k.numbers; named = k.named; lead = k.lead; sized = record { size = k.sized.size; depth = k.sized.depth } };
      entries = entries_refl z.spaces;
      sides = λ d. no_more (sides z d);
      imported = no_more z.imported_resources;
      defined = no_more z.defined_resources;
      named = λ d. no_more (names z d);
      kind = refl;
      features = refl;
      context_type = λ v e. e;
    })

-- a call that only added to what was aliased into the state
pub keeps_charged : (a : Arena) (s : Contents) (n : ℕ) → StateStands a s → Keeps a a s (with_charge n s)
keeps_charged a s n k = record {
  arena = extends_refl a;
  stands = record { space = k.space; core = k.core; side = k.side; imported = k.imported; defined = k.defined; numbers = k.numbers; named = k.named; lead = k.lead; sized = record { size = k.sized.size; depth = k.sized.depth } };
  entries = entries_refl s.spaces;
  sides = λ d. no_more (sides s d);
  imported = no_more s.imported_resources;
  defined = no_more s.defined_resources;
  named = λ d. no_more (names s d);
  kind = refl;
  features = refl;
  context_type = λ v e. e;
}

-- so in an arena that stayed
pub keeps_marked_in : (a b : Arena) (s z : Contents) (m : Bool) → b ≡ a → z ≡ s → StateStands a s → Keeps a b s (record z { spent = m })
keeps_marked_in a b s z m eb e h = subst (λ (c : Arena). Keeps a c s (record z { spent = m })) (sym eb) (keeps_marked a s z m e h)

-- so in an arena that grew
pub keeps_grown_marked : (a b : Arena) (s z : Contents) (m : Bool) → Extends a b → z ≡ s → StateStands a s → Keeps a b s (record z { spent = m })
keeps_grown_marked a b s z m g e h = keeps_trans a b b s s (record z { spent = m }) (keeps_grown a b s g h) (keeps_marked b s z m e (state_stands a b g s h))

-- ## One more entry in a space

pub push_entries : (k : Space) (x : Id k) (s : SpaceLists) → KeepsEntries s (push_id k x s)
push_entries k x s = record {
  space = ids_push (λ j xs. IsPrefix (entries_of j s) (map (unmarked j) xs)) k x s (λ j e. no_more (entries_of j s)) (unmarked k x ∷ [], map-push (unmarked k) (ids k s) x);
  core = λ j. subst (IsPrefix (core_ids j s)) (sym (core_push k x s j)) (no_more (core_ids j s));
}

pub push_stands : (a : Arena) (k : Space) (x : Id k) (s : SpaceLists) → ((j : Space) → All (IdStands a j) (ids j s)) → IdStands a k x → (j : Space) → All (IdStands a j) (ids j (push_id k x s))
push_stands a k x s h p = ids_push (λ j xs. All (IdStands a j) xs) k x s (λ j e. h j) (All-push (IdStands a k) (ids k s) x (h k) p)

same_self : (k : Space) → same_space k k ≡ true
same_self in_types = refl
same_self in_funcs = refl
same_self in_values = refl
same_self in_instances = refl
same_self in_components = refl

-- the trees of the entries of each space
pub push_trees : (ts : List Type_tree) (k : Space) (x : Id k) (s : SpaceLists) (j : Space) → map (id_tree ts j) (ids j (push_id k x s)) ≡ joined (same_space j k) (map (id_tree ts j) (ids j s)) (id_tree ts k x)
push_trees ts k x s =
    ids_push (λ j xs. map (id_tree ts j) xs ≡ joined (same_space j k) (map (id_tree ts j) (ids j s)) (id_tree ts k x)) k x s
    (λ j e. sym (ap (λ (b : Bool). joined b (map (id_tree ts j) (ids j s)) (id_tree ts k x)) e))
    (map-push (id_tree ts k) (ids k s) x ∙ sym (ap (λ (b : Bool). joined b (map (id_tree ts k) (ids k s)) (id_tree ts k x)) (same_self k)))

pub keeps_with_id : (a : Arena) (k : Space) (x : Id k) (s : Contents) → StateStands a s → IdStands a k x → Keeps a a s (with_id k x s)
keeps_with_id a k x s h p = record {
  arena = extends_refl a;
  stands = record { space = push_stands a k x s.spaces h.space p; core = λ j. subst (All (CoreIdStands a j)) (sym (core_push k x s.spaces j)) (h.core j); side = h.side; imported = h.imported; defined = h.defined; numbers = h.numbers; named = h.named; lead = h.lead; sized = record { size = h.sized.size; depth = h.sized.depth } };
  entries = push_entries k x s.spaces;
  sides = λ d. no_more (sides s d);
  imported = no_more s.imported_resources;
  defined = no_more s.defined_resources;
  named = λ d. no_more (names s d);
  kind = refl;
  features = refl;
  context_type = λ v e. e;
}

-- the context with those spaces
abbrev pub with_spaces : List Type_tree → SpaceLists → Tree_context → Tree_context
with_spaces ts s c = record c { core = λ k. map (core_tree ts k) (core_ids k s); space = λ k. map (id_tree ts k) (ids k s); used = map (λ v. v.1) s.values }

-- an entry of a space in a context: a value joins with its mark
abbrev pub push_marked : List Type_tree → (k : Space) → Id k → Tree_context → Tree_context
push_marked ts in_types x c = push in_types (id_tree ts in_types x) c
push_marked ts in_funcs x c = push in_funcs (id_tree ts in_funcs x) c
push_marked ts in_values v c = mark v.1 (push in_values (id_tree ts in_values v) c)
push_marked ts in_instances x c = push in_instances (id_tree ts in_instances x) c
push_marked ts in_components x c = push in_components (id_tree ts in_components x) c

pub pushed_spaces : (ts : List Type_tree) (k : Space) (x : Id k) (s : SpaceLists) (c : Tree_context) → with_spaces ts (push_id k x s) c ≡ push_marked ts k x (with_spaces ts s c)
pushed_spaces ts in_types x s c = λ j. record (with_spaces ts s c) { core = λ i. map (core_tree ts i) (core_push in_types x s i j); space = λ i. push_trees ts in_types x s i j }
pushed_spaces ts in_funcs x s c = λ j. record (with_spaces ts s c) { core = λ i. map (core_tree ts i) (core_push in_funcs x s i j); space = λ i. push_trees ts in_funcs x s i j }
pushed_spaces ts in_values x s c = λ j. record (with_spaces ts s c) { core = λ i. map (core_tree ts i) (core_push in_values x s i j); space = λ i. push_trees ts in_values x s i j; used = map-push (λ v. v.1) s.values x j }
pushed_spaces ts in_instances x s c = λ j. record (with_spaces ts s c) { core = λ i. map (core_tree ts i) (core_push in_instances x s i j); space = λ i. push_trees ts in_instances x s i j }
pushed_spaces ts in_components x s c = λ j. record (with_spaces ts s c) { core = λ i. map (core_tree ts i) (core_push in_components x s i j); space = λ i. push_trees ts in_components x s i j }

pub with_id_context : (a : Arena) (k : Space) (x : Id k) (s : Contents) → context_of a (with_id k x s) ≡ push_marked (trees a.nodes) k x (context_of a s)
with_id_context a k x s = pushed_spaces (trees a.nodes) k x s.spaces (context_of a s)

-- ## One more entry in a core space

pub push_core_entries : (k : Core_space) (x : Core_id k) (s : SpaceLists) → KeepsEntries s (push_core k x s)
push_core_entries k x s = record {
  space = λ j. subst (λ (xs : List (Id j)). IsPrefix (entries_of j s) (map (unmarked j) xs)) (sym (space_push k x s j)) (no_more (entries_of j s));
  core = core_ids_push (λ j xs. IsPrefix (core_ids j s) xs) k x s (λ j e. no_more (core_ids j s)) (x ∷ [], refl);
}

pub push_core_stands : (a : Arena) (k : Core_space) (x : Core_id k) (s : SpaceLists) → ((j : Core_space) → All (CoreIdStands a j) (core_ids j s)) → CoreIdStands a k x → (j : Core_space) → All (CoreIdStands a j) (core_ids j (push_core k x s))
push_core_stands a k x s h p = core_ids_push (λ j xs. All (CoreIdStands a j) xs) k x s (λ j e. h j) (All-push (CoreIdStands a k) (core_ids k s) x (h k) p)

same_core_self : (k : Core_space) → same_core_space k k ≡ true
same_core_self core_types = refl
same_core_self core_funcs = refl
same_core_self core_tags = refl
same_core_self core_modules = refl
same_core_self core_instances = refl
same_core_self core_memories = refl
same_core_self core_tables = refl
same_core_self core_globals = refl

-- the trees of the entries of each core space
pub push_core_trees : (ts : List Type_tree) (k : Core_space) (x : Core_id k) (s : SpaceLists) (j : Core_space) →
    map (core_tree ts j) (core_ids j (push_core k x s)) ≡ joined (same_core_space j k) (map (core_tree ts j) (core_ids j s)) (core_tree ts k x)
push_core_trees ts k x s =
    core_ids_push (λ j xs. map (core_tree ts j) xs ≡ joined (same_core_space j k) (map (core_tree ts j) (core_ids j s)) (core_tree ts k x)) k x s
    (λ j e. sym (ap (λ (b : Bool). joined b (map (core_tree ts j) (core_ids j s)) (core_tree ts k x)) e))
    (map-push (core_tree ts k) (core_ids k s) x ∙ sym (ap (λ (b : Bool). joined b (map (core_tree ts k) (core_ids k s)) (core_tree ts k x)) (same_core_self k)))

pub keeps_with_core : (a : Arena) (k : Core_space) (x : Core_id k) (s : Contents) → StateStands a s → CoreIdStands a k x → Keeps a a s (with_core k x s)
keeps_with_core a k x s h p = record {
  arena = extends_refl a;
  stands = record { space = λ j. subst (All (IdStands a j)) (sym (space_push k x s.spaces j)) (h.space j); core = push_core_stands a k x s.spaces h.core p; side = h.side; imported = h.imported; defined = h.defined; numbers = h.numbers; named = h.named; lead = h.lead; sized = record { size = h.sized.size; depth = h.sized.depth } };
  entries = push_core_entries k x s.spaces;
  sides = λ d. no_more (sides s d);
  imported = no_more s.imported_resources;
  defined = no_more s.defined_resources;
  named = λ d. no_more (names s d);
  kind = refl;
  features = refl;
  context_type = λ v e. e;
}

pub pushed_core : (ts : List Type_tree) (k : Core_space) (x : Core_id k) (s : SpaceLists) (c : Tree_context) → with_spaces ts (push_core k x s) c ≡ lower.push_core k (core_tree ts k x) (with_spaces ts s c)
pushed_core ts k x s c = λ j. record (with_spaces ts s c) {
  core = λ i. push_core_trees ts k x s i j;
  space = λ i. map (id_tree ts i) (space_push k x s i j);
  used = map (λ v. v.1) (space_push k x s in_values j);
}

pub with_core_context : (a : Arena) (k : Core_space) (x : Core_id k) (s : Contents) → context_of a (with_core k x s) ≡ lower.push_core k (core_tree (trees a.nodes) k x) (context_of a s)
with_core_context a k x s = pushed_core (trees a.nodes) k x s.spaces (context_of a s)

-- ## An entity that joins

pub entered_entries : (used : Bool) (x : ComponentEntityType) (s s' : SpaceLists) → (s' ≡ s) ⊎ (s' ≡ entered used x s) → KeepsEntries s s'
entered_entries used x s s' (inl e) = subst (KeepsEntries s) (sym e) (entries_refl s)
entered_entries used x s s' (inr e) = subst (KeepsEntries s) (sym e) (go (entity_id used x))
  where
    go : (n : New_id) → KeepsEntries s (enter_id n s)
    go (own_id k i) = push_entries k i s
    go (core_id k i) = push_core_entries k i s

abbrev pub NewStands : Arena → New_id → Type 0
NewStands a (own_id k x) = IdStands a k x
NewStands a (core_id k x) = CoreIdStands a k x

-- what an entry does to a context
abbrev own_step : List Type_tree → (k : Space) → Id k → Step tree_reader
own_step ts in_types x = appends in_types (id_tree ts in_types x) ∷ []
own_step ts in_funcs x = appends in_funcs (id_tree ts in_funcs x) ∷ []
own_step ts in_values v = appends in_values (id_tree ts in_values v) ∷ marks_value v.1 ∷ []
own_step ts in_instances x = appends in_instances (id_tree ts in_instances x) ∷ []
own_step ts in_components x = appends in_components (id_tree ts in_components x) ∷ []

abbrev pub new_step : List Type_tree → New_id → Step tree_reader
new_step ts (own_id k x) = own_step ts k x
new_step ts (core_id k x) = core_appends k (core_tree ts k x) ∷ []

-- an entity in its space, and what its tree does to a context
pub entity_new : (a : Arena) (used : Bool) (x : ComponentEntityType) → EntityStands a x → NewStands a (entity_id used x)
entity_new a used (entity.Module i) p = p
entity_new a used (entity.Func i) p = p
entity_new a used (entity.Value v) p = p
entity_new a used (entity.Ty c r) p = (p.0, p.0)
entity_new a used (entity.Instance i) p = p
entity_new a used (entity.Component i) p = p

pub entity_joins : (a : Arena) (used : Bool) (x : ComponentEntityType) → EntityStands a x → joins tree_reader used (sort (entity_tree (trees a.nodes) x)) (entity_tree (trees a.nodes) x) ≡ new_step (trees a.nodes) (entity_id used x)
entity_joins a used x p = ap (λ (o : Sort). joins tree_reader used o (entity_tree (trees a.nodes) x)) (entity_sorted a x p) ∙ go x
  where
    go : (x : ComponentEntityType) → joins tree_reader used (entity_sort x) (entity_tree (trees a.nodes) x) ≡ new_step (trees a.nodes) (entity_id used x)
    go (entity.Module i) = refl
    go (entity.Func i) = refl
    go (entity.Value v) = refl
    go (entity.Ty c r) = refl
    go (entity.Instance i) = refl
    go (entity.Component i) = refl

-- all ids of the spaces stand
abbrev IdsStand : Arena → SpaceLists → Type 0
IdsStand a s = ((k : Space) → All (IdStands a k) (ids k s)) × ((k : Core_space) → All (CoreIdStands a k) (core_ids k s))

new_stands : (a : Arena) (n : New_id) (s : SpaceLists) → NewStands a n → IdsStand a s → IdsStand a (enter_id n s)
new_stands a (own_id k x) s p h = (push_stands a k x s h.0 p, λ j. subst (All (CoreIdStands a j)) (sym (core_push k x s j)) (h.1 j))
new_stands a (core_id k x) s p h = (λ j. subst (All (IdStands a j)) (sym (space_push k x s j)) (h.0 j), push_core_stands a k x s h.1 p)

-- the entity may stand in its space, and an entry of it in a side, with what it brings
pub keeps_entry : (a : Arena) (used : Bool) (s z s' : Contents) (e : Text × ComponentItem) → z ≡ s → StateStands a s → EntryStands a e → (s'.spaces ≡ z.spaces) ⊎ (s'.spaces ≡ entered used e.1.ty z.spaces) →
    ((d : Side) → (sides s' d ≡ sides z d) ⊎ (sides s' d ≡ sides z d ++ e ∷ [])) →
    (StateStands a z → IsPrefix z.imported_resources s'.imported_resources × All (λ (p : ResourceId × List ℕ). ResourceStands a p.0) s'.imported_resources × All (LeadsToImport a s'.imports) s'.imported_resources) →
    (StateStands a z → IsPrefix z.defined_resources s'.defined_resources × All (λ (p : ResourceId × Option ValType). ResourceStands a p.0) s'.defined_resources × All (λ (p : ResourceId × Option ValType). is_number p.1 ≡ true) s'.defined_resources) →
    (StateStands a z → (d : Side) → IsPrefix (names z d) (names s' d) × AllStand a (names s' d)) → (IsSized (trees a.nodes) z → IsSized (trees a.nodes) s') → s'.kind ≡ z.kind → s'.features ≡ z.features → s'.context_type ≡ z.context_type → Keeps a a s s'
keeps_entry a used s z s' e ez h p spaces lists imported defined named sized kind features slots =
    let k : StateStands a z = subst (StateStands a) (sym ez) h in
    subst (λ (w : Contents). Keeps a a w s') ez (record {
      arena = extends_refl a;
      stands = record { space = (by_spaces (k.space, k.core) spaces).0; core = (by_spaces (k.space, k.core) spaces).1; side = λ d. by_list d (k.side d) (lists d); imported = (imported k).1; defined = (defined k).1; numbers = (defined k).2; named = λ d. (named k d).1; lead = (imported k).2; sized = sized k.sized };
      entries = entered_entries used e.1.ty z.spaces s'.spaces spaces;
      sides = λ d. prefixes d (lists d);
      imported = (imported k).0;
      defined = (defined k).0;
      named = λ d. (named k d).0;
      kind = kind;
      features = features;
      context_type = λ v q. slots ∙ q;
    })
  where
    by_spaces : IdsStand a z.spaces → (s'.spaces ≡ z.spaces) ⊎ (s'.spaces ≡ entered used e.1.ty z.spaces) → IdsStand a s'.spaces
    by_spaces k (inl q) = subst (IdsStand a) (sym q) k
    by_spaces k (inr q) = subst (IdsStand a) (sym q) (new_stands a (entity_id used e.1.ty) z.spaces (entity_new a used e.1.ty p) k)

    by_list : (d : Side) → All (EntryStands a) (sides z d) → (sides s' d ≡ sides z d) ⊎ (sides s' d ≡ sides z d ++ e ∷ []) → All (EntryStands a) (sides s' d)
    by_list d k (inl q) = subst (All (EntryStands a)) (sym q) k
    by_list d k (inr q) = subst (All (EntryStands a)) (sym q) (All-push (EntryStands a) (sides z d) e k p)

    prefixes : (d : Side) → (sides s' d ≡ sides z d) ⊎ (sides s' d ≡ sides z d ++ e ∷ []) → IsPrefix (sides z d) (sides s' d)
    prefixes d (inl q) = ([], q ∙ sym (append-nil (sides z d)))
    prefixes d (inr q) = (e ∷ [], q)

-- ## What an entry brings

module _ (a : Arena) (z : Contents) (h : StateStands a z) where
  -- no resource that is imported, where an import may have joined
  pub same_imported : (rs : List (ResourceId × List ℕ)) (es : Listed) (e : Text × ComponentItem) → rs ≡ z.imported_resources → (es ≡ z.imports) ⊎ (es ≡ z.imports ++ e ∷ []) →
      IsPrefix z.imported_resources rs × All (λ (p : ResourceId × List ℕ). ResourceStands a p.0) rs × All (LeadsToImport a es) rs
  same_imported rs es e q l = (
    ([], q ∙ sym (append-nil z.imported_resources)),
    subst (All (λ (p : ResourceId × List ℕ). ResourceStands a p.0)) (sym q) h.imported,
    subst (All (LeadsToImport a es)) (sym q) (go l),
  )
    where
      go : (es ≡ z.imports) ⊎ (es ≡ z.imports ++ e ∷ []) → All (LeadsToImport a es) z.imported_resources
      go (inl w) = subst (λ (xs : Listed). All (LeadsToImport a xs) z.imported_resources) (sym w) h.lead
      go (inr w) = subst (λ (xs : Listed). All (LeadsToImport a xs) z.imported_resources) (sym w) (lead_more a z.imports e z.imported_resources h.lead)

  pub same_defined : (rs : List (ResourceId × Option ValType)) → rs ≡ z.defined_resources → IsPrefix z.defined_resources rs × All (λ (p : ResourceId × Option ValType). ResourceStands a p.0) rs × All (λ (p : ResourceId × Option ValType). is_number p.1 ≡ true) rs
  same_defined rs q = (([], q ∙ sym (append-nil z.defined_resources)), subst (All (λ (p : ResourceId × Option ValType). ResourceStands a p.0)) (sym q) h.defined, subst (All (λ (p : ResourceId × Option ValType). is_number p.1 ≡ true)) (sym q) h.numbers)
