-- Aliases of what instances export: what is looked up in a state is what its context says, and an entity that joins a state joins its context.
use Rattle.std.proofs.Common.{◌≡◌, ℕ, List, [], ◌∷◌, ◌++◌, refl, sym, ◌∙◌, ap, subst, Bool, true, false, not, ◌&&◌, cond, Some, None, bytes_eq, arith, min}
use Rattle.std.specs.Prelude.{All, Option, slice_get, nat_le}
use Rattle.std.specs.Map.{lookup}
use Rattle.std.specs.Option.{option_map, option_and_then}
use Rattle.std.proofs.lemmas.Bool.Decides.{nat_tests}
use Rattle.wcv_core.specs.Limits.{max_instances}
use Rattle.wcv_core.specs.Names.{Name, Place}
use Rattle.wcv_core.specs.declared.error.Error.{Error}
use Rattle.wcv_core.specs.declared.error.ErrorKind.TheVariants as error
use Rattle.wcv_core.proofs.Causes.{cause_left, cause_right, free_both}
use Rattle.wcv_syntax.specs.Model.{alias_item}
use Rattle.wcv_syntax.specs.declared.instance.ComponentAlias.TheVariants as alias
use Rattle.wcv_syntax.specs.declared.instance.ComponentExternalKind.{ComponentExternalKind}
use Rattle.wcv_syntax.specs.declared.instance.ComponentExternalKind.TheVariants as kind
use Rattle.wcv_types.specs.Arena.{Arena}
use Rattle.wcv_types.specs.Entities.{entity_tree, entry_trees, EntityStands, EntryStands}
use Rattle.wcv_types.specs.Standing.{Stands}
use Rattle.wcv_types.specs.Tree.{Text, Sort, Parts, export, exports, exports_in, sort}
use Rattle.wcv_types.specs.Unfold.{Type_tree, entry_slots, slot_parts, trees, tree_at}
use Rattle.wcv_types.specs.declared.ids.ComponentInstanceTypeId.{ComponentInstanceTypeId}
use Rattle.wcv_types.specs.declared.ids.Part.TheVariants as part
use Rattle.wcv_types.specs.declared.item_map.ComponentItem.{ComponentItem}
use Rattle.wcv_types.specs.declared.shapes.ComponentEntityType.{ComponentEntityType}
use Rattle.wcv_types.specs.declared.shapes.ComponentEntityType.TheVariants as entity
use Rattle.wcv_types.proofs.EntryParts.{entry_parts, exports_in-exports}
use Rattle.wcv_types.proofs.Lists.{some-inj}
use Rattle.wcv_atoms.proofs.PassIds.{found_stands}
use Rattle.wcv_lower.specs.Aliases.{sort_named, is_admitted, instance_at, export_of, joining, export_alias_step, named_checks, export_alias_checks}
use Rattle.wcv_lower.specs.Checks.{Checks, Counts, Cause, IsFree, full, if_found, missing, no_room, same_sort}
use Rattle.wcv_lower.specs.Context.{in_types, in_funcs, in_values, in_instances, in_components, core_modules, is_concrete, counts}
use Rattle.wcv_lower.specs.Given.{none_given}
use Rattle.wcv_lower.specs.Readers.{if_sort, first_named}
use Rattle.wcv_lower.specs.Step.{Step, apply, joins}
use Rattle.wcv_lower.specs.Trees.{Tree_context, tree_reader}
use Rattle.wcv_lower.specs.Values.{kind_checks}
use Rattle.wcv_state.specs.Aliasing.{with_entity, export_id, export_id_checks, ExportFinds}
use Rattle.wcv_spaces.specs.Contents.{Contents, kind_of, id_tree, context_of, stack_of, StateStands}
use Rattle.wcv_spaces.specs.Entering.{room_counts}
use Rattle.wcv_spaces.specs.Promises.{MemoryOrCausedBy, Grew, Keeps}
use Rattle.wcv_spaces.proofs.Brought.{entity_sorted}
use Rattle.wcv_spaces.proofs.Calls.{caused_more}
use Rattle.wcv_spaces.proofs.CoreItems.{missing_mapped}
use Rattle.wcv_spaces.proofs.Found.{get_same, stands_at}
use Rattle.wcv_spaces.proofs.JoinedSides.{counts_same, entered_context}
use Rattle.wcv_spaces.proofs.Keeping.{keeps_with_id, keeps_with_core}

-- a count that ends at a greater number is as good
pub instances_full : (n : ℕ) → full max_instances (min n 18446744073709551615) ≡ full max_instances n
instances_full n = let e : nat_le max_instances (min n 18446744073709551615) ≡ nat_le max_instances n = grind (arith, nat_tests) in λ j. (error.Limit, e j) ∷ []

-- ## An entity joins its space

module _ (a : Arena) (s : Contents) where
  pub entity_keeps : StateStands a s → (x : ComponentEntityType) → EntityStands a x → Keeps a a s (with_entity x s)
  entity_keeps h (entity.Module i) p = keeps_with_core a core_modules i s h p
  entity_keeps h (entity.Func i) p = keeps_with_id a in_funcs i s h p
  entity_keeps h (entity.Value v) p = keeps_with_id a in_values (v, false) s h p
  entity_keeps h (entity.Ty c r) p = keeps_with_id a in_types c s h (p.0, p.0)
  entity_keeps h (entity.Instance i) p = keeps_with_id a in_instances i s h p
  entity_keeps h (entity.Component i) p = keeps_with_id a in_components i s h p

  -- so its tree joins the context, and a value is not used yet
  pub entity_stack : (outer : List Tree_context) (x : ComponentEntityType) → EntityStands a x →
      stack_of a (with_entity x s) outer ≡ apply (joins tree_reader false (sort (entity_tree (trees a.nodes) x)) (entity_tree (trees a.nodes) x)) (stack_of a s outer)
  entity_stack outer x p = entered_context a outer false x s.spaces (context_of a s) p

-- ## What is found

module _ (a : Arena) where
  abbrev tree : ComponentEntityType → Type_tree
  tree x = entity_tree (trees a.nodes) x

  -- what an instance exports is its entries
  pub exports_are : (es : List (Text × ComponentItem)) → exports_in (slot_parts (trees a.nodes) (entry_slots export es)) ≡ entry_trees (trees a.nodes) es
  exports_are es = ap (λ (ps : Parts Name Name). exports_in ps) (entry_parts (trees a.nodes) export es) ∙ exports_in-exports (entry_trees (trees a.nodes) es)

  first_same : (n : Text) (es : List (Text × ComponentItem)) → first_named n (entry_trees (trees a.nodes) es) ≡ option_map tree (export_id es n)
  first_same n [] = refl
  first_same n (e ∷ es) = ap (λ (o : Option Type_tree). cond (bytes_eq n e.0) (Some (tree e.1.ty)) o) (first_same n es) ∙ go (bytes_eq n e.0)
    where
      go : (b : Bool) → cond b (Some (tree e.1.ty)) (option_map tree (export_id es n)) ≡ option_map tree (option_map (λ (i : ComponentItem). i.ty) (cond b (Some e.1) (lookup (bytes_eq n) es)))
      go true = refl
      go false = refl

  pub export_same : (i : ComponentInstanceTypeId) (n : Text) (es : List (Text × ComponentItem)) → exports (tree_at a (part.Instance i)) ≡ entry_trees (trees a.nodes) es → export_of tree_reader n (tree_at a (part.Instance i)) ≡ option_map tree (export_id es n)
  export_same i n es e = ap (first_named n) e ∙ first_same n es

  -- it stands
  pub export_stands : (n : Text) (es : List (Text × ComponentItem)) → All (EntryStands a) es → (x : ComponentEntityType) → export_id es n ≡ Some x → EntityStands a x
  export_stands n es h x e = go (lookup (bytes_eq n) es) refl e
    where
      go : (o : Option ComponentItem) → lookup (bytes_eq n) es ≡ o → option_map (λ (i : ComponentItem). i.ty) o ≡ Some x → EntityStands a x
      go None q e = cc
      go (Some i) q e = subst (EntityStands a) (some-inj e) (found_stands a es n i h q)

  -- the causes are the same
  named_same : (w : ComponentExternalKind) (o : Option ComponentEntityType) → ((x : ComponentEntityType) → o ≡ Some x → EntityStands a x) → named_checks tree_reader (sort_named w) (option_map tree o) ≡ export_id_checks w o
  named_same w None h = refl
  named_same w (Some x) h = ap (λ (k : Sort). (error.UnknownExport, false) ∷ (error.WrongSort, not (same_sort (sort_named w) k)) ∷ []) (entity_sorted a x (h x refl))

module _ (a : Arena) (s : Contents) (h : StateStands a s) (w : ComponentExternalKind) (i : ℕ) (n : Text) where
  abbrev at_index : Option ComponentInstanceTypeId
  at_index = slice_get s.spaces.instances i

  instance_here : instance_at (context_of a s) i ≡ option_map (id_tree (trees a.nodes) in_instances) at_index
  instance_here = get_same a s h in_instances i

  instance_is : (x : ComponentInstanceTypeId) → at_index ≡ Some x → instance_at (context_of a s) i ≡ Some (tree_at a (part.Instance x))
  instance_is x e = instance_here ∙ ap (option_map (id_tree (trees a.nodes) in_instances)) e

  pub instance_stands : (x : ComponentInstanceTypeId) → at_index ≡ Some x → Stands a (part.Instance x)
  instance_stands x e = stands_at a s h in_instances i x e

  -- the entity joins
  export_step_is : (x : ComponentEntityType) → ExportFinds a s.spaces w i n x → export_alias_step (context_of a s) w i n ≡ Some (joins tree_reader false (sort (tree a x)) (tree a x))
  export_step_is x f =
      let sorted : same_sort (sort_named w) (sort (tree a x)) ≡ true = ap (same_sort (sort_named w)) (entity_sorted a x f.stands) ∙ f.sort in
      ap (λ (o : Option Type_tree). option_map (joining {X = tree_reader}) (option_and_then (if_sort tree_reader (sort_named w)) (option_and_then (export_of tree_reader n) o))) (instance_is f.instance f.at) ∙
      ap (λ (o : Option Type_tree). option_map (joining {X = tree_reader}) (option_and_then (if_sort tree_reader (sort_named w)) o)) f.export ∙
      ap (λ (b : Bool). option_map (joining {X = tree_reader}) (cond b (Some (tree a x)) None)) sorted

  -- ## Causes

  abbrev feature : Checks
  feature = kind_checks s.features w

  abbrev scope : Checks
  scope = (error.AliasKind, not (is_concrete (kind_of s.kind)) && not (is_admitted w)) ∷ []

  abbrev there : Checks
  there = missing (instance_at (context_of a s) i)

  abbrev found : Checks
  found = if_found (λ x. named_checks tree_reader (sort_named w) (export_of tree_reader n x)) (instance_at (context_of a s) i)

  abbrev room : Checks
  room = no_room (counts (context_of a s)) (sort_named w)

  abbrev behind : Checks
  behind = scope ++ (there ++ (found ++ room))

  abbrev all : Checks
  all = kind_checks s.features w ++ export_alias_checks (context_of a s) w i n

  there_same : missing at_index ≡ there
  there_same = sym (missing_mapped (id_tree (trees a.nodes) in_instances) at_index) ∙ ap missing (sym instance_here)

  found_same : (x : ComponentInstanceTypeId) → at_index ≡ Some x → (es : List (Text × ComponentItem)) → exports (tree_at a (part.Instance x)) ≡ entry_trees (trees a.nodes) es → All (EntryStands a) es → export_id_checks w (export_id es n) ≡ found
  found_same x e es q k =
      sym (named_same a w (export_id es n) (λ y f. export_stands a n es k y f)) ∙ ap (named_checks tree_reader (sort_named w)) (sym (export_same a x n es q)) ∙
      ap (if_found (λ y. named_checks tree_reader (sort_named w) (export_of tree_reader n y))) (sym (instance_is x e))

  -- room is looked at in the spaces alone
  room_in : (k : ComponentExternalKind) → no_room (room_counts s.spaces) (sort_named k) ≡ no_room (counts (context_of a s)) (sort_named k)
  room_in kind.Module = ap (λ (c : Counts). no_room c (sort_named kind.Module)) (sym (counts_same a s))
  room_in kind.Func = ap (λ (c : Counts). no_room c (sort_named kind.Func)) (sym (counts_same a s))
  room_in kind.Value = ap (λ (c : Counts). no_room c (sort_named kind.Value)) (sym (counts_same a s))
  room_in kind.Ty = ap (λ (c : Counts). no_room c (sort_named kind.Ty)) (sym (counts_same a s))
  room_in kind.Instance = ap (λ (c : Counts). no_room c (sort_named kind.Instance)) (sym (counts_same a s))
  room_in kind.Component = ap (λ (c : Counts). no_room c (sort_named kind.Component)) (sym (counts_same a s))

  pub export_free : (x : ComponentEntityType) → ExportFinds a s.spaces w i n x → IsFree (kind_checks s.features w) → IsFree scope → IsFree (no_room (room_counts s.spaces) (sort_named w)) → IsFree all
  export_free x f k u r =
      let sorted : same_sort (sort_named w) (sort (tree a x)) ≡ true = ap (same_sort (sort_named w)) (entity_sorted a x f.stands) ∙ f.sort in
      free_both feature behind k
      (free_both scope (there ++ (found ++ room)) u
      (free_both there (found ++ room) (subst IsFree (ap missing (sym (instance_is f.instance f.at))) (refl, tt))
      (free_both found room
      (subst IsFree (ap (if_found (λ y. named_checks tree_reader (sort_named w) (export_of tree_reader n y))) (sym (instance_is f.instance f.at)))
      (subst (λ (o : Option Type_tree). IsFree (named_checks tree_reader (sort_named w) o)) (sym f.export) (refl, (ap not sorted, tt))))
      (subst IsFree (room_in w) r))))

  module _ {M : Type 0} (offset : ℕ) (e : Error M) where
    pub feature_caused : MemoryOrCausedBy (kind_checks s.features w) offset e → MemoryOrCausedBy all offset e
    feature_caused t = caused_more feature all offset e (cause_left feature behind e.kind) t

    pub scope_caused : MemoryOrCausedBy scope offset e → MemoryOrCausedBy all offset e
    scope_caused t = caused_more scope all offset e (λ c. cause_right feature behind e.kind (cause_left scope (there ++ (found ++ room)) e.kind c)) t

    behind_scope : (cs : Checks) → (Cause cs e.kind → Cause (there ++ (found ++ room)) e.kind) → MemoryOrCausedBy cs offset e → MemoryOrCausedBy all offset e
    behind_scope cs f t = caused_more cs all offset e (λ c. cause_right feature behind e.kind (cause_right scope (there ++ (found ++ room)) e.kind (f c))) t

    pub index_caused : MemoryOrCausedBy (missing at_index) offset e → MemoryOrCausedBy all offset e
    index_caused t = behind_scope there (cause_left there (found ++ room) e.kind) (subst (λ cs. MemoryOrCausedBy cs offset e) there_same t)

    pub name_caused : (x : ComponentInstanceTypeId) → at_index ≡ Some x → (es : List (Text × ComponentItem)) → exports (tree_at a (part.Instance x)) ≡ entry_trees (trees a.nodes) es → All (EntryStands a) es →
        MemoryOrCausedBy (export_id_checks w (export_id es n)) offset e → MemoryOrCausedBy all offset e
    name_caused x q es l k t =
        behind_scope found (λ c. cause_right there (found ++ room) e.kind (cause_left found room e.kind c)) (subst (λ cs. MemoryOrCausedBy cs offset e) (found_same x q es l k) t)

    pub room_caused : MemoryOrCausedBy (no_room (room_counts s.spaces) (sort_named w)) offset e → MemoryOrCausedBy all offset e
    room_caused t = behind_scope room (λ c. cause_right there (found ++ room) e.kind (cause_right found room e.kind c)) (subst (λ cs. MemoryOrCausedBy cs offset e) (room_in w) t)

-- ## The item

module _ (a : Arena) (s s' : Contents) (h : StateStands a s) (live : s.spent ≡ false) (w : ComponentExternalKind) (i : ℕ) (n : Text) (x : ComponentEntityType) (f : ExportFinds a s.spaces w i n x) (is : s' ≡ with_entity x s) where
  pub export_grew : IsFree (kind_checks s.features w ++ export_alias_checks (context_of a s) w i n) → (outer : List Tree_context) (p : Place) → Grew a a outer p s s' (alias_item (alias.InstanceExport w i n))
  export_grew free outer p = record {
    names = none_given;
    given = record { resources = tt; identities = tt };
    grown = ap (option_map (λ (q : Step tree_reader). apply q (stack_of a s outer))) (export_step_is a s h w i n x f) ∙ ap Some (sym (entity_stack a s outer x f.stands)) ∙ λ j. Some (stack_of a (sym is j) outer);
    free = free;
    live = ap (λ (z : Contents). z.spent) is ∙ live;
  }
