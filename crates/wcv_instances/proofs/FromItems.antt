-- An instance that lists items: what is looked up by ids is what the rules say of the trees, and what is made is the node that lists them.
use Rattle.std.proofs.Common.{◌≡◌, ℕ, List, [], ◌∷◌, ◌++◌, ◌<◌, ◌≤◌, map, refl, sym, ◌∙◌, ap, subst, Bool, true, not, ◌&&◌, cond, Some, None, All, inl, inr, ⊎_elim}
use Rattle.std.specs.Prelude.{Option, is_some}
use Rattle.std.specs.List.{AllZip, IsDistinct, list_all}
use Rattle.std.specs.Option.{option_map}
use Rattle.std.proofs.lemmas.Bool.{false≢true}
use Rattle.std.proofs.lemmas.List.Elements.{All-nil, All-cons, All-head, All-tail}
use Rattle.wcv_core.specs.Checks.{Checks, Cause, IsFree, all_checks}
use Rattle.wcv_core.specs.Names.{Place, number}
use Rattle.wcv_core.specs.Refusal.{error_kind}
use Rattle.wcv_core.specs.declared.error.Error.{Error}
use Rattle.wcv_core.specs.declared.error.ErrorKind.{ErrorKind}
use Rattle.wcv_core.specs.declared.error.ErrorKind.TheVariants as kind
use Rattle.wcv_core.specs.declared.features.WasmFeatures.{WasmFeatures}
use Rattle.wcv_core.proofs.Causes.{cause_left, cause_right, cause_either, free_both, free_left, free_right}
use Rattle.wcv_syntax.specs.Model.{bag}
use Rattle.wcv_syntax.specs.declared.component_type.ComponentTypeRef.{ComponentTypeRef}
use Rattle.wcv_syntax.specs.declared.name.ComponentExport.{ComponentExport}
use Rattle.wcv_syntax.specs.declared.name.ComponentExternName.{ComponentExternName}
use Rattle.wcv_types.specs.Arena.{Arena}
use Rattle.wcv_types.specs.ComponentTrees.{resource_path}
use Rattle.wcv_types.specs.Entities.{entity_tree, entry_trees, EntityStands, EntryStands}
use Rattle.wcv_types.specs.Sets.{same_resource}
use Rattle.wcv_types.specs.Tree.{firsts, instance_type, is_instance, owned}
use Rattle.wcv_types.specs.Unfold.{Type_tree, trees}
use Rattle.wcv_types.specs.declared.ids.ComponentInstanceTypeId.{ComponentInstanceTypeId}
use Rattle.wcv_types.specs.declared.ids.ResourceId.{ResourceId}
use Rattle.wcv_types.specs.declared.shapes.ComponentEntityType.{ComponentEntityType}
use Rattle.wcv_matching.specs.ModuleItems.{before}
use Rattle.wcv_names.specs.Externs.{entry_of}
use Rattle.wcv_lower.specs.Checks.{if_found, is_none, no_room}
use Rattle.wcv_lower.specs.Context.{counts}
use Rattle.wcv_lower.specs.Entries.{extern_name, written_checks}
use Rattle.wcv_lower.specs.Given.{names_of, none_given}
use Rattle.wcv_lower.specs.Instances as rules
use Rattle.wcv_lower.specs.Instances.{all_listed, bag_made, borrow_checks, instance_of_items, listed, listed_at, listed_checks, names_checks, shape_checks}
use Rattle.wcv_lower.specs.Readers.{Brought, New_node, instance_node}
use Rattle.wcv_lower.specs.Trees.{Entries, tree_maker, tree_reader}
use Rattle.wcv_lower.specs.Values.{kind_checks}
use Rattle.wcv_lower.proofs.ComponentInstanceLaws.{bag_there}
use Rattle.wcv_lower.proofs.NewNames.{trees_tell}
use Rattle.wcv_spaces.specs.Contents.{Contents, context_of, StateStands}
use Rattle.wcv_instantiate.specs.Instantiations.{brought_of}
use Rattle.wcv_spaces.specs.Looking.{item_id, item_id_checks}
use Rattle.wcv_instantiate.specs.Opening.{InstancePushed, Paths}
use Rattle.wcv_spaces.specs.Promises.{MemoryOrCausedBy}
use Rattle.wcv_instantiate.specs.declared.instances.NewInstance.{NewInstance}
use Rattle.wcv_spaces.proofs.Calls.{caused_more}
use Rattle.wcv_spaces.proofs.Given.{node_given, node_name, node_names}
use Rattle.wcv_state.proofs.ItemsAt.{item_stands, item_there, items_missing, items_same}
use Rattle.wcv_state.proofs.Stacks.{none_made}
use Rattle.wcv_instances.specs.ComponentInstances.{as_entries, item_checks, lending_checks, list_checks, size_checks, CausedInstance, IsListed, MadeInstance}

abbrev pub Found : Type 0
Found = List (ComponentExternName × ComponentEntityType)

no_key : IsDistinct same_resource []
unfolding IsDistinct
no_key = tt

pub entries_stand : (a : Arena) (ys : Found) → All (λ (y : ComponentExternName × ComponentEntityType). EntityStands a y.1) ys → All (EntryStands a) (as_entries ys)
entries_stand a [] f = All-nil (EntryStands a)
entries_stand a (y ∷ ys) f =
    All-cons (EntryStands a) (entry_of y.0 y.1) (as_entries ys) (All-head (λ (z : ComponentExternName × ComponentEntityType). EntityStands a z.1) y ys f) (entries_stand a ys (All-tail (λ (z : ComponentExternName × ComponentEntityType). EntityStands a z.1) y ys f))

module _ (a : Arena) (s : Contents) (h : StateStands a s) where
  abbrev ts : List Type_tree
  ts = trees a.nodes

  -- ## What is listed

  item_is : (x : ComponentExport) (y : ComponentExternName × ComponentEntityType) → IsListed s.spaces x y → listed_at (context_of a s) x ≡ Some (entity_tree ts y.1)
  item_is x y w = item_there a s h x.kind x.index y.1 w.1

  all_there : (xs : List ComponentExport) (ys : Found) → AllZip (IsListed s.spaces) xs ys → list_all (λ (x : ComponentExport). not (is_none (listed_at (context_of a s) x))) xs ≡ true
  all_there [] [] w = refl
  all_there [] (y ∷ ys) w = elim w [ ]
  all_there (x ∷ xs) [] w = elim w [ ]
  all_there (x ∷ xs) (y ∷ ys) w =
      ap (λ (o : Option Type_tree). not (is_none o) && list_all (λ (x : ComponentExport). not (is_none (listed_at (context_of a s) x))) xs) (item_is x y w.0) ∙ all_there xs ys w.1

  listed_are : (xs : List ComponentExport) (ys : Found) → AllZip (IsListed s.spaces) xs ys → listed (context_of a s) xs ≡ entry_trees ts (as_entries ys)
  listed_are [] [] w = refl
  listed_are [] (y ∷ ys) w = elim w [ ]
  listed_are (x ∷ xs) [] w = elim w [ ]
  listed_are (x ∷ xs) (y ∷ ys) w =
      let k : x.name ≡ y.0 = sym w.0.0 in
      ap (λ (o : Option Type_tree). before (extern_name x.name) o (listed (context_of a s) xs)) (item_is x y w.0) ∙ λ j. (extern_name (k j), entity_tree ts y.1) ∷ listed_are xs ys w.1 j

  pub items_stand : (xs : List ComponentExport) (ys : Found) → AllZip (IsListed s.spaces) xs ys → All (λ (y : ComponentExternName × ComponentEntityType). EntityStands a y.1) ys
  items_stand [] [] w = All-nil _
  items_stand [] (y ∷ ys) w = elim w [ ]
  items_stand (x ∷ xs) [] w = elim w [ ]
  items_stand (x ∷ xs) (y ∷ ys) w = All-cons (λ (z : ComponentExternName × ComponentEntityType). EntityStands a z.1) y ys (item_stands a s h x.kind x.index y.1 w.0.1) (items_stand xs ys w.1)

  -- ## Its causes

  abbrev fs : WasmFeatures
  fs = s.features

  lending_found : (o : Option ComponentEntityType) → if_found (borrow_checks tree_reader) (option_map (entity_tree ts) o) ≡ if_found (lending_checks a) o
  lending_found None = refl
  lending_found (Some x) = refl

  module _ (x : ComponentExport) where
    abbrev sorted : Checks
    sorted = kind_checks fs x.kind

    abbrev there : Checks
    there = item_id_checks s.spaces x.kind x.index

    abbrev lending : Checks
    lending = if_found (lending_checks a) (item_id s.spaces x.kind x.index)

    abbrev shape : Option ComponentTypeRef → Checks
    shape o = shape_checks fs (context_of a s) o

    -- with what is looked up by ids
    listed_same : listed_checks fs (context_of a s) x ≡ sorted ++ (there ++ (shape x.ty ++ lending))
    listed_same = λ j. sorted ++ (items_missing a s h x.kind x.index j ++ (shape x.ty ++ (ap (if_found (borrow_checks tree_reader)) (items_same a s h x.kind x.index) ∙ lending_found (item_id s.spaces x.kind x.index)) j))

    one_free : IsFree (item_checks a fs s.spaces x) → IsFree (listed_checks fs (context_of a s) x)
    one_free f = subst IsFree (sym listed_same) (go x.ty f)
      where
        go : (o : Option ComponentTypeRef) → IsFree (sorted ++ (there ++ ((kind.Shape, is_some o) ∷ lending))) → IsFree (sorted ++ (there ++ (shape o ++ lending)))
        go None f = f
        go (Some r) f =
            let left : Checks = (kind.Shape, true) ∷ lending in
            absurd (false≢true (sym (free_right there left (free_right sorted (there ++ left) f)).0))

    one_cause : (k : ErrorKind) → Cause (item_checks a fs s.spaces x) k → Cause (listed_checks fs (context_of a s) x) k
    one_cause k c = subst (λ (cs : Checks). Cause cs k) (sym listed_same) (go x.ty c)
      where
        go : (o : Option ComponentTypeRef) → Cause (sorted ++ (there ++ ((kind.Shape, is_some o) ∷ lending))) k → Cause (sorted ++ (there ++ (shape o ++ lending))) k
        go None c = c
        go (Some r) c =
            let old : Checks = (kind.Shape, true) ∷ lending in
            let new : Checks = shape (Some r) ++ lending in
            ⊎_elim (λ d. cause_left sorted (there ++ new) k d)
            (λ d. cause_right sorted (there ++ new) k (⊎_elim (λ e. cause_left there new k e) (λ e. cause_right there new k (beside e)) (cause_either there old k d)))
            (cause_either sorted (there ++ old) k c)
          where
            beside : Cause ((kind.Shape, true) ∷ lending) k → Cause (shape (Some r) ++ lending) k
            beside (inl d) = inl d
            beside (inr d) = inr (cause_right (written_checks fs (context_of a s) r) lending k d)

  listed_free : (xs : List ComponentExport) → IsFree (all_checks (item_checks a fs s.spaces) xs) → IsFree (all_checks (listed_checks fs (context_of a s)) xs)
  listed_free [] f = tt
  listed_free (x ∷ xs) f =
      free_both (listed_checks fs (context_of a s) x) (all_checks (listed_checks fs (context_of a s)) xs)
      (one_free x (free_left (item_checks a fs s.spaces x) (all_checks (item_checks a fs s.spaces) xs) f)) (listed_free xs (free_right (item_checks a fs s.spaces x) (all_checks (item_checks a fs s.spaces) xs) f))

  listed_cause : (xs : List ComponentExport) (k : ErrorKind) → Cause (all_checks (item_checks a fs s.spaces) xs) k → Cause (all_checks (listed_checks fs (context_of a s)) xs) k
  listed_cause [] k c = c
  listed_cause (x ∷ xs) k c =
      ⊎_elim (λ d. cause_left (listed_checks fs (context_of a s) x) (all_checks (listed_checks fs (context_of a s)) xs) k (one_cause x k d))
      (λ d. cause_right (listed_checks fs (context_of a s) x) (all_checks (listed_checks fs (context_of a s)) xs) k (listed_cause xs k d))
      (cause_either (item_checks a fs s.spaces x) (all_checks (item_checks a fs s.spaces) xs) k c)

  module _ (es : List ComponentExport) where
    abbrev items : Checks
    items = all_checks (listed_checks fs (context_of a s)) es

    abbrev names : Checks
    names = names_checks tree_reader s.features [] (listed (context_of a s) es)

    abbrev sizes : Option (Brought tree_reader) → Checks
    sizes o = if_found rules.size_checks o

    abbrev room : Checks
    room = no_room (counts (context_of a s)) is_instance

    abbrev all : Option (Brought tree_reader) → Checks
    all o = items ++ (names ++ (sizes o ++ room))

    module _ (found : Found) (w : AllZip (IsListed s.spaces) es found) where
      abbrev entries : Entries
      entries = entry_trees ts (as_entries found)

      all_are : all_listed (context_of a s) es ≡ Some (instance_node [] entries)
      all_are = ap (λ (z : Bool). cond z (Some (instance_node [] (listed (context_of a s) es))) None) (all_there es found w) ∙ λ j. Some (instance_node [] (listed_are es found w j))

      module _ (b : Arena) (j : ComponentInstanceTypeId) (rs : Paths) (n : InstancePushed a b (as_entries found) j) (none : rs ≡ []) where
        abbrev m : NewInstance
        m = record { ty = j; resources = rs }

        -- what is made of the node of the items
        made_of : (o : Option (New_node tree_reader)) → o ≡ Some (instance_node [] entries) → (q : Place) → option_map (instance_of_items (tree_maker (names_of (node_names a q)) q)) o ≡ Some (brought_of b m)
        made_of o e q =
            ap (option_map (instance_of_items (tree_maker (names_of (node_names a q)) q))) e ∙
            λ z. Some (record { entity = ((λ y. instance_type (node_name a q y) [] entries) ∙ sym n.tree) z; resources = ap (λ (es : Paths). map resource_path es) (sym none) z })

        names_free : IsFree (list_checks s.features entries) → IsFree names
        names_free l = subst (λ (xs : Entries). IsFree (names_checks tree_reader s.features [] xs)) (sym (listed_are es found w)) (free_left (names_checks tree_reader s.features [] entries) (size_checks (instance_type (number 0) [] entries)) l)

        pub listed_instance : IsFree (all_checks (item_checks a fs s.spaces) es) → IsFree room → IsFree (list_checks s.features entries) → MadeInstance a b s (bag es) m
        listed_instance f r l = record {
          given_names = node_names a;
          given = λ q. node_given a b q n.nodes;
          made = λ outer q. made_of (bag_made (context_of a s) es) (bag_there tree_reader trees_tell fs (context_of a s) es (listed_free es f) (names_free l) ∙ λ j. Some (instance_node [] (listed_are es found w j))) q;
          free = λ outer q.
              subst (λ (o : Option (Brought tree_reader)). IsFree (all o)) (sym (made_of (all_listed (context_of a s) es) all_are q))
              (free_both items (names ++ (sizes (Some (brought_of b m)) ++ room)) (listed_free es f)
              (free_both names (sizes (Some (brought_of b m)) ++ room)
              (names_free l)
              (free_both (sizes (Some (brought_of b m))) room
              (subst (λ (t : Type_tree). IsFree (size_checks t)) (sym n.tree) (free_right (names_checks tree_reader s.features [] entries) (size_checks (instance_type (number 0) [] entries)) l)) r)));
          stands = n.stands;
          alone = ap owned n.tree;
          fresh = subst (λ (es : Paths). All (λ (r : ResourceId × List ℕ). a.resources ≤ r.0.index) es) (sym none) (All-nil _);
          below = subst (λ (es : Paths). All (λ (r : ResourceId × List ℕ). r.0.index < b.resources) es) (sym none) (All-nil _);
          distinct = subst (λ (es : Paths). IsDistinct same_resource (firsts es)) (sym none) no_key;
          core = n.core;
        }

    -- ## Refused

    module _ {M : Type 0} (b : Arena) (offset : ℕ) (x : Error M) where
      abbrev made_none : Place → Option (Brought tree_reader)
      made_none q = option_map (instance_of_items (tree_maker (names_of none_given) q)) (all_listed (context_of a s) es)

      refused : (cs : Checks) → ((o : Option (Brought tree_reader)) → Cause cs (error_kind x) → Cause (all o) (error_kind x)) → MemoryOrCausedBy cs offset x → CausedInstance a b s (bag es) offset x
      refused cs f t = record { given_names = λ q. none_given; given = λ q. none_made a b q; caused = λ outer q. caused_more cs (all (made_none q)) offset x (f (made_none q)) t }

      pub item_refused : MemoryOrCausedBy (all_checks (item_checks a fs s.spaces) es) offset x → CausedInstance a b s (bag es) offset x
      item_refused t = refused (all_checks (item_checks a fs s.spaces) es) (λ o c. cause_left items (names ++ (sizes o ++ room)) (error_kind x) (listed_cause es (error_kind x) c)) t

      pub room_refused : MemoryOrCausedBy room offset x → CausedInstance a b s (bag es) offset x
      room_refused t =
          refused room (λ o c. cause_right items (names ++ (sizes o ++ room)) (error_kind x) (cause_right names (sizes o ++ room) (error_kind x) (cause_right (sizes o) room (error_kind x) c))) t

      -- of the list
      pub list_refused : (found : Found) → AllZip (IsListed s.spaces) es found → MemoryOrCausedBy (list_checks s.features (entry_trees ts (as_entries found))) offset x → CausedInstance a b s (bag es) offset x
      list_refused found w t = record {
        given_names = λ q. none_given;
        given = λ q. none_made a b q;
        caused = λ outer q.
            let o : Option (Brought tree_reader) = made_none q in
            let is : o ≡ Some (record { entity = instance_type _ [] (entry_trees ts (as_entries found)); resources = [] }) = ap (option_map (instance_of_items (tree_maker (names_of none_given) q))) (all_are found w) in
            caused_more (list_checks s.features (entry_trees ts (as_entries found))) (all o) offset x
            (λ c. ⊎_elim
            (λ d. cause_right items (names ++ (sizes o ++ room)) (error_kind x)
            (cause_left names (sizes o ++ room) (error_kind x) (subst (λ (xs : Entries). Cause (names_checks tree_reader s.features [] xs) (error_kind x)) (sym (listed_are es found w)) d)))
            (λ d. cause_right items (names ++ (sizes o ++ room)) (error_kind x)
            (cause_right names (sizes o ++ room) (error_kind x) (cause_left (sizes o) room (error_kind x) (subst (λ (y : Option (Brought tree_reader)). Cause (sizes y) (error_kind x)) (sym is) d))))
            (cause_either (names_checks tree_reader s.features [] (entry_trees ts (as_entries found))) (size_checks (instance_type (number 0) [] (entry_trees ts (as_entries found)))) (error_kind x) c)) t;
      }
