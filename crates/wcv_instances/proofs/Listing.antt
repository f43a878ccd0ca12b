-- The entries of an instance, one after another: their names stand beside each other, and what they count is what the checks look at.
use Rattle.std.proofs.Common.{◌≡◌, ℕ, suc, max, ◌+◌, ◌≤◌, arith, List, [], ◌∷◌, ◌++◌, take, drop, refl, sym, ◌∙◌, ap, subst, true, Some, inl, inr, ⊎_elim, add-one, nat_lt}
use Rattle.std.specs.Prelude.{slice_get, All}
use Rattle.std.proofs.lemmas.List.Elements.{All-take}
use Rattle.std.proofs.lemmas.Bool.Decides.{nat_tests}
use Rattle.std.proofs.lemmas.List.{append_assoc, append-nil, map-append}
use Rattle.wcv_core.specs.Checks.{Checks, Cause, IsFree, too_many}
use Rattle.wcv_core.specs.Limits.{max_depth, max_size}
use Rattle.wcv_core.specs.Names.{Name, number}
use Rattle.wcv_core.specs.Refusal.{error_kind}
use Rattle.wcv_core.specs.declared.error.Error.{Error}
use Rattle.wcv_core.specs.declared.error.ErrorKind.{ErrorKind}
use Rattle.wcv_core.specs.declared.features.WasmFeatures.{WasmFeatures}
use Rattle.wcv_core.proofs.Causes.{cause_left, cause_right, cause_either, free_both, free_left, free_right}
use Rattle.wcv_syntax.specs.declared.name.ComponentExternName.{ComponentExternName}
use Rattle.wcv_types.proofs.Lists.{take-next}
use Rattle.wcv_decls.proofs.Positions.{split-at}
use Rattle.wcv_types.specs.Arena.{Arena}
use Rattle.wcv_types.specs.ByName.{NamesDiffer}
use Rattle.wcv_types.specs.Entities.{entity_tree, entry_tree, entry_trees, EntityStands, EntryStands}
use Rattle.wcv_types.specs.Measure.{size, sizes, depth, depths}
use Rattle.wcv_types.specs.Tree.{Text, Extern_name, entries, export, instance_type, none}
use Rattle.wcv_types.specs.Unfold.{Type_tree, trees}
use Rattle.wcv_types.specs.declared.info.TypeInfo.{TypeInfo}
use Rattle.wcv_types.specs.declared.item_map.ComponentItem.{ComponentItem}
use Rattle.wcv_types.specs.declared.shapes.ComponentEntityType.{ComponentEntityType}
use Rattle.wcv_names.specs.Externs as externs
use Rattle.wcv_names.specs.Externs.{entry_of, extern_checks, too_large_with, with_entry}
use Rattle.wcv_names.specs.FuncTrees.{names_in}
use Rattle.wcv_names.specs.KeySet.{HasKeys}
use Rattle.wcv_names.specs.ResourceNames.{Resource_names}
use Rattle.wcv_lower.specs.EntryNames.{bare_name_checks}
use Rattle.wcv_lower.specs.Entries.{extern_name}
use Rattle.wcv_lower.specs.Instances.{names_checks}
use Rattle.wcv_lower.specs.Trees.{Entries, tree_reader}
use Rattle.wcv_spaces.specs.Promises.{MemoryOrCausedBy}
use Rattle.wcv_spaces.proofs.Calls.{caused_more}
use Rattle.wcv_spaces.proofs.NamesApart.{joined_apart, may_join}
use Rattle.wcv_instances.proofs.FromItems.{Found, entries_stand}
use Rattle.wcv_instances.specs.ComponentInstances.{as_entries, list_checks, size_checks}

abbrev no_names : Resource_names
no_names = record { references = []; names = [] }

-- ## Names

module _ (fs : WasmFeatures) where
  names_push : (es xs : Entries) (e : Extern_name × Type_tree) → IsFree (names_checks tree_reader fs es xs) → IsFree (bare_name_checks fs (es ++ xs) e.0 e.1) → IsFree (names_checks tree_reader fs es (xs ++ e ∷ []))
  names_push es [] e f g = free_both (bare_name_checks fs es e.0 e.1) [] (subst (λ (ys : Entries). IsFree (bare_name_checks fs ys e.0 e.1)) (append-nil es) g) tt
  names_push es (x ∷ xs) e f g =
      free_both (bare_name_checks fs es x.0 x.1) (names_checks tree_reader fs (es ++ x ∷ []) (xs ++ e ∷ [])) (free_left (bare_name_checks fs es x.0 x.1) (names_checks tree_reader fs (es ++ x ∷ []) xs) f)
      (names_push (es ++ x ∷ []) xs e (free_right (bare_name_checks fs es x.0 x.1) (names_checks tree_reader fs (es ++ x ∷ []) xs) f) (subst (λ (ys : Entries). IsFree (bare_name_checks fs ys e.0 e.1)) (sym (append_assoc es (x ∷ []) xs)) g))

  names_cause : (es xs ys : Entries) (e : Extern_name × Type_tree) (k : ErrorKind) → Cause (bare_name_checks fs (es ++ xs) e.0 e.1) k → Cause (names_checks tree_reader fs es (xs ++ e ∷ ys)) k
  names_cause es [] ys e k c = cause_left (bare_name_checks fs es e.0 e.1) (names_checks tree_reader fs (es ++ e ∷ []) ys) k (subst (λ (zs : Entries). Cause (bare_name_checks fs zs e.0 e.1) k) (append-nil es) c)
  names_cause es (x ∷ xs) ys e k c =
      cause_right (bare_name_checks fs es x.0 x.1) (names_checks tree_reader fs (es ++ x ∷ []) (xs ++ e ∷ ys)) k
      (names_cause (es ++ x ∷ []) xs ys e k (subst (λ (zs : Entries). Cause (bare_name_checks fs zs e.0 e.1) k) (sym (append_assoc es (x ∷ []) xs)) c))

-- ## Size and depth

abbrev all_sizes : Entries → ℕ
all_sizes es = sizes (entries {R = Name} {I = Name} export es none)

abbrev all_depths : Entries → ℕ
all_depths es = depths (entries {R = Name} {I = Name} export es none)

sizes_more : (es xs : Entries) → all_sizes (es ++ xs) ≡ all_sizes es + all_sizes xs
sizes_more [] xs = omega arith
sizes_more (e ∷ es) xs = let h : all_sizes (es ++ xs) ≡ all_sizes es + all_sizes xs = sizes_more es xs in omega (arith, h)

depths_more : (es xs : Entries) → all_depths (es ++ xs) ≡ max (all_depths es) (all_depths xs)
depths_more [] xs = omega arith
depths_more (e ∷ es) xs = let h : all_depths (es ++ xs) ≡ max (all_depths es) (all_depths xs) = depths_more es xs in omega (arith, h)

more_than : (l n m : ℕ) → n ≤ m → nat_lt l n ≡ true → nat_lt l m ≡ true
more_than l n m h e = grind (arith, nat_tests)

many_more : (l n m : ℕ) (k : ErrorKind) → n ≤ m → Cause (too_many l n) k → Cause (too_many l m) k
many_more l n m k h (inl c) = inl (c.0, more_than l n m h c.1)
many_more l n m k h (inr c) = absurd c

-- ## The list

module _ (a : Arena) (fs : WasmFeatures) where
  abbrev ts : List Type_tree
  ts = trees a.nodes

  -- as far as position k
  pub record Listing (found : Found) (k : ℕ) (xs : List (Text × ComponentItem)) (ks : List Text) (info : TypeInfo) : Type 0 where
    pub items : xs ≡ as_entries (take k found)
    pub keys : HasKeys ks (names_in xs)
    pub size : info.size ≡ suc (all_sizes (entry_trees ts xs))
    pub depth : info.depth ≡ suc (all_depths (entry_trees ts xs))
    pub free : IsFree (list_checks fs (entry_trees ts xs))
    pub apart : NamesDiffer xs

  pub listed_stand : (found : Found) (k : ℕ) (items : List (Text × ComponentItem)) (keys : List Text) (info : TypeInfo) → Listing found k items keys info → All (λ (y : ComponentExternName × ComponentEntityType). EntityStands a y.1) found → All (EntryStands a) items
  listed_stand found k items keys info w h = subst (All (EntryStands a)) (sym w.items) (entries_stand a (take k found) (All-take (λ (y : ComponentExternName × ComponentEntityType). EntityStands a y.1) k found h))

  module _ (found : Found) (k : ℕ) (x : ComponentExternName × ComponentEntityType) (items : List (Text × ComponentItem)) (keys : List Text) (info : TypeInfo) (at : slice_get found k ≡ Some x) (w : Listing found k items keys info) where
    abbrev before : Entries
    before = entry_trees ts items

    abbrev this : Extern_name × Type_tree
    this = (extern_name x.0, entity_tree ts x.1)

    abbrev its_checks : Checks
    its_checks = extern_checks no_names fs before info (extern_name x.0) (entity_tree ts x.1)

    one_entry : all_sizes (this ∷ []) ≡ size this.1
    one_entry = omega arith

    new_size : info.size + size this.1 ≡ suc (all_sizes (before ++ this ∷ []))
    new_size = let a = w.size in let b = sizes_more before (this ∷ []) in let c : all_sizes (this ∷ []) ≡ size this.1 = one_entry in omega (arith, a, b, c)

    one_deep : all_depths (this ∷ []) ≡ depth this.1
    one_deep = omega arith

    new_depth : max info.depth (suc (depth this.1)) ≡ suc (all_depths (before ++ this ∷ []))
    new_depth = let a = w.depth in let b = depths_more before (this ∷ []) in let c : all_depths (this ∷ []) ≡ depth this.1 = one_deep in omega (arith, a, b, c)

    more_entries : entry_trees ts (items ++ entry_of x.0 x.1 ∷ []) ≡ before ++ this ∷ []
    more_entries = map-append (entry_tree ts) items (entry_of x.0 x.1 ∷ [])

    next_items : items ++ entry_of x.0 x.1 ∷ [] ≡ as_entries (take (k + 1) found)
    next_items =
        ap (λ (xs : List (Text × ComponentItem)). xs ++ entry_of x.0 x.1 ∷ []) w.items ∙ sym (map-append (λ (y : ComponentExternName × ComponentEntityType). entry_of y.0 y.1) (take k found) (x ∷ [])) ∙
        ap as_entries (sym (take-next found k x at)) ∙ ap (λ (n : ℕ). as_entries (take n found)) (sym (add-one k))

    both_free : IsFree its_checks → IsFree (list_checks fs (before ++ this ∷ []))
    both_free f =
        free_both (names_checks tree_reader fs [] (before ++ this ∷ [])) (size_checks (instance_type (number 0) [] (before ++ this ∷ [])))
        (names_push fs [] before this (free_left (names_checks tree_reader fs [] before) (size_checks (instance_type (number 0) [] before)) w.free) (free_left (externs.name_checks no_names fs before (extern_name x.0) (entity_tree ts x.1)) (too_large_with info (entity_tree ts x.1)) f))
        (subst (λ (d : ℕ). IsFree (too_many max_size (suc (all_sizes (before ++ this ∷ []))) ++ too_many max_depth d)) new_depth
        (subst (λ (n : ℕ). IsFree (too_many max_size n ++ too_many max_depth (max info.depth (suc (depth this.1))))) new_size (free_right (externs.name_checks no_names fs before (extern_name x.0) (entity_tree ts x.1)) (too_large_with info (entity_tree ts x.1)) f)))

    pub listing_next : (items' : List (Text × ComponentItem)) (keys' : List Text) (info' : TypeInfo) → IsFree its_checks → items' ≡ items ++ entry_of x.0 x.1 ∷ [] → HasKeys keys' (names_in items') → info' ≡ with_entry info (entity_tree ts x.1) → Listing found (k + 1) items' keys' info'
    listing_next items' keys' info' f e h i = record {
      items = e ∙ next_items;
      keys = h;
      size = ap (λ (y : TypeInfo). y.size) i ∙ new_size ∙ ap (λ (xs : Entries). suc (all_sizes xs)) (sym trees_are);
      depth = ap (λ (y : TypeInfo). y.depth) i ∙ new_depth ∙ ap (λ (xs : Entries). suc (all_depths xs)) (sym trees_are);
      free = subst (λ (xs : Entries). IsFree (list_checks fs xs)) (sym trees_are) (both_free f);
      apart = joined_apart items items' (entry_of x.0 x.1) e w.apart (may_join ts items no_names fs (extern_name x.0) (entity_tree ts x.1) (free_left (externs.name_checks no_names fs before (extern_name x.0) (entity_tree ts x.1)) (too_large_with info (entity_tree ts x.1)) f));
    }
      where
        trees_are : entry_trees ts items' ≡ before ++ this ∷ []
        trees_are = ap (entry_trees ts) e ∙ more_entries

    -- what of it is refused is refused of the whole
    whole : as_entries found ≡ items ++ (entry_of x.0 x.1 ∷ as_entries (drop (suc k) found))
    whole =
        ap as_entries (sym (split-at found k x at)) ∙ map-append (λ (y : ComponentExternName × ComponentEntityType). entry_of y.0 y.1) (take k found) (x ∷ drop (suc k) found) ∙
        ap (λ (xs : List (Text × ComponentItem)). xs ++ (entry_of x.0 x.1 ∷ as_entries (drop (suc k) found))) (sym w.items)

    abbrev rest : Entries
    rest = entry_trees ts (as_entries (drop (suc k) found))

    whole_trees : entry_trees ts (as_entries found) ≡ before ++ (this ∷ rest)
    whole_trees = ap (entry_trees ts) whole ∙ map-append (entry_tree ts) items (entry_of x.0 x.1 ∷ as_entries (drop (suc k) found))

    size_grows : info.size + size this.1 ≤ suc (all_sizes (before ++ (this ∷ rest)))
    size_grows = let a = w.size in let b = sizes_more before (this ∷ rest) in let c : all_sizes (this ∷ rest) ≡ size this.1 + all_sizes rest = refl in omega (arith, a, b, c)

    depth_grows : max info.depth (suc (depth this.1)) ≤ suc (all_depths (before ++ (this ∷ rest)))
    depth_grows = let a = w.depth in let b = depths_more before (this ∷ rest) in let c : all_depths (this ∷ rest) ≡ max (depth this.1) (all_depths rest) = refl in omega (arith, a, b, c)

    its_cause : (e : ErrorKind) → Cause its_checks e → Cause (list_checks fs (before ++ (this ∷ rest))) e
    its_cause e c =
        ⊎_elim (λ d. cause_left all_names all_large e (names_cause fs [] before rest this e d))
        (λ d. cause_right all_names all_large e
        (⊎_elim (λ g. cause_left (too_many max_size (suc (all_sizes (before ++ (this ∷ rest))))) (too_many max_depth (suc (all_depths (before ++ (this ∷ rest))))) e (many_more max_size _ _ e size_grows g))
        (λ g. cause_right (too_many max_size (suc (all_sizes (before ++ (this ∷ rest))))) (too_many max_depth (suc (all_depths (before ++ (this ∷ rest))))) e (many_more max_depth _ _ e depth_grows g))
        (cause_either (too_many max_size (info.size + size this.1)) (too_many max_depth (max info.depth (suc (depth this.1)))) e d)))
        (cause_either (externs.name_checks no_names fs before (extern_name x.0) (entity_tree ts x.1)) (too_large_with info (entity_tree ts x.1)) e c)
      where
        all_names : Checks
        all_names = names_checks tree_reader fs [] (before ++ (this ∷ rest))

        all_large : Checks
        all_large = size_checks (instance_type (number 0) [] (before ++ (this ∷ rest)))

    pub listing_caused : {M : Type 0} (offset : ℕ) (e : Error M) → MemoryOrCausedBy its_checks offset e → MemoryOrCausedBy (list_checks fs (entry_trees ts (as_entries found))) offset e
    listing_caused offset e t =
        subst (λ (xs : Entries). MemoryOrCausedBy (list_checks fs xs) offset e) (sym whole_trees) (caused_more its_checks (list_checks fs (before ++ (this ∷ rest))) offset e (its_cause (error_kind e)) t)
