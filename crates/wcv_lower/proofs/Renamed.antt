-- A renaming is a map of trees that commutes with all that is read.
use Rattle.std.proofs.Common.{◌≡◌, ℕ, List, [], ◌∷◌, ◌++◌, map, refl, sym, ◌∙◌, ap, Bool, true, not, ◌&&◌, ◌||◌, cond, Some, None}
use Rattle.std.specs.Prelude.{Option, option_to_list}
use Rattle.std.specs.Option.{option_map}
use Rattle.std.proofs.lemmas.List.{map-append}
use Rattle.wcv_core.specs.Names.{Name, member}
use Rattle.wcv_types.specs.Identity.{Identity, of_node, of_reference, identity_at, same_identity, rename_identity}
use Rattle.wcv_types.specs.Named.{passes}
use Rattle.wcv_types.specs.Positions.{is_there}
use Rattle.wcv_types.specs.Rename.{rename, rename_parts, rename_head, rename_paths, no_identity, EachName}
use Rattle.wcv_types.specs.Resources.{owned_by}
use Rattle.wcv_types.specs.Tree as tree
use Rattle.wcv_types.specs.Tree.{Text, Extern_name, Head, nothing, primitive, resource, defined, func, instance, component, type_entity, core_module, core_instance, core_type, core_item, Role, here, label, import, export, core_import, core_export, Sort, is_nothing, is_value, is_resource, is_func, is_instance, is_component, is_type, is_module, is_core_instance, is_core_type, is_core_item, node, Parts, none, part, sort, head, exports_in, firsts, type_of, resource_type, entries, core_imports, core_exports}
use Rattle.wcv_types.proofs.Identity.{same_under, same_kept, identity-same}
use Rattle.wcv_types.proofs.Measure.{size-rename, depth-rename}
use Rattle.wcv_types.proofs.Named.{is_in-same, is_named-same, passes-same}
use Rattle.wcv_types.proofs.Renaming.{each-always, rename-twice}
use Rattle.wcv_types.specs.FirstPath.{first_path}
use Rattle.wcv_types.specs.Resources.{is_free}
use Rattle.wcv_types.specs.Unfold.{Type_tree}
use Rattle.wcv_types.proofs.AbiRenamed.{abi_size-rename, contains-rename}
use Rattle.wcv_types.proofs.FirstPath.{path_from-renamed}
use Rattle.wcv_types.proofs.IsFree.{is_free-renamed}
use Rattle.wcv_matching.proofs.PassRenamed.{matches-renamed, opens-renamed}
use Rattle.wcv_lower.specs.Checks.{same_sort}
use Rattle.wcv_lower.specs.Context.{Side, importing, exporting, joined, names_for, with_named}
use Rattle.wcv_lower.specs.Mapped.{Commutes, map_entries, map_paths}
use Rattle.wcv_lower.specs.Renamed.{Renaming, renaming}
use Rattle.wcv_lower.specs.Trees.{Entries, created, referenced, introduced_by, own_resources, creates, all_created, named_after, is_known, is_export_alone, entry_passes, exports_pass, labelled, params, if_given, unlabelled, result, refers_outside, has_free, any_free, core_entry, head_entry, primitive_of, type_entry}
use Rattle.wcv_lower.proofs.CoreItemsRenamed.{item-renamed, core_imports-renamed, core_exports-renamed}
use Rattle.wcv_lower.proofs.EntryNameLaws.{name_checks-renamed, bare_name_checks-renamed}
use Rattle.wcv_lower.proofs.Joined.{map-joined}
use Rattle.wcv_lower.proofs.TreeLaws.{sort-renamed, created-renamed, referenced-renamed, kept, all_kept}

module _ (w : Renaming) where
  abbrev f : Name → Name
  f = w.resources.to

  abbrev g : Name → Name
  g = w.identities.to

  abbrev to : Type_tree → Type_tree
  to t = rename f g t

  abbrev known : Identity → Identity
  known i = rename_identity f g i

  -- ## Of a type entity

  created_type : (t : Type_tree) → created (to t) ≡ to (created t)
  created_type (node type_entity ps) = ap type_entry (created-renamed f g (node type_entity ps))
  created_type (node nothing ps) = refl
  created_type (node (primitive p) ps) = refl
  created_type (node (resource r s) ps) = refl
  created_type (node (defined i k) ps) = refl
  created_type (node (func i b) ps) = refl
  created_type (node (instance i own) ps) = refl
  created_type (node (component i ins outs) ps) = refl
  created_type (node (core_module i n) ps) = refl
  created_type (node (core_instance i n) ps) = refl
  created_type (node (core_type i) ps) = refl
  created_type (node (core_item e) ps) = refl

  referenced_type : (t : Type_tree) → referenced (to t) ≡ to (referenced t)
  referenced_type (node type_entity ps) = referenced-renamed f g (node type_entity ps)
  referenced_type _ = refl

  exports-renamed : (ps : Parts Name Name) → exports_in (rename_parts f g ps) ≡ map_entries to (exports_in ps)
  exports-renamed none = refl
  exports-renamed (part (export n) t ps) = ap (λ (es : List (Extern_name × Type_tree)). (n, to t) ∷ es) (exports-renamed ps)
  exports-renamed (part here t ps) = exports-renamed ps
  exports-renamed (part (label l) t ps) = exports-renamed ps
  exports-renamed (part (import n) t ps) = exports-renamed ps
  exports-renamed (part (core_import m n) t ps) = exports-renamed ps
  exports-renamed (part (core_export n) t ps) = exports-renamed ps

  pub tree_exports-renamed : (t : Type_tree) → tree.exports (to t) ≡ map_entries to (tree.exports t)
  tree_exports-renamed (node h ps) = exports-renamed ps

  pub same-renamed : (i j : Identity) → same_identity (known i) (known j) ≡ same_identity i j
  same-renamed i j = same_kept f w.resources.back g w.identities.back i j (kept w i) (kept w j)

  pub head-renamed : (t : Type_tree) → identity_at (head (to t)) ≡ option_map known (identity_at (head t))
  head-renamed (node h ps) = identity-same f g h

  introduced-renamed : (a b : Option Identity) → introduced_by (option_map known a) (option_map known b) ≡ map_paths f (introduced_by a b)
  introduced-renamed None b = refl
  introduced-renamed (Some (of_node i)) b = refl
  introduced-renamed (Some (of_reference r s)) None = refl
  introduced-renamed (Some (of_reference r s)) (Some i) =
      ap (λ (b : Bool). cond b ((f r, []) ∷ []) []) (same-renamed (of_reference r s) i) ∙ go (same_identity (of_reference r s) i)
    where
      go : (b : Bool) → cond {A = List (Name × List ℕ)} b ((f r, []) ∷ []) [] ≡ map_paths f (cond b ((r, []) ∷ []) [])
      go true = refl
      go _ = refl

  own-renamed : (t : Type_tree) → own_resources (sort (to t)) (to t) ≡ map_paths f (own_resources (sort t) t)
  own-renamed (node type_entity ps) =
      let t : Type_tree = node type_entity ps in
      let a : identity_at (head (tree.created (to t))) ≡ option_map known (identity_at (head (tree.created t))) = ap (λ (u : Type_tree). identity_at (head u)) (created-renamed f g t) ∙ head-renamed (tree.created t) in
      let b : identity_at (head (tree.referenced (to t))) ≡ option_map known (identity_at (head (tree.referenced t))) = ap (λ (u : Type_tree). identity_at (head u)) (referenced-renamed f g t) ∙ head-renamed (tree.referenced t) in
      (λ j. introduced_by (a j) (b j)) ∙ introduced-renamed (identity_at (head (tree.created t))) (identity_at (head (tree.referenced t)))
  own-renamed _ = refl

  -- ## What is named

  listed-renamed : (o : Option Identity) → option_to_list (option_map known o) ≡ map known (option_to_list o)
  listed-renamed None = refl
  listed-renamed (Some i) = refl

  mutual
    creates-renamed : (t : Type_tree) → creates (to t) ≡ map known (creates t)
    creates-renamed (node type_entity ps) =
        ap (λ (u : Type_tree). option_to_list (identity_at (head u))) (created-renamed f g (node type_entity ps)) ∙ ap (λ (o : Option Identity). option_to_list o) (head-renamed (tree.created (node type_entity ps))) ∙
        listed-renamed (identity_at (head (tree.created (node type_entity ps))))
    creates-renamed (node (instance i own) ps) = all_created-renamed ps
    creates-renamed _ = refl

    all_created-renamed : (ps : Parts Name Name) → all_created (rename_parts f g ps) ≡ map known (all_created ps)
    all_created-renamed none = refl
    all_created-renamed (part k t ps) = (λ j. creates-renamed t j ++ all_created-renamed ps j) ∙ sym (map-append known (creates t) (all_created ps))

  in-renamed : (ids : List Identity) (i : Identity) → is_there same_identity (known i) (map known ids) ≡ is_there same_identity i ids
  in-renamed ids i = is_in-same f w.resources.back g w.identities.back ids i (all_kept w ids) (kept w i)

  added-renamed : (b : Bool) (xs is : List Identity) → with_named same_identity b (map known xs) (map known is) ≡ map known (with_named same_identity b xs is)
  added-renamed b xs [] = refl
  added-renamed b xs (i ∷ is) =
      ap (λ (ys : List Identity). with_named same_identity b ys (map known is))
      (ap (λ (c : Bool). joined (b && not c) (map known xs) (known i)) (in-renamed xs i) ∙ sym (map-joined known (b && not (is_there same_identity i xs)) xs i)) ∙
      added-renamed b (joined (b && not (is_there same_identity i xs)) xs i) is

  abbrev sets : (Side → List Identity) → Side → List Identity
  sets named = λ d. map known (named d)

  after-renamed : (named : Side → List Identity) (s : Side) (t : Type_tree) → named_after (sets named) s (to t) ≡ sets (named_after named s t)
  after-renamed named s t = λ j d. (ap (with_named same_identity (names_for s d) (map known (named d))) (creates-renamed t) ∙ added-renamed (names_for s d) (named d) (creates t)) j

  way_back : (t : Type_tree) → EachName (λ r. w.resources.back (f r) ≡ r) (λ i. w.identities.back (g i) ≡ i) t
  way_back t = each-always (λ (r : Name). w.resources.back (w.resources.to r) ≡ r) (λ (i : Name). w.identities.back (w.identities.to i) ≡ i) w.resources.is_back w.identities.is_back t

  passes-renamed : (ids : List Identity) (t : Type_tree) → passes (map known ids) (to t) ≡ passes ids t
  passes-renamed ids t = passes-same f w.resources.back g w.identities.back ids t (all_kept w ids) (way_back t)

  known-renamed : (ids : List Identity) (o : Option Identity) → is_known (map known ids) (option_map known o) ≡ is_known ids o
  known-renamed ids None = refl
  known-renamed ids (Some i) = in-renamed ids i

  alone-renamed : (named : Side → List Identity) (s : Side) (t : Type_tree) → is_export_alone (sets named) s (to t) ≡ is_export_alone named s t
  alone-renamed named importing (node type_entity ps) =
      let t : Type_tree = tree.referenced (node type_entity ps) in
      let e : identity_at (head (tree.referenced (to (node type_entity ps)))) ≡ option_map known (identity_at (head t)) = ap (λ (u : Type_tree). identity_at (head u)) (referenced-renamed f g (node type_entity ps)) ∙ head-renamed t in
      (λ j. is_known (map known (named exporting)) (e j) && not (is_known (map known (named importing)) (e j))) ∙
      (λ j. known-renamed (named exporting) (identity_at (head t)) j && not (known-renamed (named importing) (identity_at (head t)) j))
  alone-renamed named importing _ = refl
  alone-renamed named exporting t = refl

  mutual
    entry-renamed : (named : Side → List Identity) (s : Side) (t : Type_tree) → entry_passes (sets named) s (to t) ≡ entry_passes named s t
    entry-renamed named s (node type_entity ps) =
        let t : Type_tree = tree.referenced (node type_entity ps) in
        let e : passes (map known (named s)) (tree.referenced (to (node type_entity ps))) ≡ passes (named s) t = ap (passes (map known (named s))) (referenced-renamed f g (node type_entity ps)) ∙ passes-renamed (named s) t in
        λ j. e j && not (alone-renamed named s (node type_entity ps) j)
    entry-renamed named s (node (instance i own) ps) = exports_pass-renamed named s ps
    entry-renamed named s (node (defined i k) ps) = is_named-same f w.resources.back g w.identities.back (named s) (node (defined i k) ps) (all_kept w (named s)) (way_back (node (defined i k) ps))
    entry-renamed named s (node nothing ps) = passes-renamed (named s) (node nothing ps)
    entry-renamed named s (node (primitive p) ps) = passes-renamed (named s) (node (primitive p) ps)
    entry-renamed named s (node (resource r x) ps) = passes-renamed (named s) (node (resource r x) ps)
    entry-renamed named s (node (func i b) ps) = passes-renamed (named s) (node (func i b) ps)
    entry-renamed named s (node (component i ins outs) ps) = passes-renamed (named s) (node (component i ins outs) ps)
    entry-renamed named s (node (core_module i n) ps) = passes-renamed (named s) (node (core_module i n) ps)
    entry-renamed named s (node (core_instance i n) ps) = passes-renamed (named s) (node (core_instance i n) ps)
    entry-renamed named s (node (core_type i) ps) = passes-renamed (named s) (node (core_type i) ps)
    entry-renamed named s (node (core_item x) ps) = passes-renamed (named s) (node (core_item x) ps)

    exports_pass-renamed : (named : Side → List Identity) (s : Side) (ps : Parts Name Name) → exports_pass (sets named) s (rename_parts f g ps) ≡ exports_pass named s ps
    exports_pass-renamed named s none = refl
    exports_pass-renamed named s (part k t ps) =
        let a : entry_passes (sets named) s (to t) ≡ entry_passes named s t = entry-renamed named s t in
        let b : exports_pass (named_after (sets named) s (to t)) s (rename_parts f g ps) ≡ exports_pass (named_after named s t) s ps =
        ap (λ (n : Side → List Identity). exports_pass n s (rename_parts f g ps)) (after-renamed named s t) ∙ exports_pass-renamed (named_after named s t) s ps in
        λ j. a j && b j

  -- ## Functions

  labelled-renamed : (ps : Parts Name Name) → labelled (rename_parts f g ps) ≡ map to (labelled ps)
  labelled-renamed none = refl
  labelled-renamed (part (label l) t ps) = ap (λ (ts : List Type_tree). to t ∷ ts) (labelled-renamed ps)
  labelled-renamed (part here t ps) = labelled-renamed ps
  labelled-renamed (part (import n) t ps) = labelled-renamed ps
  labelled-renamed (part (export n) t ps) = labelled-renamed ps
  labelled-renamed (part (core_import m n) t ps) = labelled-renamed ps
  labelled-renamed (part (core_export n) t ps) = labelled-renamed ps

  params-renamed : (t : Type_tree) → params (to t) ≡ map to (params t)
  params-renamed (node (func i b) ps) = labelled-renamed ps
  params-renamed _ = refl

  given-renamed : (t : Type_tree) → if_given (to t) ≡ option_map to (if_given t)
  given-renamed t = ap (λ (s : Sort). cond (same_sort is_nothing s) None (Some (to t))) (sort-renamed f g t) ∙ go (same_sort is_nothing (sort t))
    where
      go : (b : Bool) → cond b None (Some (to t)) ≡ option_map to (cond b None (Some t))
      go true = refl
      go _ = refl

  unlabelled-renamed : (ps : Parts Name Name) → unlabelled (rename_parts f g ps) ≡ option_map to (unlabelled ps)
  unlabelled-renamed none = refl
  unlabelled-renamed (part here t ps) = given-renamed t
  unlabelled-renamed (part (label l) t ps) = unlabelled-renamed ps
  unlabelled-renamed (part (import n) t ps) = unlabelled-renamed ps
  unlabelled-renamed (part (export n) t ps) = unlabelled-renamed ps
  unlabelled-renamed (part (core_import m n) t ps) = unlabelled-renamed ps
  unlabelled-renamed (part (core_export n) t ps) = unlabelled-renamed ps

  result-renamed : (t : Type_tree) → result (to t) ≡ option_map to (result t)
  result-renamed (node (func i b) ps) = unlabelled-renamed ps
  result-renamed _ = refl

  -- ## Free resources

  pub member-renamed : (r : Name) (rs : List Name) → member (f r) (map f rs) ≡ member r rs
  member-renamed r [] = refl
  member-renamed r (q ∷ rs) = λ j. same_under f w.resources.back r q (w.resources.is_back r) (w.resources.is_back q) j || member-renamed r rs j

  firsts-renamed : (ps : List (Name × List ℕ)) → firsts (rename_paths f ps) ≡ map f (firsts ps)
  firsts-renamed [] = refl
  firsts-renamed (p ∷ ps) = ap (λ (rs : List Name). f p.0 ∷ rs) (firsts-renamed ps)

  owned-renamed : (h : Head Name Name) → owned_by (rename_head f g h) ≡ map f (owned_by h)
  owned-renamed (component i ins outs) = (λ j. firsts-renamed ins j ++ firsts-renamed outs j) ∙ sym (map-append f (firsts ins) (firsts outs))
  owned-renamed _ = refl

  outside-renamed : (own : List Name) (h : Head Name Name) → refers_outside (map f own) (rename_head f g h) ≡ refers_outside own h
  outside-renamed own (resource r s) = ap not (member-renamed r own)
  outside-renamed own _ = refl

  mutual
    free-renamed : (own : List Name) (t : Type_tree) → has_free (map f own) (to t) ≡ has_free own t
    free-renamed own (node h ps) =
        let e : owned_by (rename_head f g h) ++ map f own ≡ map f (owned_by h ++ own) = ap (λ (rs : List Name). rs ++ map f own) (owned-renamed h) ∙ sym (map-append f (owned_by h) own) in
        let b : any_free (owned_by (rename_head f g h) ++ map f own) (rename_parts f g ps) ≡ any_free (owned_by h ++ own) ps = ap (λ (rs : List Name). any_free rs (rename_parts f g ps)) e ∙ any_free-renamed (owned_by h ++ own) ps in
        λ j. outside-renamed own h j || b j

    any_free-renamed : (own : List Name) (ps : Parts Name Name) → any_free (map f own) (rename_parts f g ps) ≡ any_free own ps
    any_free-renamed own none = refl
    any_free-renamed own (part k t ps) = λ j. free-renamed own t j || any_free-renamed own ps j

  -- ## Value types and core types

  primitive_of-renamed : (t : Type_tree) → primitive_of (to t) ≡ primitive_of t
  primitive_of-renamed (node (primitive p) ps) = refl
  primitive_of-renamed (node (defined i (tree.named p)) ps) = refl
  primitive_of-renamed (node h ps) = refl

  head_entry-renamed : (h : Head Name Name) → head_entry (rename_head f g h) ≡ head_entry h
  head_entry-renamed nothing = refl
  head_entry-renamed h = refl

  core_entry-renamed : (t : Type_tree) → core_entry (to t) ≡ core_entry t
  core_entry-renamed (node h ps) = head_entry-renamed h

  -- ## At an end

  resources_back : (t : Type_tree) → EachName (λ r. w.resources.back (f r) ≡ r) (λ i. Unit {0}) t
  resources_back t = each-always (λ (r : Name). w.resources.back (w.resources.to r) ≡ r) (λ (i : Name). Unit {0}) w.resources.is_back (λ i. tt) t

  is_free-kept : (r : Name) (t : Type_tree) → is_free (f r) (to t) ≡ is_free r t
  is_free-kept r t = is_free-renamed f w.resources.back g (λ i. Unit {0}) r t (w.resources.is_back r) (resources_back t)

  pub first_path-renamed : (r : Name) (es : Entries) → first_path (f r) (map_entries to es) ≡ first_path r es
  first_path-renamed r es = path_from-renamed f w.resources.back g (λ i. Unit {0}) r 0 es (w.resources.is_back r) (λ e. resources_back e.1)

  -- ## The map

  pub renaming_commutes : Commutes (renaming w) (λ t. Unit {0})
  renaming_commutes = record {
    sort = λ t h. sort-renamed f g t;
    size = size-rename f g;
    depth = depth-rename f g;
    created = created_type;
    referenced = referenced_type;
    referenced_known = λ t h. tt;
    export_known = λ t h n u e. tt;
    exports = λ t h. tree_exports-renamed t;
    params = λ t h. params-renamed t;
    result = λ t h. result-renamed t;
    introduced = own-renamed;
    creates = creates-renamed;
    same = same-renamed;
    is_named = entry-renamed;
    name_checks = name_checks-renamed w;
    bare_name_checks = bare_name_checks-renamed w;
    matches = matches-renamed f g w.resources.back w.resources.is_back;
    opens = opens-renamed f g w.resources.back w.resources.is_back;
    has_free = free-renamed [];
    is_free = is_free-kept;
    first_path = first_path-renamed;
    core_entry = core_entry-renamed;
    core_type = λ i. refl;
    core_imports = core_imports-renamed f g;
    core_exports = core_exports-renamed f g;
    item = item-renamed f g;
    core_item = λ e. refl;
    primitive_known = λ p. tt;
    primitive = λ p. refl;
    left_out = refl;
    primitive_of = primitive_of-renamed;
    contains = λ k t. contains-rename f g k t;
    abi_size = λ k t. abi_size-rename f g k t;
    outline = λ t. rename-twice f no_identity g no_identity t;
  }
