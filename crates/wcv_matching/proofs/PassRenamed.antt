-- The pass is the same under a renaming of all names, where resources have a way back.
use Rattle.std.proofs.Common.{◌≡◌, ℕ, zero, suc, max, ◌+◌, List, [], ◌∷◌, map, Bool, true, false, ◌&&◌, ◌||◌, cond, refl, sym, ap, ◌∙◌, Option, Some, None, bytes_eq, eqb}
use Rattle.std.specs.Prelude.{is_some, slice_get}
use Rattle.std.specs.Bool.{one_answer}
use Rattle.std.specs.List.{list_all}
use Rattle.std.specs.Map.{lookup}
use Rattle.std.specs.Option.{option_map}
use Rattle.std.proofs.lemmas.Map.Made.{lookup-map_values}
use Rattle.std.proofs.lemmas.Option.{slice_get-map}
use Rattle.wcv_core.specs.CoreForm.{Group}
use Rattle.wcv_core.specs.Names.{Name, member, same}
use Rattle.wcv_types.specs.Rename.{rename, rename_parts, rename_head, rename_paths}
use Rattle.wcv_types.specs.Replacing.{or_same}
use Rattle.wcv_types.specs.Resources.{owns}
use Rattle.wcv_types.specs.Seen.{outer, seen}
use Rattle.wcv_types.specs.Tree.{Text, Head, nothing, resource, instance, component, here, label, import, export, core_import, core_export, node, Parts, none, part, Sort, is_nothing, is_value, is_resource, is_func, is_instance, is_component, is_type, is_module, is_core_instance, is_core_type, is_core_item, head, sort, referenced, owned, imported, imported_at}
use Rattle.wcv_types.specs.Unfold.{Type_tree}
use Rattle.wcv_types.proofs.Identity.{same_under}
use Rattle.wcv_matching.specs.AtomTests.{same_seen, id_tests}
use Rattle.wcv_matching.specs.IdTests.{modules_match}
use Rattle.wcv_matching.specs.Matching.{Reading, outside, opened_by, named_exports, named_imports, named_exports_in, named_imports_in}
use Rattle.wcv_matching.specs.ModuleItems.{ItemsMatch, module_items}
use Rattle.wcv_matching.specs.NamedPaths.{and_then, entry, follow, resource_at}
use Rattle.wcv_matching.specs.OnePass.{Atom, given, owned_in, made_in, under_at, component_at, imported_paths, made_paths, counterpart, imported_in, defined_in, goes, first_to, one_to_one, own_pair_up, found_in, pairs_pass, same_members, sort_number, Pass, Tests, same_as, same_below, each_passes, right_at, opened_at, left_at, exports_at, is_made_in, match_as, match_below, enough, match_pass, passes_match, argument_for, opens_pass}
use Rattle.wcv_matching.specs.Orderly.{height, heights}
use Rattle.wcv_matching.specs.SameTypes.{made_at, defined_by}
use Rattle.wcv_matching.proofs.AtomTests.{seen-decides}
use Rattle.wcv_matching.proofs.MatchingKept.{admits_same, same_tree, substitute-move, moves-admitted, moves-renamed, member-renamed, firsts-renamed}
use Rattle.wcv_matching.proofs.Moved.{map_within, move, module_items-move, rename-move, seen-tracks}
use Rattle.wcv_matching.proofs.NamedLists.{over}

abbrev map_atom : (Name → Name) → Atom → Atom
map_atom f (given r) = given (f r)
map_atom f (owned_in k r) = owned_in k (f r)
map_atom f (made_in k r) = made_in k (f r)

-- ## Lists

module _ {A B : Type 0} (h : A → B) where
  all-mapped : (p : B → Bool) (q : A → Bool) → ((x : A) → p (h x) ≡ q x) → (xs : List A) → list_all p (map h xs) ≡ list_all q xs
  all-mapped p q e [] = refl
  all-mapped p q e (x ∷ xs) = λ j. e x j && all-mapped p q e xs j

module _ (f g back : Name → Name) (b : (r : Name) → back (f r) ≡ r) where
  abbrev to : Type_tree → Type_tree
  to t = rename f g t

  same-kept : (r q : Name) → same (f r) (f q) ≡ same r q
  same-kept r q = same_under f back r q (b r) (b q)

  abbrev named_to : Text × Type_tree → Text × Type_tree
  named_to e = (e.0, to e.1)

  -- ## Parts of a renamed tree

  pub head-to : (t : Type_tree) → head (to t) ≡ rename_head f g (head t)
  head-to (node h ps) = refl

  sort-to : (t : Type_tree) → sort (to t) ≡ sort t
  sort-to (node nothing ps) = refl
  sort-to (node _ ps) = refl

  referenced-to : (t : Type_tree) → referenced (to t) ≡ to (referenced t)
  referenced-to (node h none) = refl
  referenced-to (node h (part r t none)) = refl
  referenced-to (node h (part r t (part s u ps))) = refl

  exports-to : (ps : Parts Name Name) → named_exports_in (rename_parts f g ps) ≡ over to (named_exports_in ps)
  exports-to none = refl
  exports-to (part (export n) t ps) = ap (λ (es : List (Text × Type_tree)). (n.name, to t) ∷ es) (exports-to ps)
  exports-to (part here t ps) = exports-to ps
  exports-to (part (label l) t ps) = exports-to ps
  exports-to (part (import n) t ps) = exports-to ps
  exports-to (part (core_import m n) t ps) = exports-to ps
  exports-to (part (core_export n) t ps) = exports-to ps

  imports-to : (ps : Parts Name Name) → named_imports_in (rename_parts f g ps) ≡ over to (named_imports_in ps)
  imports-to none = refl
  imports-to (part (import n) t ps) = ap (λ (es : List (Text × Type_tree)). (n.name, to t) ∷ es) (imports-to ps)
  imports-to (part here t ps) = imports-to ps
  imports-to (part (label l) t ps) = imports-to ps
  imports-to (part (export n) t ps) = imports-to ps
  imports-to (part (core_import m n) t ps) = imports-to ps
  imports-to (part (core_export n) t ps) = imports-to ps

  pub named_exports-to : (t : Type_tree) → named_exports (to t) ≡ over to (named_exports t)
  named_exports-to (node h ps) = exports-to ps

  pub named_imports-to : (t : Type_tree) → named_imports (to t) ≡ over to (named_imports t)
  named_imports-to (node h ps) = imports-to ps

  mutual
    height-to : (t : Type_tree) → height (to t) ≡ height t
    height-to (node h ps) = ap suc (heights-to ps)

    heights-to : (ps : Parts Name Name) → heights (rename_parts f g ps) ≡ heights ps
    heights-to none = refl
    heights-to (part r t ps) = λ j. max (height-to t j) (heights-to ps j)

  module_items-to : (t : Type_tree) → module_items (to t) ≡ module_items t
  module_items-to t = ap module_items (rename-move f g t) ∙ module_items-move g f f t

  -- ## What a node owns

  imported_at-to : (h : Head Name Name) → imported_at (rename_head f g h) ≡ map f (imported_at h)
  imported_at-to (component i ins outs) = firsts-renamed f ins
  imported_at-to _ = refl

  pub made_at-to : (h : Head Name Name) → made_at (rename_head f g h) ≡ map f (made_at h)
  made_at-to (component i ins outs) = firsts-renamed f outs
  made_at-to _ = refl

  imported_paths-to : (h : Head Name Name) → imported_paths (rename_head f g h) ≡ rename_paths f (imported_paths h)
  imported_paths-to (component i ins outs) = refl
  imported_paths-to _ = refl

  pub made_paths-to : (h : Head Name Name) → made_paths (rename_head f g h) ≡ rename_paths f (made_paths h)
  made_paths-to (component i ins outs) = refl
  made_paths-to _ = refl

  imported-to : (t : Type_tree) → imported (to t) ≡ map f (imported t)
  imported-to (node h ps) = imported_at-to h

  defined-to : (t : Type_tree) → defined_by (to t) ≡ map f (defined_by t)
  defined-to (node h ps) = made_at-to h

  owned-to : (t : Type_tree) → owned (to t) ≡ map f (owned t)
  owned-to (node (instance i own) ps) = refl
  owned-to (node _ ps) = refl

  pub is_member : (r : Name) (rs : List Name) → member (f r) (map f rs) ≡ member r rs
  is_member r rs = member-renamed f back b r rs

  pub is_imported : (h : Head Name Name) (r : Name) → member (f r) (imported_at (rename_head f g h)) ≡ member r (imported_at h)
  is_imported h r = ap (member (f r)) (imported_at-to h) ∙ is_member r (imported_at h)

  owns-to : (h : Head Name Name) (r : Name) → owns (rename_head f g h) (f r) ≡ owns h r
  owns-to (instance i own) r = is_member r own
  owns-to (component i ins outs) r = λ j. (ap (member (f r)) (firsts-renamed f ins) ∙ is_member r _) j || (ap (member (f r)) (firsts-renamed f outs) ∙ is_member r _) j
  owns-to _ r = refl

  -- ## Resources by their paths

  lookup-to : (r : Name) (ps : List (Name × List ℕ)) → lookup (same (f r)) (rename_paths f ps) ≡ lookup (same r) ps
  lookup-to r [] = refl
  lookup-to r (p ∷ ps) = λ j. cond (same-kept r p.0 j) (Some p.1) (lookup-to r ps j)

  resource_at-to : (h : Head Name Name) → resource_at (rename_head f g h) ≡ option_map f (resource_at h)
  resource_at-to (resource r s) = refl
  resource_at-to _ = refl

  referred : (t : Type_tree) → resource_at (head (referenced (to t))) ≡ option_map f (resource_at (head (referenced t)))
  referred t = ap (λ (u : Type_tree). resource_at (head u)) (referenced-to t) ∙ ap resource_at (head-to (referenced t)) ∙ resource_at-to (head (referenced t))

  -- one step of a path: the entry at a position, and the one of its name
  stepped : (k : ℕ) (es xs : List (Text × Type_tree)) (u v : Type_tree → Type_tree → Option Name) → ((e x : Type_tree) → u (to e) (to x) ≡ option_map f (v e x)) →
      and_then (slice_get (over to es) k) (λ e. and_then (entry e.0 (over to xs)) (λ x. u e.1 x)) ≡ option_map f (and_then (slice_get es k) (λ e. and_then (entry e.0 xs) (λ x. v e.1 x)))
  stepped k es xs u v h = ap (λ (o : Option (Text × Type_tree)). and_then o (λ e. and_then (entry e.0 (over to xs)) (λ x. u e.1 x))) (slice_get-map named_to es k) ∙ go (slice_get es k)
    where
      there : (e : Text × Type_tree) (o : Option Type_tree) → and_then (option_map to o) (λ x. u (to e.1) x) ≡ option_map f (and_then o (λ x. v e.1 x))
      there e None = refl
      there e (Some x) = h e.1 x

      go : (o : Option (Text × Type_tree)) → and_then (option_map named_to o) (λ e. and_then (entry e.0 (over to xs)) (λ x. u e.1 x)) ≡ option_map f (and_then o (λ e. and_then (entry e.0 xs) (λ x. v e.1 x)))
      go None = refl
      go (Some e) = ap (λ (o : Option Type_tree). and_then o (λ x. u (to e.1) x)) (lookup-map_values to (bytes_eq e.0) xs) ∙ there e (entry e.0 xs)

  follow-to : (p : List ℕ) (es xs : List (Text × Type_tree)) → follow p (over to es) (over to xs) ≡ option_map f (follow p es xs)
  follow-to [] es xs = refl
  follow-to (k ∷ []) es xs = stepped k es xs (λ e x. resource_at (head (referenced x))) (λ e x. resource_at (head (referenced x))) (λ e x. referred x)
  follow-to (k ∷ j ∷ p) es xs =
      stepped k es xs (λ e x. follow (j ∷ p) (named_exports e) (named_exports x)) (λ e x. follow (j ∷ p) (named_exports e) (named_exports x))
      (λ e x. (λ i. follow (j ∷ p) (named_exports-to e i) (named_exports-to x i)) ∙ follow-to (j ∷ p) (named_exports e) (named_exports x))

  counterpart-to : (ps : List (Name × List ℕ)) (es xs : List (Text × Type_tree)) (r : Name) → counterpart (rename_paths f ps) (over to es) (over to xs) (f r) ≡ f (counterpart ps es xs r)
  counterpart-to ps es xs r = ap (λ (o : Option (List ℕ)). or_same (f r) (and_then o (λ p. follow p (over to es) (over to xs)))) (lookup-to r ps) ∙ go (lookup (same r) ps)
    where
      same_or : (o : Option Name) → or_same (f r) (option_map f o) ≡ f (or_same r o)
      same_or None = refl
      same_or (Some q) = refl

      go : (o : Option (List ℕ)) → or_same (f r) (and_then o (λ p. follow p (over to es) (over to xs))) ≡ f (or_same r (and_then o (λ p. follow p es xs)))
      go None = refl
      go (Some p) = ap (or_same (f r)) (follow-to p es xs) ∙ same_or (follow p es xs)

  imported_in-to : (x y : Type_tree) (r : Name) → imported_in (to x) (to y) (f r) ≡ f (imported_in x y r)
  imported_in-to x y r =
      (λ j. counterpart ((ap imported_paths (head-to x) ∙ imported_paths-to (head x)) j) (named_imports-to x j) (named_imports-to y j) (f r)) ∙ counterpart-to (imported_paths (head x)) (named_imports x) (named_imports y) r

  defined_in-to : (x y : Type_tree) (r : Name) → defined_in (to x) (to y) (f r) ≡ f (defined_in x y r)
  defined_in-to x y r =
      (λ j. counterpart ((ap made_paths (head-to x) ∙ made_paths-to (head x)) j) (named_exports-to x j) (named_exports-to y j) (f r)) ∙ counterpart-to (made_paths (head x)) (named_exports x) (named_exports y) r

  module _ (skip skips : Name → Bool) (into goal : Name → Name) (e : (r : Name) → skips (f r) ≡ skip r) (d : (r : Name) → goal (f r) ≡ f (into r)) where
    goes-to : (q r : Name) → goes skips goal (f q) (f r) ≡ goes skip into q r
    goes-to q r = λ j. cond (e r j) false ((ap (λ (x : Name). same x (f q)) (d r) ∙ same-kept (into r) q) j)

    first-to : (q : Name) (rs : List Name) → first_to skips goal (f q) (map f rs) ≡ f (first_to skip into q rs)
    first-to q [] = refl
    first-to q (r ∷ rs) = (λ j. cond (goes-to q r j) (f r) (first-to q rs j)) ∙ go (goes skip into q r)
      where
        go : (c : Bool) → cond c (f r) (f (first_to skip into q rs)) ≡ f (cond c r (first_to skip into q rs))
        go true = refl
        go false = refl

    one-to : (rs : List Name) → one_to_one skips goal (map f rs) ≡ one_to_one skip into rs
    one-to rs = all-mapped f (λ r. skips r || same (first_to skips goal (goal r) (map f rs)) r) (λ r. skip r || same (first_to skip into (into r) rs) r)
        (λ r. λ j. e r j || (ap (λ (x : Name). same (first_to skips goal x (map f rs)) (f r)) (d r) ∙ ap (λ (x : Name). same x (f r)) (first-to (into r) rs) ∙ same-kept (first_to skip into (into r) rs) r) j) rs

  pair_up-to : (x y : Type_tree) → own_pair_up (to x) (to y) ≡ own_pair_up x y
  pair_up-to x y = λ j.
      (ap (one_to_one (λ r. false) (imported_in (to x) (to y))) (imported-to x) ∙ one-to (λ r. false) (λ r. false) (imported_in x y) (imported_in (to x) (to y)) (λ r. refl) (imported_in-to x y) (imported x)) j
      && (ap (one_to_one (λ r. member r (imported (to x))) (defined_in (to x) (to y))) (defined-to x)
      ∙ one-to (λ r. member r (imported x)) (λ r. member r (imported (to x))) (defined_in x y) (defined_in (to x) (to y)) (λ r. ap (member (f r)) (imported-to x) ∙ is_member r (imported x)) (defined_in-to x y) (defined_by x)) j

  -- what stands among renamed arguments at the path of a renamed resource
  pub argument-to : (args : List (Text × Type_tree)) (c : Type_tree) (r : Name) → argument_for (over to args) (to c) (f r) ≡ f (argument_for args c r)
  argument-to args c r = (λ j. counterpart ((ap imported_paths (head-to c) ∙ imported_paths-to (head c)) j) (named_imports-to c j) (over to args) (f r)) ∙ counterpart-to (imported_paths (head c)) (named_imports c) args r

  -- ## Entries

  -- the test holds of what was found
  abbrev passes : (Type_tree → Bool) → Option Type_tree → Bool
  passes p None = false
  passes p (Some x) = p x

  module _ (R S : Type_tree → Type_tree → Bool) (h : (x y : Type_tree) → R (to x) (to y) ≡ S x y) where
    found-to : (e : Text × Type_tree) (xs : List (Text × Type_tree)) → found_in R (over to xs) (named_to e) ≡ found_in S xs e
    found-to e xs = ap (λ (o : Option Type_tree). passes (λ x. R x (to e.1)) o) (lookup-map_values to (bytes_eq e.0) xs) ∙ go (entry e.0 xs)
      where
        go : (o : Option Type_tree) → passes (λ x. R x (to e.1)) (option_map to o) ≡ passes (λ x. S x e.1) o
        go None = refl
        go (Some x) = h x e.1

    each-to : (xs ys : List (Text × Type_tree)) → each_passes R (over to xs) (over to ys) ≡ each_passes S xs ys
    each-to xs ys = all-mapped named_to (found_in R (over to xs)) (found_in S xs) (λ e. found-to e xs) ys

    is_there : (n : Text) (ys : List (Text × Type_tree)) → is_some (entry n (over to ys)) ≡ is_some (entry n ys)
    is_there n ys = ap (λ (o : Option Type_tree). is_some o) (lookup-map_values to (bytes_eq n) ys) ∙ go (entry n ys)
      where
        go : (o : Option Type_tree) → is_some (option_map to o) ≡ is_some o
        go None = refl
        go (Some x) = refl

    pairs-to : (xs ys : List (Text × Type_tree)) → pairs_pass R (over to xs) (over to ys) ≡ pairs_pass S xs ys
    pairs-to xs ys = λ j. all-mapped named_to (λ e. is_some (entry e.0 (over to ys))) (λ e. is_some (entry e.0 ys)) (λ e. is_there e.0 ys) xs j && each-to xs ys j

  members-to : (xs ys : List Name) → same_members (map f xs) (map f ys) ≡ same_members xs ys
  members-to xs ys = λ j. all-mapped f (λ r. member r (map f ys)) (λ r. member r ys) (λ r. is_member r ys) xs j && all-mapped f (λ r. member r (map f xs)) (λ r. member r xs) (λ r. is_member r xs) ys j

  -- ## Readings

  -- the first reads renamed resources as the renamed of what the second reads
  abbrev Reads : Reading Atom → Reading Atom → Type 0
  Reads u v = (r : Name) → u (f r) ≡ map_atom f (v r)

  atom-cond : (c : Bool) (v w : Atom) → cond c (map_atom f v) (map_atom f w) ≡ map_atom f (cond c v w)
  atom-cond true v w = refl
  atom-cond false v w = refl

  -- the left component where it is the same as the right one
  abbrev in_imports : ℕ → Type_tree → Type_tree → Reading Atom → Reading Atom
  in_imports k x y u = component_at (head x) (λ r. owned_in k (imported_in x y r)) (made_in k) u

  abbrev in_exports : ℕ → Type_tree → Type_tree → Reading Atom → Reading Atom
  in_exports k x y u = component_at (head x) (λ r. owned_in k (imported_in x y r)) (λ r. made_in k (defined_in x y r)) u

  under-to : (k : ℕ) (t : Type_tree) (u v : Reading Atom) → Reads u v → Reads (under_at k (head (to t)) u) (under_at k (head t) v)
  under-to k t u v h r = (λ j. cond ((ap (λ (x : Head Name Name). owns x (f r)) (head-to t) ∙ owns-to (head t) r) j) (owned_in k (f r)) (h r j)) ∙ atom-cond (owns (head t) r) (owned_in k r) (v r)

  component-to : (t : Type_tree) (s s' o o' u v : Reading Atom) → Reads s s' → Reads o o' → Reads u v → Reads (component_at (head (to t)) s o u) (component_at (head t) s' o' v)
  component-to t s s' o o' u v p q h r =
      (λ j. cond ((ap (λ (x : Head Name Name). owns x (f r)) (head-to t) ∙ owns-to (head t) r) j) (cond ((ap (λ (x : Head Name Name). member (f r) (imported_at x)) (head-to t) ∙ is_imported (head t) r) j) (p r j) (q r j)) (h r j)) ∙
      ap (λ (x : Atom). cond (owns (head t) r) x (map_atom f (v r))) (atom-cond (member r (imported_at (head t))) (s' r) (o' r)) ∙
      atom-cond (owns (head t) r) (cond (member r (imported_at (head t))) (s' r) (o' r)) (v r)

  made_in-to : (k : ℕ) (w : Atom) → is_made_in k (map_atom f w) ≡ is_made_in k w
  made_in-to k (given r) = refl
  made_in-to k (owned_in j r) = refl
  made_in-to k (made_in j r) = refl

  atom-back : (w : Atom) → map_atom back (map_atom f w) ≡ w
  atom-back (given r) = ap given (b r)
  atom-back (owned_in k r) = ap (owned_in k) (b r)
  atom-back (made_in k r) = ap (made_in k) (b r)

  -- ## Trees as they are seen

  unmoved : (t : Type_tree) → move (λ i. i) (λ r. r) (λ r. r) t ≡ t
  unmoved t = sym (substitute-move (λ r. r) t) ∙ same_tree t

  seen-there : (u v : Reading Atom) → Reads u v → (t : Type_tree) → rename (map_within f (map_atom f)) (λ z. z) (seen (outside v) t) ≡ seen (outside u) (to t)
  seen-there u v h t =
      ap (λ (x : Type_tree). rename (map_within f (map_atom f)) (λ z. z) (seen (outside v) x)) (sym (unmoved t)) ∙
      seen-tracks (λ i. i) (λ r. r) g f f (λ r. refl) (map_atom f) (outside v) (outside u) (λ r. r) f t (moves-admitted (λ r. r) t (admits_same t)) (moves-renamed (ItemsMatch []) f g back b t) (λ r z. ap outer (sym (h r))) ∙
      ap (seen (outside u)) (sym (rename-move f g t))

  seen-back : (u v : Reading Atom) → Reads u v → (t : Type_tree) → rename (map_within back (map_atom back)) (λ z. z) (seen (outside u) (to t)) ≡ seen (outside v) t
  seen-back u v h t =
      ap (λ (x : Type_tree). rename (map_within back (map_atom back)) (λ z. z) (seen (outside u) x)) (rename-move f g t) ∙
      seen-tracks g f (λ i. i) (λ r. r) back b (map_atom back) (outside u) (outside v) f (λ r. r) t (moves-renamed (ItemsMatch []) f g back b t) (moves-admitted (λ r. r) t (admits_same t)) (λ r z. ap outer (ap (map_atom back) (h r) ∙ atom-back (v r))) ∙
      ap (seen (outside v)) (unmoved t)

  seen-to : (u v u' v' : Reading Atom) (x y : Type_tree) → Reads u u' → Reads v v' → same_seen (seen (outside u) (to x)) (seen (outside v) (to y)) ≡ same_seen (seen (outside u') x) (seen (outside v') y)
  seen-to u v u' v' x y p q =
      let d = seen-decides (seen (outside u) (to x)) (seen (outside v) (to y)) in
      one_answer _ _ (
        λ e. sym (seen-back u u' p x) ∙ ap (rename (map_within back (map_atom back)) (λ z. z)) (d.0 e) ∙ seen-back v v' q y,
        λ e. d.1 (sym (seen-there u u' p x) ∙ ap (rename (map_within f (map_atom f)) (λ z. z)) e ∙ seen-there v v' q y),
      ) (seen-decides (seen (outside u') x) (seen (outside v') y))

  -- ## The pass

  module _ (gs : List Group) where
    abbrev test : Tests
    test = id_tests gs

    modules-to : (x y : Type_tree) → test.modules (to x) (to y) ≡ test.modules x y
    modules-to x y = λ j. modules_match gs (module_items-to x j) (module_items-to y j)

    abbrev Same : Pass → Type 0
    Same S = (k : ℕ) (u v u' v' : Reading Atom) (x y : Type_tree) → Reads u u' → Reads v v' → S k u v (to x) (to y) ≡ S k u' v' x y

    module _ (S : Pass) (h : Same S) (k : ℕ) (u v u' v' : Reading Atom) (x y : Type_tree) (p : Reads u u') (q : Reads v v') where
      types-to : same_as test S is_type k u v (to x) (to y) ≡ same_as test S is_type k u' v' x y
      types-to = λ j.
          ((λ i. S k u v (referenced-to x i) (referenced-to y i)) ∙ h k u v u' v' (referenced x) (referenced y) p q) j
          && ((λ i. same_members ((ap owned (referenced-to x) ∙ owned-to (referenced x)) i) ((ap owned (referenced-to y) ∙ owned-to (referenced y)) i)) ∙ members-to (owned (referenced x)) (owned (referenced y))) j

      -- the entries on both sides, under readings inside
      pairs-under : (l : ℕ) (r s r' s' : Reading Atom) → Reads r r' → Reads s s' → (es xs : List (Text × Type_tree)) → pairs_pass (S l r s) (over to es) (over to xs) ≡ pairs_pass (S l r' s') es xs
      pairs-under l r s r' s' m n es xs = pairs-to (S l r s) (S l r' s') (λ a c. h l r s r' s' a c m n) es xs

      imports-read : Reads (in_imports k (to x) (to y) u) (in_imports k x y u')
      imports-read = component-to x (λ r. owned_in k (imported_in (to x) (to y) r)) (λ r. owned_in k (imported_in x y r)) (made_in k) (made_in k) u u' (λ r. ap (owned_in k) (imported_in-to x y r)) (λ r. refl) p

      exports-read : Reads (in_exports k (to x) (to y) u) (in_exports k x y u')
      exports-read = component-to x (λ r. owned_in k (imported_in (to x) (to y) r)) (λ r. owned_in k (imported_in x y r)) (λ r. made_in k (defined_in (to x) (to y) r)) (λ r. made_in k (defined_in x y r)) u u' (λ r. ap (owned_in k) (imported_in-to x y r)) (λ r. ap (made_in k) (defined_in-to x y r)) p

      right-read : Reads (right_at k (head (to y)) v) (right_at k (head y) v')
      right-read = component-to y (owned_in k) (owned_in k) (made_in k) (made_in k) v v' (λ r. refl) (λ r. refl) q

      same_as-to : (s : Sort) → same_as test S s k u v (to x) (to y) ≡ same_as test S s k u' v' x y
      same_as-to is_instance =
          (λ j. pairs_pass (S (suc k) (under_at k (head (to x)) u) (under_at k (head (to y)) v)) (named_exports-to x j) (named_exports-to y j)) ∙
          pairs-under (suc k) _ _ _ _ (under-to k x u u' p) (under-to k y v v' q) (named_exports x) (named_exports y)
      same_as-to is_type = types-to
      same_as-to is_component = λ j.
          pair_up-to x y j
          && (((λ i. pairs_pass (S (suc k) (in_imports k (to x) (to y) u) (right_at k (head (to y)) v)) (named_imports-to x i) (named_imports-to y i)) ∙ pairs-under (suc k) _ _ _ _ imports-read right-read (named_imports x) (named_imports y)) j
          && ((λ i. pairs_pass (S (suc k) (in_exports k (to x) (to y) u) (right_at k (head (to y)) v)) (named_exports-to x i) (named_exports-to y i)) ∙ pairs-under (suc k) _ _ _ _ exports-read right-read (named_exports x) (named_exports y)) j)
      same_as-to is_module = λ j. modules-to x y j && modules-to y x j
      same_as-to is_nothing = seen-to u v u' v' x y p q
      same_as-to is_value = seen-to u v u' v' x y p q
      same_as-to is_resource = seen-to u v u' v' x y p q
      same_as-to is_func = seen-to u v u' v' x y p q
      same_as-to is_core_instance = seen-to u v u' v' x y p q
      same_as-to is_core_type = seen-to u v u' v' x y p q
      same_as-to is_core_item = seen-to u v u' v' x y p q

    same_below-to : (d : ℕ) → Same (same_below test d)
    same_below-to zero k u v u' v' x y p q = refl
    same_below-to (suc d) k u v u' v' x y p q = λ j.
        eqb (sort_number (sort-to x j)) (sort_number (sort-to y j)) && (ap (λ (s : Sort). same_as test (same_below test d) s k u v (to x) (to y)) (sort-to x) ∙ same_as-to (same_below test d) (same_below-to d) k u v u' v' x y p q (sort x)) j

    module _ (S M : Pass) (h : Same S) (w : Same M) (k : ℕ) (u v u' v' : Reading Atom) (x y : Type_tree) (p : Reads u u') (q : Reads v v') where
      other-read : Reads (right_at k (head (to y)) v) (right_at k (head y) v')
      other-read = component-to y (owned_in k) (owned_in k) (made_in k) (made_in k) v v' (λ r. refl) (λ r. refl) q

      opened-read : Reads (opened_at k v (to x) (to y)) (opened_at k v' x y)
      opened-read r = ap (right_at k (head (to y)) v) (imported_in-to x y r) ∙ other-read (imported_in x y r)

      left-read : Reads (left_at k u v (to x) (to y)) (left_at k u' v' x y)
      left-read = component-to x (opened_at k v (to x) (to y)) (opened_at k v' x y) (made_in k) (made_in k) u u' opened-read (λ r. refl) p

      behind-read : Reads (exports_at k u v (to x) (to y)) (exports_at k u' v' x y)
      behind-read = component-to y (owned_in k) (owned_in k) (λ r. left_at k u v (to x) (to y) (defined_in (to y) (to x) r)) (λ r. left_at k u' v' x y (defined_in y x r)) v v' (λ r. refl) (λ r. ap (left_at k u v (to x) (to y)) (defined_in-to y x r) ∙ left-read (defined_in y x r)) q

      each-under : (l : ℕ) (r s r' s' : Reading Atom) → Reads r r' → Reads s s' → (es xs : List (Text × Type_tree)) → each_passes (M l r s) (over to es) (over to xs) ≡ each_passes (M l r' s') es xs
      each-under l r s r' s' m n es xs = each-to (M l r s) (M l r' s') (λ a c. w l r s r' s' a c m n) es xs

      unmade : list_all (λ r. cond (is_made_in k (opened_at k v (to x) (to y) r)) false true) (imported (to x)) ≡ list_all (λ r. cond (is_made_in k (opened_at k v' x y r)) false true) (imported x)
      unmade =
          ap (list_all (λ r. cond (is_made_in k (opened_at k v (to x) (to y) r)) false true)) (imported-to x) ∙
          all-mapped f (λ r. cond (is_made_in k (opened_at k v (to x) (to y) r)) false true) (λ r. cond (is_made_in k (opened_at k v' x y r)) false true)
          (λ r. ap (λ (c : Bool). cond c false true) (ap (is_made_in k) (opened-read r) ∙ made_in-to k (opened_at k v' x y r))) (imported x)

      match_as-to : (s : Sort) → match_as test S M s k u v (to x) (to y) ≡ match_as test S M s k u' v' x y
      match_as-to is_instance =
          (λ j. each_passes (M (suc k) (under_at k (head (to x)) u) (under_at k (head (to y)) v)) (named_exports-to x j) (named_exports-to y j)) ∙
          each-under (suc k) _ _ _ _ (under-to k x u u' p) (under-to k y v v' q) (named_exports x) (named_exports y)
      match_as-to is_type = types-to S h k u v u' v' x y p q
      match_as-to is_component = λ j.
          unmade j
          && (((λ i. each_passes (M (suc k) (right_at k (head (to y)) v) (left_at k u v (to x) (to y))) (named_imports-to y i) (named_imports-to x i)) ∙ each-under (suc k) _ _ _ _ other-read left-read (named_imports y) (named_imports x)) j
          && ((λ i. each_passes (M (suc k) (left_at k u v (to x) (to y)) (exports_at k u v (to x) (to y))) (named_exports-to x i) (named_exports-to y i)) ∙ each-under (suc k) _ _ _ _ left-read behind-read (named_exports x) (named_exports y)) j)
      match_as-to is_module = modules-to x y
      match_as-to is_nothing = seen-to u v u' v' x y p q
      match_as-to is_value = seen-to u v u' v' x y p q
      match_as-to is_resource = seen-to u v u' v' x y p q
      match_as-to is_func = seen-to u v u' v' x y p q
      match_as-to is_core_instance = seen-to u v u' v' x y p q
      match_as-to is_core_type = seen-to u v u' v' x y p q
      match_as-to is_core_item = seen-to u v u' v' x y p q

    match_below-to : (d : ℕ) → Same (match_below test d)
    match_below-to zero k u v u' v' x y p q = refl
    match_below-to (suc d) k u v u' v' x y p q = λ j.
        eqb (sort_number (sort-to x j)) (sort_number (sort-to y j))
        && (ap (λ (s : Sort). match_as test (same_below test d) (match_below test d) s k u v (to x) (to y)) (sort-to x) ∙ match_as-to (same_below test d) (match_below test d) (same_below-to d) (match_below-to d) k u v u' v' x y p q (sort x)) j

    match_pass-to : Same (match_pass test)
    match_pass-to k u v u' v' x y p q =
        (λ j. match_below test (suc (height-to x j + height-to y j)) k u v (to x) (to y)) ∙ match_below-to (enough x y) k u v u' v' x y p q

    pub matches-renamed : (x y : Type_tree) → passes_match (id_tests gs) (rename f g x) (rename f g y) ≡ passes_match (id_tests gs) x y
    matches-renamed x y = match_pass-to 0 given given given given x y (λ r. refl) (λ r. refl)

    opened-to : (args : List (Text × Type_tree)) (c : Type_tree) → Reads (λ r. given (opened_by (argument_for (over to args) (to c)) (to c) r)) (λ r. given (opened_by (argument_for args c) c r))
    opened-to args c r =
        ap given ((λ j. cond ((ap (λ (x : Head Name Name). member (f r) (imported_at x)) (head-to c) ∙ is_imported (head c) r) j) (argument-to args c r j) (f r)) ∙ go (member r (imported_at (head c))))
      where
        go : (o : Bool) → cond o (f (argument_for args c r)) (f r) ≡ f (cond o (argument_for args c r) r)
        go true = refl
        go false = refl

    pub opens-renamed : (args : List (Text × Type_tree)) (c : Type_tree) → opens_pass (id_tests gs) (over (rename f g) args) (rename f g c) ≡ opens_pass (id_tests gs) args c
    opens-renamed args c =
        let there : Reading Atom = λ r. given (opened_by (argument_for (over to args) (to c)) (to c) r) in
        let here : Reading Atom = λ r. given (opened_by (argument_for args c) c r) in
        ap (each_passes (match_pass test 0 given there) (over to args)) (named_imports-to c) ∙
        each-to (match_pass test 0 given there) (match_pass test 0 given here) (λ x y. match_pass-to 0 given there given here x y (λ r. refl) (opened-to args c)) args (named_imports c)
