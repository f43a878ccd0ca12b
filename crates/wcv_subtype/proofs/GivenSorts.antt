-- What arguments give for types is of their sorts, where both types of each type entity are of one sort.
use Rattle.std.proofs.Common.{◌≡◌, ℕ, zero, suc, List, [], ◌∷◌, ◌++◌, Bool, true, false, ◌&&◌, cond, Option, None, Some, bytes_eq, refl, sym, ◌∙◌, ap, subst}
use Rattle.std.specs.Prelude.{All, option_to_list, slice_get}
use Rattle.std.specs.List.{list_all}
use Rattle.std.specs.Map.{lookup}
use Rattle.std.specs.Option.{option_map, option_map_or}
use Rattle.std.proofs.lemmas.Bool.{eq-eqb, false≢true}
use Rattle.std.proofs.lemmas.List.Elements.{All-nil, All-cons, All-append, All-head, All-tail}
use Rattle.wcv_core.specs.CoreForm.{Group}
use Rattle.wcv_core.specs.Names.{Name, number}
use Rattle.wcv_types.proofs.Unfolding.{head_in, sort_of, sort_stands}
use Rattle.wcv_types.specs.Arena.{Arena}
use Rattle.wcv_types.specs.Identity.{Identity, of_node, of_reference, identity_at, same_identity}
use Rattle.wcv_types.specs.Rebuild.{same_sort, sort_number}
use Rattle.wcv_types.specs.Standing.{AllFit, Stands, identity_of}
use Rattle.wcv_types.specs.Tree.{Text, Head, Role, here, label, import, export, core_import, core_export, nothing, primitive, resource, defined, func, instance, component, type_entity, core_module, core_instance, core_type, core_item, node, Parts, none, part, Sort, is_value, is_resource, is_func, is_instance, is_component, is_module, is_core_instance, is_type, sort, sort_at, head, created, referenced, first_part, rest_parts}
use Rattle.wcv_types.specs.Unfold.{head_of, slots_of, slot_parts, trees, tree_at, Type_tree}
use Rattle.wcv_types.specs.declared.arena.Node.{Node}
use Rattle.wcv_types.specs.declared.arena.Node.TheVariants as n
use Rattle.wcv_types.specs.declared.ids.Part.{Part}
use Rattle.wcv_types.specs.declared.ids.Part.TheVariants as p
use Rattle.wcv_matching.specs.AtomTests.{id_tests}
use Rattle.wcv_matching.specs.GivenTypes.{given_by, given_in, given_for}
use Rattle.wcv_matching.specs.Matching.{Reading, named_exports, named_exports_in}
use Rattle.wcv_matching.specs.NamedPaths.{entry}
use Rattle.wcv_matching.specs.OnePass.{Atom, each_passes, found_in, enough, match_as, match_below, match_pass, same_below}
use Rattle.wcv_matching.specs.Orderly.{EachNode, EachNodeIn, EntitiesAlike}
use Rattle.wcv_matching.proofs.ArenaTypes.{HoldsOfLeaves, each_type}
use Rattle.wcv_matching.proofs.NamedLists.{some-inj}
use Rattle.wcv_matching.proofs.PassSame.{and_left, and_right, sorts-decide}
use Rattle.wcv_remap.specs.Map.{Sent, is_type as may_be_sent}
use Rattle.wcv_subtype.specs.Openings.{IsGiven}
use Rattle.wcv_remap.proofs.Given.{identity_true}

-- ## Sorts by identities

abbrev number_of : Sort → ℕ
number_of is_value = 0
number_of is_func = 1
number_of is_instance = 2
number_of is_component = 3
number_of is_module = 4
number_of is_core_instance = 5
number_of is_resource = 6
number_of _ = 7

numbered : (q : Part) → sort_number q ≡ number_of (sort_of q)
numbered (p.Defined i) = refl
numbered (p.Func i) = refl
numbered (p.Instance i) = refl
numbered (p.Component i) = refl
numbered (p.Module i) = refl
numbered (p.CoreInstance i) = refl
numbered (p.Resource r) = refl
numbered (p.Core i) = refl

-- whatever type of the arena has the identity, it is of that sort
abbrev pub HasSort : Arena → Identity → Sort → Type 0
HasSort a i s = (q : Part) → Stands a q → may_be_sent q ≡ true → identity_of q ≡ i → sort (tree_at a q) ≡ s

abbrev pub SortByIdentity : Arena → Head Name Name → Parts Name Name → Type 0
SortByIdentity a h ps = (i : Identity) → identity_at h ≡ Some i → HasSort a i (sort_at h)

module _ (a : Arena) where
  at_reference : (r s : Name) → HasSort a (of_reference r s) (sort_at (resource r s))
  at_reference r s (p.Resource q) st t e = refl
  at_reference r s (p.Defined i) st t e = cc
  at_reference r s (p.Func i) st t e = cc
  at_reference r s (p.Instance i) st t e = cc
  at_reference r s (p.Component i) st t e = cc
  at_reference r s (p.Module i) st t e = cc
  at_reference r s (p.CoreInstance i) st t e = cc
  at_reference r s (p.Core i) st t e = cc

  one_number : (j k : ℕ) → of_node (number j) ≡ of_node (number k) → j ≡ k
  one_number j k e = cc

  same_node : (j k : ℕ) (x y : Node) → j ≡ k → slice_get a.nodes j ≡ Some x → slice_get a.nodes k ≡ Some y → sort_at (head_of j x) ≡ sort_at (head_of k y)
  same_node j k x y e g h = let f : x ≡ y = some-inj (sym g ∙ ap (slice_get a.nodes) e ∙ h) in λ l. sort_at (head_of (e l) (f l))

  at_node : (k : ℕ) (x : Node) → slice_get a.nodes k ≡ Some x → HasSort a (of_node (number k)) (sort_at (head_of k x))
  at_node k x h (p.Resource q) st t e = cc
  at_node k x h (p.Core i) st t e = cc
  at_node k x h (p.Module i) st t e = cc
  at_node k x h (p.CoreInstance i) st t e = cc
  at_node k x h (p.Defined i) st t e = ap sort_at (head_in a.nodes i.index (n.Defined st.0) st.1) ∙ same_node i.index k (n.Defined st.0) x (one_number i.index k e) st.1 h
  at_node k x h (p.Func i) st t e = ap sort_at (head_in a.nodes i.index (n.Func st.0) st.1) ∙ same_node i.index k (n.Func st.0) x (one_number i.index k e) st.1 h
  at_node k x h (p.Instance i) st t e = ap sort_at (head_in a.nodes i.index (n.Instance st.0) st.1) ∙ same_node i.index k (n.Instance st.0) x (one_number i.index k e) st.1 h
  at_node k x h (p.Component i) st t e = ap sort_at (head_in a.nodes i.index (n.Component st.0) st.1) ∙ same_node i.index k (n.Component st.0) x (one_number i.index k e) st.1 h

  known_sort : (i j : Identity) (s : Sort) → Some j ≡ Some i → HasSort a j s → HasSort a i s
  known_sort i j s e h = subst (λ (k : Identity). HasSort a k s) (some-inj e) h

  pub leaves_sorted : HoldsOfLeaves (SortByIdentity a)
  leaves_sorted = record {
    left_out = λ i e. cc;
    primitives = λ q i e. cc;
    references = λ r s i e. known_sort i (of_reference r s) _ e (at_reference r s);
    types = λ k i e. cc;
    items = λ x i e. cc;
    entities = λ c r i e. cc;
  }

  node_sorted : (k : ℕ) (x : Node) → slice_get a.nodes k ≡ Some x → SortByIdentity a (head_of k x) (slot_parts (trees a.nodes) (slots_of x))
  node_sorted k (n.Defined s) h i e = known_sort i (of_node (number k)) _ e (at_node k (n.Defined s) h)
  node_sorted k (n.Func s) h i e = known_sort i (of_node (number k)) _ e (at_node k (n.Func s) h)
  node_sorted k (n.Instance s) h i e = known_sort i (of_node (number k)) _ e (at_node k (n.Instance s) h)
  node_sorted k (n.Component s) h i e = known_sort i (of_node (number k)) _ e (at_node k (n.Component s) h)
  node_sorted k (n.Module s) h i e = known_sort i (of_node (number k)) _ e (at_node k (n.Module s) h)
  node_sorted k (n.CoreInstance s) h i e = known_sort i (of_node (number k)) _ e (at_node k (n.CoreInstance s) h)

  pub all_sorted : AllFit a → (q : Part) → Stands a q → EachNode (SortByIdentity a) (tree_at a q)
  all_sorted fit q s = each_type (SortByIdentity a) leaves_sorted a fit node_sorted q s

  -- ## What is given

  -- alike inside, and of the sorts by identities
  abbrev Sorted : Type_tree → Type 0
  Sorted t = EntitiesAlike t × EachNode (SortByIdentity a) t

  abbrev SortedIn : Parts Name Name → Type 0
  SortedIn ps = EachNodeIn (λ h qs. h ≡ type_entity → sort (first_part qs) ≡ sort (first_part (rest_parts qs))) ps × EachNodeIn (SortByIdentity a) ps

  abbrev Named_sorted : Text × Type_tree → Type 0
  Named_sorted e = Sorted e.1

  exports_sorted : (ps : Parts Name Name) → SortedIn ps → All Named_sorted (named_exports_in ps)
  exports_sorted none w = All-nil Named_sorted
  exports_sorted (part (export m) t ps) w = All-cons Named_sorted (m.name, t) (named_exports_in ps) (w.0.0, w.1.0) (exports_sorted ps (w.0.1, w.1.1))
  exports_sorted (part here t ps) w = exports_sorted ps (w.0.1, w.1.1)
  exports_sorted (part (label m) t ps) w = exports_sorted ps (w.0.1, w.1.1)
  exports_sorted (part (import m) t ps) w = exports_sorted ps (w.0.1, w.1.1)
  exports_sorted (part (core_import l m) t ps) w = exports_sorted ps (w.0.1, w.1.1)
  exports_sorted (part (core_export m) t ps) w = exports_sorted ps (w.0.1, w.1.1)

  tree_sorted : (t : Type_tree) → Sorted t → All Named_sorted (named_exports t)
  tree_sorted (node h ps) w = exports_sorted ps (w.0.1, w.1.1)

  abbrev OfSort : Identity × Type_tree → Type 0
  OfSort x = HasSort a x.0 (sort x.1)

  one_sorted : (o : Option Identity) (t : Type_tree) → ((i : Identity) → o ≡ Some i → HasSort a i (sort t)) → All OfSort (option_to_list (option_map (λ i. (i, t)) o))
  one_sorted None t h = All-nil OfSort
  one_sorted (Some i) t h = All-cons OfSort (i, t) [] (h i refl) (All-nil OfSort)

  -- both types of an entity are of one sort
  both_sorts : (t : Type_tree) → sort t ≡ is_type → EntitiesAlike t → sort (created t) ≡ sort (referenced t)
  both_sorts (node type_entity ps) e w = w.0 refl
  both_sorts (node _ ps) e w = cc

  first_sorted : (ps : Parts Name Name) → EachNodeIn (SortByIdentity a) ps → (i : Identity) → identity_at (head (first_part ps)) ≡ Some i → HasSort a i (sort (first_part ps))
  first_sorted none w i e = cc
  first_sorted (part r (node h qs) ps) w i e = w.0.0 i e

  found_sorted : (R : Type_tree → Bool) (h : Type_tree → List (Identity × Type_tree)) → ((b : Type_tree) → R b ≡ true → Sorted b → All OfSort (h b)) → (m : Text) (es : List (Text × Type_tree)) → All Named_sorted es →
      elim (entry m es) as (λ o. Bool) [ None ↦ false | Some x ↦ R x ] ≡ true → (xs : List (Identity × Type_tree)) → All OfSort xs → All OfSort (option_map_or h (lookup (bytes_eq m) es) [] ++ xs)
  found_sorted R h g m [] v e xs w = absurd (false≢true e)
  found_sorted R h g m (x ∷ es) v e xs w = go (bytes_eq m x.0) e (λ d. found_sorted R h g m es (All-tail Named_sorted x es v) d xs w)
    where
      go : (b : Bool) → elim (cond b (Some x.1) (lookup (bytes_eq m) es)) as (λ o. Bool) [ None ↦ false | Some y ↦ R y ] ≡ true →
          (elim (entry m es) as (λ o. Bool) [ None ↦ false | Some y ↦ R y ] ≡ true → All OfSort (option_map_or h (lookup (bytes_eq m) es) [] ++ xs)) → All OfSort (option_map_or h (cond b (Some x.1) (lookup (bytes_eq m) es)) [] ++ xs)
      go true d later = All-append OfSort (h x.1) xs (g x.1 d (All-head Named_sorted x es v)) w
      go false d later = later d

  same_sorts : (gs : List Group) (d k : ℕ) (f g : Reading Atom) (x y : Type_tree) → same_below (id_tests gs) d k f g x y ≡ true → sort x ≡ sort y
  same_sorts gs zero k f g x y e = absurd (false≢true e)
  same_sorts gs (suc d) k f g x y e = (sorts-decide (sort x) (sort y)).0 (and_left _ _ e)

  module _ (gs : List Group) where
    mutual
      given_by_sorted : (t : Type_tree) (d k : ℕ) (f g : Reading Atom) (b : Type_tree) → match_below (id_tests gs) d k f g b t ≡ true → Sorted b → Sorted t → All OfSort (given_by b t)
      given_by_sorted (node type_entity ps) zero k f g b m eb et = absurd (false≢true m)
      given_by_sorted (node type_entity ps) (suc d) k f g b m eb et =
          let t : Type_tree = node type_entity ps in
          let s : sort b ≡ is_type = (sorts-decide (sort b) (sort t)).0 (and_left _ _ m) in
          let q : match_as (id_tests gs) (same_below (id_tests gs) d) (match_below (id_tests gs) d) is_type k f g b t ≡ true =
          subst (λ (r : Sort). match_as (id_tests gs) (same_below (id_tests gs) d) (match_below (id_tests gs) d) r k f g b t ≡ true) s (and_right _ _ m) in
          let r : sort (referenced b) ≡ sort (referenced t) = same_sorts gs d k f g (referenced b) (referenced t) (and_left _ _ q) in
          let z : sort (created t) ≡ sort (created b) = both_sorts t refl et.0 ∙ sym r ∙ sym (both_sorts b s eb.0) in
          one_sorted (identity_at (head (created t))) (created b) (λ i e. subst (HasSort a i) z (first_sorted ps et.1.1 i e))
      given_by_sorted (node (instance i own) ps) zero k f g b m eb et = absurd (false≢true m)
      given_by_sorted (node (instance i own) ps) (suc d) k f g b m eb et =
          let t : Type_tree = node (instance i own) ps in
          let s : sort b ≡ is_instance = (sorts-decide (sort b) (sort t)).0 (and_left _ _ m) in
          let q : match_as (id_tests gs) (same_below (id_tests gs) d) (match_below (id_tests gs) d) is_instance k f g b t ≡ true =
          subst (λ (r : Sort). match_as (id_tests gs) (same_below (id_tests gs) d) (match_below (id_tests gs) d) r k f g b t ≡ true) s (and_right _ _ m) in
          given_in_sorted ps d (suc k) _ _ (named_exports b) q (tree_sorted b eb) (et.0.1, et.1.1)
      given_by_sorted (node nothing ps) d k f g b m eb et = All-nil OfSort
      given_by_sorted (node (primitive q) ps) d k f g b m eb et = All-nil OfSort
      given_by_sorted (node (resource r s) ps) d k f g b m eb et = All-nil OfSort
      given_by_sorted (node (defined i x) ps) d k f g b m eb et = All-nil OfSort
      given_by_sorted (node (func i x) ps) d k f g b m eb et = All-nil OfSort
      given_by_sorted (node (component i ins outs) ps) d k f g b m eb et = All-nil OfSort
      given_by_sorted (node (core_module i x) ps) d k f g b m eb et = All-nil OfSort
      given_by_sorted (node (core_instance i x) ps) d k f g b m eb et = All-nil OfSort
      given_by_sorted (node (core_type i) ps) d k f g b m eb et = All-nil OfSort
      given_by_sorted (node (core_item x) ps) d k f g b m eb et = All-nil OfSort

      given_in_sorted : (ps : Parts Name Name) (d k : ℕ) (f g : Reading Atom) (es : List (Text × Type_tree)) → list_all (found_in (match_below (id_tests gs) d k f g) es) (named_exports_in ps) ≡ true → All Named_sorted es → SortedIn ps → All OfSort (given_in es ps)
      given_in_sorted none d k f g es m ee ep = All-nil OfSort
      given_in_sorted (part (export x) t ps) d k f g es m ee ep =
          found_sorted (λ b. match_below (id_tests gs) d k f g b t) (λ b. given_by b t) (λ b q eb. given_by_sorted t d k f g b q eb (ep.0.0, ep.1.0)) x.name es ee (and_left _ _ m) (given_in es ps)
          (given_in_sorted ps d k f g es (and_right _ _ m) ee (ep.0.1, ep.1.1))
      given_in_sorted (part here t ps) d k f g es m ee ep = given_in_sorted ps d k f g es m ee (ep.0.1, ep.1.1)
      given_in_sorted (part (label l) t ps) d k f g es m ee ep = given_in_sorted ps d k f g es m ee (ep.0.1, ep.1.1)
      given_in_sorted (part (import x) t ps) d k f g es m ee ep = given_in_sorted ps d k f g es m ee (ep.0.1, ep.1.1)
      given_in_sorted (part (core_import l x) t ps) d k f g es m ee ep = given_in_sorted ps d k f g es m ee (ep.0.1, ep.1.1)
      given_in_sorted (part (core_export x) t ps) d k f g es m ee ep = given_in_sorted ps d k f g es m ee (ep.0.1, ep.1.1)

    given_for_sorted : (g : Reading Atom) (f : Reading Atom) (args is : List (Text × Type_tree)) → each_passes (match_pass (id_tests gs) 0 f g) args is ≡ true → All Named_sorted args → All Named_sorted is → All OfSort (given_for args is)
    given_for_sorted g f args [] m ea ei = All-nil OfSort
    given_for_sorted g f args (i ∷ is) m ea ei =
        found_sorted (λ b. match_pass (id_tests gs) 0 f g b i.1) (λ b. given_by b i.1) (λ b q e. given_by_sorted i.1 (enough b i.1) 0 f g b q e (All-head Named_sorted i is ei)) i.0 args ea (and_left _ _ m) (given_for args is)
        (given_for_sorted g f args is (and_right _ _ m) ea (All-tail Named_sorted i is ei))

  found_of : (i : Identity) (xs : List (Identity × Type_tree)) → All OfSort xs → (u : Type_tree) → lookup (same_identity i) xs ≡ Some u → HasSort a i (sort u)
  found_of i [] w u e = cc
  found_of i (x ∷ xs) w u e = go (same_identity i x.0) refl e (found_of i xs (All-tail OfSort x xs w) u)
    where
      go : (b : Bool) → same_identity i x.0 ≡ b → cond b (Some x.1) (lookup (same_identity i) xs) ≡ Some u → (lookup (same_identity i) xs ≡ Some u → HasSort a i (sort u)) → HasSort a i (sort u)
      go true f d later = let k : x.0 ≡ i = sym (identity_true i x.0 f) in let v : x.1 ≡ u = some-inj d in subst (λ (y : Identity × Type_tree). OfSort y) (λ j. (k j, v j)) (All-head OfSort x xs w)
      go false f d later = later d

  -- types of one sort by their trees are of one sort by their ids
  by_trees : (q r : Part) → Stands a q → Stands a r → sort (tree_at a q) ≡ sort (tree_at a r) → same_sort q r ≡ true
  by_trees q r sq sr e = eq-eqb (sort_number q) (sort_number r) (numbered q ∙ ap number_of (sym (sort_stands a q sq) ∙ e ∙ sort_stands a r sr) ∙ sym (numbered r))

  each_sorted : (es : List (Text × Type_tree)) → All (λ (e : Text × Type_tree). EntitiesAlike e.1) es → All (λ (e : Text × Type_tree). EachNode (SortByIdentity a) e.1) es → All Named_sorted es
  each_sorted [] h k = All-nil Named_sorted
  each_sorted (e ∷ es) h k =
      All-cons Named_sorted e es (All-head (λ (e : Text × Type_tree). EntitiesAlike e.1) e es h, All-head (λ (e : Text × Type_tree). EachNode (SortByIdentity a) e.1) e es k)
      (each_sorted es (All-tail (λ (e : Text × Type_tree). EntitiesAlike e.1) e es h) (All-tail (λ (e : Text × Type_tree). EachNode (SortByIdentity a) e.1) e es k))

  -- where arguments match their imports
  pub opening_sorted : (gs : List Group) (f g : Reading Atom) (args is : List (Text × Type_tree)) → All (λ (e : Text × Type_tree). EachNode (SortByIdentity a) e.1) args → All (λ (e : Text × Type_tree). EachNode (SortByIdentity a) e.1) is →
      each_passes (match_pass (id_tests gs) 0 f g) args is ≡ true → All (λ (e : Text × Type_tree). EntitiesAlike e.1) args → All (λ (e : Text × Type_tree). EntitiesAlike e.1) is →
      (q : Part) (s : Sent) → IsGiven a (given_for args is) q s → same_sort q s.to ≡ true
  opening_sorted gs f g args is sa si m aa ai q s w =
      by_trees q s.to w.stands w.goes (found_of (identity_of q) (given_for args is) (given_for_sorted gs g f args is m (each_sorted args aa sa) (each_sorted is ai si)) (tree_at a s.to) w.tree q w.stands w.inside refl)
