-- Where types are even, no node that arguments give owns what a type around it owns: it is too low.
use Rattle.std.proofs.Common.{◌≡◌, ℕ, zero, suc, ◌<◌, List, [], ◌∷◌, ◌++◌, refl, sym, ◌∙◌, ap, subst, arith, Bool, true, false, cond, Some, None, bytes_eq}
use Rattle.std.specs.Prelude.{Option, All, not, option_to_list}
use Rattle.std.specs.List.{list_all}
use Rattle.std.specs.Map.{lookup}
use Rattle.std.specs.Option.{option_map, option_map_or, option_and_then}
use Rattle.std.proofs.lemmas.Bool.{false≢true}
use Rattle.std.proofs.lemmas.List.Elements.{All-nil, All-cons, All-append, All-head, All-tail}
use Rattle.wcv_core.specs.CoreForm.{Group}
use Rattle.wcv_core.specs.Names.{Name, Place}
use Rattle.wcv_core.proofs.Names.{same-true}
use Rattle.wcv_syntax.specs.Model.{Instance_form, instantiate, bag}
use Rattle.wcv_syntax.specs.declared.instance.ComponentInstantiationArg.{ComponentInstantiationArg}
use Rattle.wcv_types.specs.Identity.{Identity, of_node, of_reference, identity_at, same_identity}
use Rattle.wcv_types.specs.Replacing.{Replacement, given_at}
use Rattle.wcv_types.specs.Resources.{owns}
use Rattle.wcv_types.specs.Tree as tree
use Rattle.wcv_types.specs.Tree.{Text, Extern_name, Role, Head, here, label, import, export, core_import, core_export, nothing, primitive, resource, defined, func, instance, component, type_entity, core_module, core_instance, core_type, core_item, node, Parts, none, part, head, sort, first_part, referenced, Sort, is_instance, is_type, exports_in, exports}
use Rattle.wcv_types.specs.Unfold.{Type_tree}
use Rattle.wcv_types.proofs.Lists.{some-inj}
use Rattle.wcv_matching.specs.AtomTests.{id_tests}
use Rattle.wcv_matching.specs.Formed.{IsFormed}
use Rattle.wcv_matching.specs.Matching.{Reading, named, named_exports, named_imports, named_exports_in, named_imports_in, opened_by}
use Rattle.wcv_matching.specs.NamedPaths.{entry}
use Rattle.wcv_matching.specs.OnePass.{Atom, given, found_in, same_below, match_as, match_below, match_pass, enough, argument_for}
use Rattle.wcv_matching.specs.Orderly.{EachNode, EachNodeIn, AreNamedApart, height, heights}
use Rattle.wcv_matching.proofs.PassSame.{and_left, and_right, sorts-decide}
use Rattle.wcv_matching.proofs.SameHeights.{Fine, entity_tall, same_height}
use Rattle.wcv_lower.specs.Checks.{is_none}
use Rattle.wcv_lower.specs.Even.{Heights, GoesBy, IsEven}
use Rattle.wcv_lower.specs.Instances.{component_at, argument_at, arguments, if_opened, opened, instance_of_component, instance_made, instance_joins, argument_values, instance_step}
use Rattle.wcv_lower.specs.Marks.{uses_each}
use Rattle.wcv_matching.specs.GivenTypes.{given_by, given_in, given_for}
use Rattle.wcv_lower.specs.Instantiated.{opening}
use Rattle.wcv_lower.specs.Names.{Names}
use Rattle.wcv_lower.specs.Owned.{OwnsNot, OwnsNotIn, EachGiven, EachGivenIn, GivesApart, GivesApartIn, InstanceApart, AllEntries}
use Rattle.wcv_lower.specs.Declared.{applied}
use Rattle.wcv_lower.specs.Step.{apply}
use Rattle.wcv_lower.specs.Trees.{tree_reader, Tree_stack, tree_maker}
use Rattle.wcv_lower.proofs.Bringing.{of_some, map-some}
use Rattle.wcv_lower.proofs.Instantiating.{arguments_have, component_has}

same_one : (i j : Identity) → same_identity i j ≡ true → i ≡ j
same_one (of_node a) (of_node b) e = ap of_node (same-true a b e)
same_one (of_reference r x) (of_reference q y) e =
    let d : r ≡ q = same-true r q (and_left _ _ e) in
    let f : x ≡ y = same-true x y (and_right _ _ e) in
    (λ j. of_reference (d j) (f j))
same_one (of_node a) (of_reference q y) e = absurd (false≢true e)
same_one (of_reference r x) (of_node b) e = absurd (false≢true e)

module _ (w : Heights) where
  abbrev Even : Type_tree → Type 0
  Even t = IsEven w t

  fine : (t : Type_tree) → IsEven w t → Fine t
  fine t e = (e.0, e.1)

  -- all parts of an even type are even
  abbrev EvenIn : Parts Name Name → Type 0
  EvenIn ps = EachNodeIn (λ h qs. AreNamedApart qs) ps × EachNodeIn IsFormed ps × EachNodeIn (GoesBy w) ps

  even_parts : (h : Head Name Name) (ps : Parts Name Name) → IsEven w (node h ps) → EvenIn ps
  even_parts h ps e = (e.0.1, e.1.1, e.2.1)

  first_even : (r : Role) (t : Type_tree) (ps : Parts Name Name) → EvenIn (part r t ps) → IsEven w t
  first_even r t ps e = (e.0.0, e.1.0, e.2.0)

  rest_even : (r : Role) (t : Type_tree) (ps : Parts Name Name) → EvenIn (part r t ps) → EvenIn ps
  rest_even r t ps e = (e.0.1, e.1.1, e.2.1)

  abbrev Named_even : Text × Type_tree → Type 0
  Named_even e = IsEven w e.1

  exports_even : (ps : Parts Name Name) → EvenIn ps → All Named_even (named_exports_in ps)
  exports_even none e = All-nil Named_even
  exports_even (part (export n) t ps) e = All-cons Named_even (n.name, t) (named_exports_in ps) (first_even (export n) t ps e) (exports_even ps (rest_even (export n) t ps e))
  exports_even (part here t ps) e = exports_even ps (rest_even here t ps e)
  exports_even (part (label l) t ps) e = exports_even ps (rest_even (label l) t ps e)
  exports_even (part (import n) t ps) e = exports_even ps (rest_even (import n) t ps e)
  exports_even (part (core_import m n) t ps) e = exports_even ps (rest_even (core_import m n) t ps e)
  exports_even (part (core_export n) t ps) e = exports_even ps (rest_even (core_export n) t ps e)

  imports_even : (ps : Parts Name Name) → EvenIn ps → All Named_even (named_imports_in ps)
  imports_even none e = All-nil Named_even
  imports_even (part (import n) t ps) e = All-cons Named_even (n.name, t) (named_imports_in ps) (first_even (import n) t ps e) (imports_even ps (rest_even (import n) t ps e))
  imports_even (part here t ps) e = imports_even ps (rest_even here t ps e)
  imports_even (part (label l) t ps) e = imports_even ps (rest_even (label l) t ps e)
  imports_even (part (export n) t ps) e = imports_even ps (rest_even (export n) t ps e)
  imports_even (part (core_import m n) t ps) e = imports_even ps (rest_even (core_import m n) t ps e)
  imports_even (part (core_export n) t ps) e = imports_even ps (rest_even (core_export n) t ps e)

  all_exports_even : (t : Type_tree) → IsEven w t → All Named_even (named_exports t)
  all_exports_even (node h ps) e = exports_even ps (even_parts h ps e)

  all_imports_even : (t : Type_tree) → IsEven w t → All Named_even (named_imports t)
  all_imports_even (node h ps) e = imports_even ps (even_parts h ps e)

  -- ## What is given has the height of that in whose place it is given, and goes by the same heights

  abbrev OfHeight : Identity × Type_tree → Type 0
  OfHeight x = (height x.1 ≡ w.node_of x.0) × EachNode (GoesBy w) x.1

  one_high : (o : Option Identity) (t : Type_tree) → EachNode (GoesBy w) t → ((i : Identity) → o ≡ Some i → height t ≡ w.node_of i) → All OfHeight (option_to_list (option_map (λ i. (i, t)) o))
  one_high None t e h = All-nil OfHeight
  one_high (Some i) t e h = All-cons OfHeight (i, t) [] (h i refl, e) (All-nil OfHeight)

  first_goes : (ps : Parts Name Name) → EachNodeIn (GoesBy w) ps → EachNode (GoesBy w) (first_part ps)
  first_goes none e = (((λ i q. cc), (λ r q. absurd (false≢true q))), tt)
  first_goes (part r t ps) e = e.0

  created_goes : (a : Type_tree) → IsEven w a → EachNode (GoesBy w) (tree.created a)
  created_goes (node h ps) e = first_goes ps e.2.1

  created_high : (ps : Parts Name Name) → EvenIn ps → (i : Identity) → identity_at (head (first_part ps)) ≡ Some i → height (first_part ps) ≡ w.node_of i
  created_high none e i q = cc
  created_high (part r (node h qs) ps) e i q = e.2.0.0.0 i q

  -- of what was found, and what lies behind
  found_high : (R : Type_tree → Bool) (h : Type_tree → List (Identity × Type_tree)) → ((a : Type_tree) → R a ≡ true → IsEven w a → All OfHeight (h a)) → (n : Text) (es : List (Text × Type_tree)) → All Named_even es →
      elim (entry n es) as (λ o. Bool) [ None ↦ false | Some x ↦ R x ] ≡ true → (xs : List (Identity × Type_tree)) → All OfHeight xs → All OfHeight (option_map_or h (lookup (bytes_eq n) es) [] ++ xs)
  found_high R h g n [] v e xs a = absurd (false≢true e)
  found_high R h g n (x ∷ es) v e xs a = go (bytes_eq n x.0) e (λ d. found_high R h g n es (All-tail Named_even x es v) d xs a)
    where
      go : (b : Bool) → elim (cond b (Some x.1) (lookup (bytes_eq n) es)) as (λ o. Bool) [ None ↦ false | Some y ↦ R y ] ≡ true →
          (elim (entry n es) as (λ o. Bool) [ None ↦ false | Some y ↦ R y ] ≡ true → All OfHeight (option_map_or h (lookup (bytes_eq n) es) [] ++ xs)) → All OfHeight (option_map_or h (cond b (Some x.1) (lookup (bytes_eq n) es)) [] ++ xs)
      go true d later = All-append OfHeight (h x.1) xs (g x.1 d (All-head Named_even x es v)) a
      go false d later = later d

  module _ (gs : List Group) where
    mutual
      given_by_high : (t : Type_tree) (d k : ℕ) (f g : Reading Atom) (a : Type_tree) → match_below (id_tests gs) d k f g a t ≡ true → IsEven w a → IsEven w t → All OfHeight (given_by a t)
      given_by_high (node type_entity ps) zero k f g a m ea et = absurd (false≢true m)
      given_by_high (node type_entity ps) (suc d) k f g a m ea et =
          let t : Type_tree = node type_entity ps in
          let s : sort a ≡ is_type = (sorts-decide (sort a) (sort t)).0 (and_left _ _ m) in
          let q : match_as (id_tests gs) (same_below (id_tests gs) d) (match_below (id_tests gs) d) is_type k f g a t ≡ true =
          subst (λ (r : Sort). match_as (id_tests gs) (same_below (id_tests gs) d) (match_below (id_tests gs) d) r k f g a t ≡ true) s (and_right _ _ m) in
          let x = entity_tall a s (fine a ea) in
          let y = entity_tall t refl (fine t et) in
          let r : height (referenced a) ≡ height (referenced t) = same_height gs d k f g (referenced a) (referenced t) (and_left _ _ q) x.inside y.inside in
          one_high (identity_at (head (tree.created t))) (tree.created a) (created_goes a ea) (λ i z. x.both ∙ r ∙ sym y.both ∙ created_high ps (even_parts type_entity ps et) i z)
      given_by_high (node (instance i own) ps) zero k f g a m ea et = absurd (false≢true m)
      given_by_high (node (instance i own) ps) (suc d) k f g a m ea et =
          let t : Type_tree = node (instance i own) ps in
          let s : sort a ≡ is_instance = (sorts-decide (sort a) (sort t)).0 (and_left _ _ m) in
          let q : match_as (id_tests gs) (same_below (id_tests gs) d) (match_below (id_tests gs) d) is_instance k f g a t ≡ true =
          subst (λ (r : Sort). match_as (id_tests gs) (same_below (id_tests gs) d) (match_below (id_tests gs) d) r k f g a t ≡ true) s (and_right _ _ m) in
          given_in_high ps d (suc k) _ _ (named (exports a)) q (all_exports_even a ea) (even_parts (instance i own) ps et)
      given_by_high (node nothing ps) d k f g a m ea et = All-nil OfHeight
      given_by_high (node (primitive p) ps) d k f g a m ea et = All-nil OfHeight
      given_by_high (node (resource r s) ps) d k f g a m ea et = All-nil OfHeight
      given_by_high (node (defined i x) ps) d k f g a m ea et = All-nil OfHeight
      given_by_high (node (func i b) ps) d k f g a m ea et = All-nil OfHeight
      given_by_high (node (component i ins outs) ps) d k f g a m ea et = All-nil OfHeight
      given_by_high (node (core_module i n) ps) d k f g a m ea et = All-nil OfHeight
      given_by_high (node (core_instance i n) ps) d k f g a m ea et = All-nil OfHeight
      given_by_high (node (core_type i) ps) d k f g a m ea et = All-nil OfHeight
      given_by_high (node (core_item x) ps) d k f g a m ea et = All-nil OfHeight

      given_in_high : (ps : Parts Name Name) (d k : ℕ) (f g : Reading Atom) (es : List (Text × Type_tree)) → list_all (found_in (match_below (id_tests gs) d k f g) es) (named_exports_in ps) ≡ true → All Named_even es → EvenIn ps → All OfHeight (given_in es ps)
      given_in_high none d k f g es m ee ep = All-nil OfHeight
      given_in_high (part (export n) t ps) d k f g es m ee ep =
          found_high (λ a. match_below (id_tests gs) d k f g a t) (λ a. given_by a t) (λ a q ea. given_by_high t d k f g a q ea (first_even (export n) t ps ep)) n.name es ee (and_left _ _ m) (given_in es ps)
          (given_in_high ps d k f g es (and_right _ _ m) ee (rest_even (export n) t ps ep))
      given_in_high (part here t ps) d k f g es m ee ep = given_in_high ps d k f g es m ee (rest_even here t ps ep)
      given_in_high (part (label l) t ps) d k f g es m ee ep = given_in_high ps d k f g es m ee (rest_even (label l) t ps ep)
      given_in_high (part (import n) t ps) d k f g es m ee ep = given_in_high ps d k f g es m ee (rest_even (import n) t ps ep)
      given_in_high (part (core_import a n) t ps) d k f g es m ee ep = given_in_high ps d k f g es m ee (rest_even (core_import a n) t ps ep)
      given_in_high (part (core_export n) t ps) d k f g es m ee ep = given_in_high ps d k f g es m ee (rest_even (core_export n) t ps ep)

    given_for_high : (g : Reading Atom) (args is : List (Text × Type_tree)) → list_all (found_in (match_pass (id_tests gs) 0 given g) args) is ≡ true → All Named_even args → All Named_even is → All OfHeight (given_for args is)
    given_for_high g args [] m ea ei = All-nil OfHeight
    given_for_high g args (i ∷ is) m ea ei =
        found_high (λ a. match_pass (id_tests gs) 0 given g a i.1) (λ a. given_by a i.1) (λ a q e. given_by_high i.1 (enough a i.1) 0 given g a q e (All-head Named_even i is ei)) i.0 args ea (and_left _ _ m) (given_for args is)
        (given_for_high g args is (and_right _ _ m) ea (All-tail Named_even i is ei))

  -- ## So it owns nothing that is owned around it

  -- a type that is lower than each owner of the resource
  mutual
    low_owns_not : (r : Name) (t : Type_tree) → EachNode (GoesBy w) t → height t < w.owner_of r → OwnsNot r t
    low_owns_not r (node h ps) e l = (no_owner (owns h r) refl, low_own_not r ps e.1 (omega (arith, l)))
      where
        no_owner : (b : Bool) → owns h r ≡ b → owns h r ≡ false
        no_owner false q = q
        no_owner true q = let d : suc (heights ps) ≡ w.owner_of r = e.0.1 r q in absurd (omega (arith, d, l))

    low_own_not : (r : Name) (ps : Parts Name Name) → EachNodeIn (GoesBy w) ps → heights ps < w.owner_of r → OwnsNotIn r ps
    low_own_not r none e l = tt
    low_own_not r (part k t ps) e l = (low_owns_not r t e.0 (omega (arith, l)), low_own_not r ps e.1 (omega (arith, l)))

  module _ (m : Replacement) (high : (i : Identity) (u : Type_tree) → m.nodes i ≡ Some u → height u ≡ w.node_of i) (even : (i : Identity) (u : Type_tree) → m.nodes i ≡ Some u → EachNode (GoesBy w) u) where
    given_low : (h : Head Name Name) (r : Name) (n : ℕ) → ((i : Identity) → identity_at h ≡ Some i → n ≡ w.node_of i) → n < w.owner_of r → (u : Type_tree) → given_at m h ≡ Some u → OwnsNot r u
    given_low h r n e l u = go (identity_at h) e
      where
        go : (o : Option Identity) → ((i : Identity) → o ≡ Some i → n ≡ w.node_of i) → elim o as (λ o. Option Type_tree) [ None ↦ None | Some i ↦ m.nodes i ] ≡ Some u → OwnsNot r u
        go None e q = cc
        go (Some i) e q =
            let a : n ≡ w.node_of i = e i refl in
            let b : height u ≡ w.node_of i = high i u q in
            low_owns_not r u (even i u q) (omega (arith, a, b, l))

    mutual
      each_low : (r : Name) (t : Type_tree) → EachNode (GoesBy w) t → height t < w.owner_of r → EachGiven m (OwnsNot r) t
      each_low r (node h ps) e l = (given_low h r (suc (heights ps)) e.0.0 l, each_low_in r ps e.1 (omega (arith, l)))

      each_low_in : (r : Name) (ps : Parts Name Name) → EachNodeIn (GoesBy w) ps → heights ps < w.owner_of r → EachGivenIn m (OwnsNot r) ps
      each_low_in r none e l = tt
      each_low_in r (part k t ps) e l = (each_low r t e.0 (omega (arith, l)), each_low_in r ps e.1 (omega (arith, l)))

    mutual
      apart_low : (t : Type_tree) → EachNode (GoesBy w) t → GivesApart m t
      apart_low (node h ps) e = ((λ r o. let d : suc (heights ps) ≡ w.owner_of r = e.0.1 r o in each_low_in r ps e.1 (omega (arith, d))), apart_low_in ps e.1)

      apart_low_in : (ps : Parts Name Name) → EachNodeIn (GoesBy w) ps → GivesApartIn m ps
      apart_low_in none e = tt
      apart_low_in (part k t ps) e = (apart_low t e.0, apart_low_in ps e.1)

    exports_apart : (ps : Parts Name Name) → EachNodeIn (GoesBy w) ps → All (λ (e : Extern_name × Type_tree). GivesApart m e.1) (exports_in ps)
    exports_apart none e = All-nil (λ (e : Extern_name × Type_tree). GivesApart m e.1)
    exports_apart (part (export n) t ps) e = All-cons (λ (e : Extern_name × Type_tree). GivesApart m e.1) (n, t) (exports_in ps) (apart_low t e.0) (exports_apart ps e.1)
    exports_apart (part here t ps) e = exports_apart ps e.1
    exports_apart (part (label l) t ps) e = exports_apart ps e.1
    exports_apart (part (import n) t ps) e = exports_apart ps e.1
    exports_apart (part (core_import a n) t ps) e = exports_apart ps e.1
    exports_apart (part (core_export n) t ps) e = exports_apart ps e.1

  -- ## An instantiation

  found_node : (i : Identity) (xs : List (Identity × Type_tree)) → All OfHeight xs → (u : Type_tree) → lookup (same_identity i) xs ≡ Some u → OfHeight (i, u)
  found_node i [] a u e = cc
  found_node i (x ∷ xs) a u e = go (same_identity i x.0) refl e (found_node i xs (All-tail OfHeight x xs a) u)
    where
      go : (b : Bool) → same_identity i x.0 ≡ b → cond b (Some x.1) (lookup (same_identity i) xs) ≡ Some u → (lookup (same_identity i) xs ≡ Some u → OfHeight (i, u)) → OfHeight (i, u)
      go true q d later =
          let k : x.0 ≡ i = sym (same_one i x.0 q) in
          let v : x.1 ≡ u = some-inj d in
          subst (λ (y : Identity × Type_tree). OfHeight y) (λ j. (k j, v j)) (All-head OfHeight x xs a)
      go false q d later = later d

  opening_high : (gs : List Group) (names : Names) (p : Place) (args : List (Text × Type_tree)) (c : Type_tree) → All Named_even args → IsEven w c → tree_reader.opens gs args c ≡ true →
      (i : Identity) (u : Type_tree) → (opening names p args c).nodes i ≡ Some u → OfHeight (i, u)
  opening_high gs names p args c ea ec o i u e =
      found_node i (given_for args (named_imports c)) (given_for_high gs (λ r. given (opened_by (argument_for args c) c r)) args (named_imports c) o ea (all_imports_even c ec)) u e

  opening_apart : (gs : List Group) (names : Names) (p : Place) (args : List (Text × Type_tree)) (c : Type_tree) → All Named_even args → IsEven w c → tree_reader.opens gs args c ≡ true →
      All (λ (e : Extern_name × Type_tree). GivesApart (opening names p args c) e.1) (exports c)
  opening_apart gs names p args (node h ps) ea ec o =
      let high = opening_high gs names p args (node h ps) ea ec o in
      exports_apart (opening names p args (node h ps)) (λ i u e. (high i u e).0) (λ i u e. (high i u e).1) ps ec.2.1

-- a component that was opened is one that the arguments open
opened_opens : (s : Tree_stack) (i : ℕ) (args : List ComponentInstantiationArg) (o : List (Text × Type_tree) × Type_tree) → opened s i args ≡ Some o → (c : Type_tree) → component_at s.top i ≡ Some c → tree_reader.opens s.groups (arguments s.top args) c ≡ true
opened_opens s i args o e c q =
    by_all (list_all (λ (a : ComponentInstantiationArg). not (is_none (argument_at s.top a))) args)
    (ap (λ (x : Option Type_tree). cond (list_all (λ (a : ComponentInstantiationArg). not (is_none (argument_at s.top a))) args) (option_and_then (if_opened tree_reader s.groups (arguments s.top args)) x) None) (sym q) ∙ e)
  where
    by_test : (b : Bool) → cond {A = Option (List (Text × Type_tree) × Type_tree)} b (Some (arguments s.top args, c)) None ≡ Some o → b ≡ true
    by_test true d = refl
    by_test false d = cc

    by_all : (b : Bool) → cond b (option_and_then (if_opened tree_reader s.groups (arguments s.top args)) (Some c)) None ≡ Some o → tree_reader.opens s.groups (arguments s.top args) c ≡ true
    by_all true d = by_test (tree_reader.opens s.groups (arguments s.top args) c) d
    by_all false d = cc

-- an instantiation that is made: the arguments and the component are even, and what is given is of the height of that in whose place it stands
module _ (w : Heights) (names : Names) (p : Place) (s t : Tree_stack) (i : ℕ) (args : List ComponentInstantiationArg) (all : AllEntries (IsEven w) s.top) (e : applied s (instance_step (tree_maker names p) s (instantiate i args)) ≡ Some t) (c : Type_tree) (q : component_at s.top i ≡ Some c) where
  arguments_open : tree_reader.opens s.groups (arguments s.top args) c ≡ true
  arguments_open =
      let x = map-some (λ y. apply y s) (instance_step (tree_maker names p) s (instantiate i args)) t e in
      let u = map-some (λ q. uses_each (argument_values args) ++ q) (option_map instance_joins (instance_made (tree_maker names p) s (instantiate i args))) x.0 x.1 in
      let y = map-some instance_joins (instance_made (tree_maker names p) s (instantiate i args)) u.0 u.1 in
      let z = map-some (instance_of_component (tree_maker names p)) (opened s i args) y.0 y.1 in
      opened_opens s i args z.0 z.1 c q

  even_arguments : All (Named_even w) (arguments s.top args)
  even_arguments = arguments_have (IsEven w) s.top all args

  pub even_component : IsEven w c
  even_component = of_some (IsEven w) (component_at s.top i) c (component_has (IsEven w) s.top all i) q

  pub given_high : (j : Identity) (u : Type_tree) → (opening names p (arguments s.top args) c).nodes j ≡ Some u → height u ≡ w.node_of j
  given_high j u d = (opening_high w s.groups names p (arguments s.top args) c even_arguments even_component arguments_open j u d).0

  given_apart : All (λ (x : Extern_name × Type_tree). GivesApart (opening names p (arguments s.top args) c) x.1) (exports c)
  given_apart = opening_apart w s.groups names p (arguments s.top args) c even_arguments even_component arguments_open

pub even_apart : (w : Heights) (names : Names) (p : Place) (s t : Tree_stack) (i : Instance_form) → AllEntries (IsEven w) s.top → applied s (instance_step (tree_maker names p) s i) ≡ Some t → InstanceApart names p s i
even_apart w names p s t (instantiate i args) all e = λ c q. given_apart w names p s t i args all e c q
even_apart w names p s t (bag es) all e = tt
