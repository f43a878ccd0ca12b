-- An instance of a component, by place: what is free in it is free in the component or in an argument, or is new.
use Rattle.std.proofs.Common.{◌≡◌, ℕ, zero, suc, List, [], ◌∷◌, map, Bool, true, false, ◌||◌, cond, refl, sym, ◌∙◌, ap, subst, Some, None, ◌⊎◌, inl, inr, ⊎_elim, bytes_eq}
use Rattle.std.specs.Prelude.{Option, All, Contains, slice_get, option_to_list}
use Rattle.std.specs.Map.{lookup}
use Rattle.std.specs.Option.{option_map, option_map_or}
use Rattle.std.proofs.lemmas.Bool.{false≢true, or_cases}
use Rattle.std.proofs.lemmas.List.Elements.{All-nil, All-cons, All-append, All-head, All-tail, All-weaker}
use Rattle.wcv_core.specs.CoreForm.{Group}
use Rattle.wcv_core.specs.Names.{Name, Place, at, member, same}
use Rattle.wcv_core.proofs.Names.{same-true}
use Rattle.wcv_types.specs.Identity.{Identity, identity_at, same_identity}
use Rattle.wcv_types.specs.Paths.{IsTypeOf, PathLeadsTo}
use Rattle.wcv_types.specs.Replacing.{Replacement, replaced}
use Rattle.wcv_types.specs.Resources.{owns, RefersTo, Free, FreeIn}
use Rattle.wcv_types.specs.Tree as tree
use Rattle.wcv_types.specs.Tree.{Text, Head, here, label, import, export, core_import, core_export, nothing, primitive, resource, defined, func, instance, component, type_entity, core_module, core_instance, core_type, core_item, node, Parts, none, part, entries, first_part, rest_parts, firsts, head, sort, Sort, is_instance, is_type, is_resource, referenced, exports_in, exports}
use Rattle.wcv_types.specs.Unfold.{Type_tree}
use Rattle.wcv_types.proofs.Lists.{some-inj}
use Rattle.wcv_matching.specs.AtomTests.{id_tests}
use Rattle.wcv_matching.specs.GivenTypes.{given_by, given_in, given_for}
use Rattle.wcv_matching.specs.Matching.{Reading, named, named_exports, named_imports, named_exports_in, opened_by}
use Rattle.wcv_matching.specs.NamedPaths.{entry, follow, resource_at}
use Rattle.wcv_matching.specs.OnePass.{Atom, given, found_in, each_passes, same_below, match_as, match_below, match_pass, enough, argument_for, opens_pass}
use Rattle.wcv_matching.specs.Orderly.{EachNodeIn}
use Rattle.wcv_matching.proofs.BothWays.{Leads, leads_named, then-then}
use Rattle.wcv_matching.proofs.Entries.{among}
use Rattle.wcv_matching.proofs.PassSame.{and_left, and_right, sorts-decide, passes, counterpart-some}
use Rattle.wcv_lower.specs.Instantiated.{opening, instantiated, instantiated_resources}
use Rattle.wcv_lower.specs.Mapped.{map_entries}
use Rattle.wcv_lower.specs.Names.{names_by_place}
use Rattle.wcv_lower.specs.Trees.{Entries}
use Rattle.wcv_growth.proofs.Bare.{OwnsNothing, EntriesOwnNothing, IsBare}
use Rattle.wcv_growth.proofs.Having.{Has}
use Rattle.wcv_growth.proofs.OpenedInstances.{Stays, free-replaced, stays-more}
use Rattle.wcv_growth.proofs.Sound.{IsSound}

-- ## Named entries

-- the resource is free in one of them
abbrev pub FreeAmong : {K : Type 0} → Name → List (K × Type_tree) → Type 0
FreeAmong r [] = ⊥
FreeAmong r (e ∷ es) = Free r e.1 ⊎ FreeAmong r es

abbrev AllBare : List (Text × Type_tree) → Type 0
AllBare es = All (λ e. IsBare e.1) es

-- so it is where it is free in one that is found
found-free : (n : Text) (es : List (Text × Type_tree)) (x : Type_tree) (r : Name) → entry n es ≡ Some x → Free r x → FreeAmong r es
found-free n [] x r e f = cc
found-free n (y ∷ es) x r e f = go (bytes_eq n y.0) e (λ d. found-free n es x r d f)
  where
    go : (b : Bool) → cond b (Some y.1) (lookup (bytes_eq n) es) ≡ Some x → (entry n es ≡ Some x → FreeAmong r es) → Free r y.1 ⊎ FreeAmong r es
    go true d further = inl (subst (Free r) (sym (some-inj d)) f)
    go false d further = inr (further d)

found-bare : (n : Text) (es : List (Text × Type_tree)) (x : Type_tree) → AllBare es → entry n es ≡ Some x → IsBare x
found-bare n [] x w e = cc
found-bare n (y ∷ es) x w e = go (bytes_eq n y.0) e (found-bare n es x (All-tail (λ (e : Text × Type_tree). IsBare e.1) y es w))
  where
    go : (b : Bool) → cond b (Some y.1) (lookup (bytes_eq n) es) ≡ Some x → (entry n es ≡ Some x → IsBare x) → IsBare x
    go true d further = subst IsBare (some-inj d) (All-head (λ (e : Text × Type_tree). IsBare e.1) y es w)
    go false d further = further d

-- ## Exports

exports-bare_in : (ps : Parts Name Name) → EntriesOwnNothing ps → EachNodeIn (λ h qs. EntriesOwnNothing qs) ps → AllBare (named_exports_in ps)
exports-bare_in none w a = All-nil (λ (e : Text × Type_tree). IsBare e.1)
exports-bare_in (part (export n) t ps) w a = All-cons (λ (e : Text × Type_tree). IsBare e.1) (n.name, t) (named_exports_in ps) (w.0, a.0) (exports-bare_in ps w.1 a.1)
exports-bare_in (part (import n) t ps) w a = exports-bare_in ps w.1 a.1
exports-bare_in (part here t ps) w a = exports-bare_in ps w a.1
exports-bare_in (part (label l) t ps) w a = exports-bare_in ps w a.1
exports-bare_in (part (core_import m n) t ps) w a = exports-bare_in ps w a.1
exports-bare_in (part (core_export n) t ps) w a = exports-bare_in ps w a.1

exports-bare : (t : Type_tree) → IsBare t → AllBare (named_exports t)
exports-bare (node h ps) w = exports-bare_in ps w.1.0 w.1.1

exports-free : (ps : Parts Name Name) (r : Name) → FreeAmong r (exports_in ps) → FreeIn r ps
exports-free none r f = absurd f
exports-free (part (export n) t ps) r (inl f) = inl f
exports-free (part (export n) t ps) r (inr f) = inr (exports-free ps r f)
exports-free (part (import n) t ps) r f = inr (exports-free ps r f)
exports-free (part here t ps) r f = inr (exports-free ps r f)
exports-free (part (label l) t ps) r f = inr (exports-free ps r f)
exports-free (part (core_import m n) t ps) r f = inr (exports-free ps r f)
exports-free (part (core_export n) t ps) r f = inr (exports-free ps r f)

unnamed-free : (es : Entries) (r : Name) → FreeAmong r (named es) → FreeAmong r es
unnamed-free [] r f = absurd f
unnamed-free (e ∷ es) r (inl f) = inl f
unnamed-free (e ∷ es) r (inr f) = inr (unnamed-free es r f)

-- what is free in an export of an instance is free in the instance
pub instance-free : (t : Type_tree) (r : Name) → sort t ≡ is_instance → OwnsNothing t → FreeAmong r (named_exports t) → Free r t
instance-free (node (instance i own) ps) r e w f = inr (ap (λ (rs : List Name). member r rs) w, exports-free ps r (unnamed-free (exports_in ps) r f))
instance-free (node nothing ps) r e w f = absurd (cc)
instance-free (node (primitive p) ps) r e w f = absurd (cc)
instance-free (node (resource q x) ps) r e w f = absurd (cc)
instance-free (node (defined i k) ps) r e w f = absurd (cc)
instance-free (node (func i b) ps) r e w f = absurd (cc)
instance-free (node (component i ins outs) ps) r e w f = absurd (cc)
instance-free (node type_entity ps) r e w f = absurd (cc)
instance-free (node (core_module i n) ps) r e w f = absurd (cc)
instance-free (node (core_instance i n) ps) r e w f = absurd (cc)
instance-free (node (core_type i) ps) r e w f = absurd (cc)
instance-free (node (core_item x) ps) r e w f = absurd (cc)

-- ## Entries of types

nothing-free : (r : Name) → Free {I = Name} r (node nothing none) → ⊥
nothing-free r (inl x) = absurd x
nothing-free r (inr x) = absurd x.1

first-free : (ps : Parts Name Name) (r : Name) → Free r (first_part ps) → FreeIn r ps
first-free none r f = absurd (nothing-free r f)
first-free (part k t ps) r f = inl f

second-free : (ps : Parts Name Name) (r : Name) → Free r (first_part (rest_parts ps)) → FreeIn r ps
second-free none r f = absurd (nothing-free r f)
second-free (part k t ps) r f = inr (first-free ps r f)

-- what is free in one of both types is free in the entry
both-free : (t : Type_tree) (r : Name) → sort t ≡ is_type → Free r (tree.created t) ⊎ Free r (referenced t) → Free r t
both-free (node type_entity ps) r e (inl f) = inr (refl, first-free ps r f)
both-free (node type_entity ps) r e (inr f) = inr (refl, second-free ps r f)
both-free (node nothing ps) r e f = absurd (cc)
both-free (node (primitive p) ps) r e f = absurd (cc)
both-free (node (resource q x) ps) r e f = absurd (cc)
both-free (node (defined i k) ps) r e f = absurd (cc)
both-free (node (func i b) ps) r e f = absurd (cc)
both-free (node (component i ins outs) ps) r e f = absurd (cc)
both-free (node (instance i own) ps) r e f = absurd (cc)
both-free (node (core_module i n) ps) r e f = absurd (cc)
both-free (node (core_instance i n) ps) r e f = absurd (cc)
both-free (node (core_type i) ps) r e f = absurd (cc)
both-free (node (core_item x) ps) r e f = absurd (cc)

-- a type whose sort is that of references is one
reference-there : (t : Type_tree) → sort t ≡ is_resource → (q : Name) × (resource_at (head t) ≡ Some q) × Free q t
reference-there (node (resource q x) ps) e = (q, refl, inl refl)
reference-there (node nothing ps) e = absurd (cc)
reference-there (node (primitive p) ps) e = absurd (cc)
reference-there (node (defined i k) ps) e = absurd (cc)
reference-there (node (func i b) ps) e = absurd (cc)
reference-there (node (component i ins outs) ps) e = absurd (cc)
reference-there (node (instance i own) ps) e = absurd (cc)
reference-there (node type_entity ps) e = absurd (cc)
reference-there (node (core_module i n) ps) e = absurd (cc)
reference-there (node (core_instance i n) ps) e = absurd (cc)
reference-there (node (core_type i) ps) e = absurd (cc)
reference-there (node (core_item x) ps) e = absurd (cc)

refers-sort : (t : Type_tree) (r : Name) → RefersTo r (head t) → sort t ≡ is_resource
refers-sort (node (resource q s) ps) r e = refl
refers-sort (node nothing ps) r e = absurd e
refers-sort (node (primitive p) ps) r e = absurd e
refers-sort (node (defined i k) ps) r e = absurd e
refers-sort (node (func i b) ps) r e = absurd e
refers-sort (node (instance i own) ps) r e = absurd e
refers-sort (node (component i ins outs) ps) r e = absurd e
refers-sort (node type_entity ps) r e = absurd e
refers-sort (node (core_module i w) ps) r e = absurd e
refers-sort (node (core_instance i w) ps) r e = absurd e
refers-sort (node (core_type i) ps) r e = absurd e
refers-sort (node (core_item i) ps) r e = absurd e

-- ## What the pass found

module _ (gs : List Group) where
  abbrev pub Below : ℕ → ℕ → Reading Atom → Reading Atom → Type_tree → Type_tree → Bool
  Below d k f g a b = match_below (id_tests gs) d k f g a b

  -- the one matches the other, at some height and however both are read
  abbrev Passing : Type_tree → Type_tree → Type 0
  Passing a b = (d : ℕ) × (k : ℕ) × (f : Reading Atom) × (g : Reading Atom) × (Below d k f g a b ≡ true)

  -- by the rule of the sort of the right one
  pub passing : (d k : ℕ) (f g : Reading Atom) (a b : Type_tree) (s : Sort) → sort b ≡ s → Below (suc d) k f g a b ≡ true →
      (sort a ≡ s) × (match_as (id_tests gs) (same_below (id_tests gs) d) (match_below (id_tests gs) d) s k f g a b ≡ true)
  passing d k f g a b s e m =
      let o : sort a ≡ sort b = (sorts-decide (sort a) (sort b)).0 (and_left _ _ m) in
      (o ∙ e, subst (λ (r : Sort). match_as (id_tests gs) (same_below (id_tests gs) d) (match_below (id_tests gs) d) r k f g a b ≡ true) (o ∙ e) (and_right _ _ m))

  pub same-sorts : (d k : ℕ) (f g : Reading Atom) (a b : Type_tree) → same_below (id_tests gs) d k f g a b ≡ true → sort a ≡ sort b
  same-sorts zero k f g a b m = absurd (false≢true m)
  same-sorts (suc d) k f g a b m = (sorts-decide (sort a) (sort b)).0 (and_left _ _ m)

  module _ (R : Type_tree → Type_tree → Bool) (right : (a b : Type_tree) → R a b ≡ true → Passing a b) where
    -- the entry that stands for one of the right list
    found : (xs ys : List (Text × Type_tree)) (y : Text × Type_tree) → each_passes R xs ys ≡ true → Contains ys y → (x : Type_tree) × (entry y.0 xs ≡ Some x) × Passing x y.1
    found xs ys y m c = go (entry y.0 xs) refl (passes (found_in R xs) ys m y c)
      where
        go : (o : Option Type_tree) → entry y.0 xs ≡ o → elim o as (λ o. Bool) [ None ↦ false | Some x ↦ R x y.1 ] ≡ true → (x : Type_tree) × (entry y.0 xs ≡ Some x) × Passing x y.1
        go None e h = absurd (false≢true h)
        go (Some x) e h = (x, e, right x y.1 h)

  -- ## Paths

  type-free : (a t : Type_tree) (r : Name) → IsTypeOf r t → Passing a t → (q : Name) × (resource_at (head (referenced a)) ≡ Some q) × Free q a
  type-free a t r e (zero, k, f, g, m) = absurd (false≢true m)
  type-free a t r e (suc d, k, f, g, m) =
      let w = passing d k f g a t is_type e.0 m in
      let s : sort (referenced a) ≡ is_resource = same-sorts d k f g (referenced a) (referenced t) (and_left _ _ w.1) ∙ refers-sort (referenced t) r e.1 in
      let z = reference-there (referenced a) s in
      (z.0, z.1, both-free a z.0 w.0 (inr z.2))

  -- the resource to which a path leads by names is free in one of the entries
  path-free : (p : List ℕ) (r : Name) (R : Type_tree → Type_tree → Bool) → ((a b : Type_tree) → R a b ≡ true → Passing a b) → (xs ys : List (Text × Type_tree)) → Leads p r ys → each_passes R xs ys ≡ true → AllBare xs →
      (q : Name) × (follow p ys xs ≡ Some q) × FreeAmong q xs
  path-free [] r R right xs ys l m w = absurd l
  path-free (k ∷ []) r R right xs ys l m w =
      let x = found R right xs ys l.0 m (among ys k l.0 l.1) in
      let z = type-free x.0 l.0.1 r l.2 x.2 in
      (z.0, then-then (slice_get ys k) l.0 (Some z.0) _ l.1 (then-then (entry l.0.0 xs) x.0 (Some z.0) _ x.1 z.1), found-free l.0.0 xs x.0 z.0 x.1 z.2)
  path-free (k ∷ j ∷ p) r R right xs ys l m w =
      let x = found R right xs ys l.0 m (among ys k l.0 l.1) in
      let z = on (path-free (j ∷ p) r) x.0 (found-bare l.0.0 xs x.0 w x.1) x.2 in
      (z.0, then-then (slice_get ys k) l.0 (Some z.0) _ l.1 (then-then (entry l.0.0 xs) x.0 (Some z.0) _ x.1 z.1), found-free l.0.0 xs x.0 z.0 x.1 z.2)
    where
      -- on through an instance that stands there
      on : ((T : Type_tree → Type_tree → Bool) → ((a b : Type_tree) → T a b ≡ true → Passing a b) → (us vs : List (Text × Type_tree)) → Leads (j ∷ p) r vs → each_passes T us vs ≡ true → AllBare us → (q : Name) × (follow (j ∷ p) vs us ≡ Some q) × FreeAmong q us) →
          (a : Type_tree) → IsBare a → Passing a l.0.1 → (q : Name) × (follow (j ∷ p) (named_exports l.0.1) (named_exports a) ≡ Some q) × Free q a
      on further a b (zero, n, f, g, c) = absurd (false≢true c)
      on further a b (suc d, n, f, g, c) =
          let v = passing d n f g a l.0.1 is_instance l.2.0 c in
          let z = further (Below d (suc n) _ _) (λ x y h. (d, suc n, _, _, h)) (named_exports a) (named_exports l.0.1) l.3 v.1 (exports-bare a b) in
          (z.0, z.1, instance-free a z.0 v.0 b.0 z.2)

  -- ## What arguments give

  -- what is free in the given type has the property
  abbrev GivesFree : (Name → Type 0) → Identity × Type_tree → Type 0
  GivesFree P x = (q : Name) → Free q x.1 → P q

  one-given : (P : Name → Type 0) (o : Option Identity) (u : Type_tree) → ((q : Name) → Free q u → P q) → All (GivesFree P) (option_to_list (option_map (λ i. (i, u)) o))
  one-given P None u f = All-nil (GivesFree P)
  one-given P (Some i) u f = All-cons (GivesFree P) (i, u) [] f (All-nil (GivesFree P))

  found-given : (R : Type_tree → Bool) (h : Type_tree → List (Identity × Type_tree)) → ((a : Type_tree) → R a ≡ true → IsBare a → All (GivesFree (λ q. Free q a)) (h a)) → (n : Text) (es : List (Text × Type_tree)) → AllBare es →
      elim (entry n es) as (λ o. Bool) [ None ↦ false | Some x ↦ R x ] ≡ true → All (GivesFree (λ q. FreeAmong q es)) (option_map_or h (lookup (bytes_eq n) es) [])
  found-given R h g n es w m = go (entry n es) refl m
    where
      go : (o : Option Type_tree) → entry n es ≡ o → elim o as (λ o. Bool) [ None ↦ false | Some x ↦ R x ] ≡ true → All (GivesFree (λ q. FreeAmong q es)) (option_map_or h o [])
      go None e d = absurd (false≢true d)
      go (Some x) e d = All-weaker (GivesFree (λ q. Free q x)) (GivesFree (λ q. FreeAmong q es)) (λ y k q f. found-free n es x q e (k q f)) (h x) (g x d (found-bare n es x w e))

  mutual
    given_by-free : (t : Type_tree) (d k : ℕ) (f g : Reading Atom) (a : Type_tree) → Below d k f g a t ≡ true → IsBare a → All (GivesFree (λ q. Free q a)) (given_by a t)
    given_by-free (node type_entity ps) zero k f g a m w = absurd (false≢true m)
    given_by-free (node type_entity ps) (suc d) k f g a m w =
        let v = passing d k f g a (node type_entity ps) is_type refl m in
        one-given (λ q. Free q a) (identity_at (head (tree.created (node type_entity ps)))) (tree.created a) (λ q x. both-free a q v.0 (inl x))
    given_by-free (node (instance i own) ps) zero k f g a m w = absurd (false≢true m)
    given_by-free (node (instance i own) ps) (suc d) k f g a m w =
        let v = passing d k f g a (node (instance i own) ps) is_instance refl m in
        All-weaker (GivesFree (λ q. FreeAmong q (named (exports a)))) (GivesFree (λ q. Free q a)) (λ x h q y. instance-free a q v.0 w.0 (h q y)) (given_in (named (exports a)) ps)
        (given_in-free ps d (suc k) _ _ (named (exports a)) v.1 (exports-bare a w))
    given_by-free (node nothing ps) d k f g a m w = All-nil (GivesFree (λ q. Free q a))
    given_by-free (node (primitive p) ps) d k f g a m w = All-nil (GivesFree (λ q. Free q a))
    given_by-free (node (resource r s) ps) d k f g a m w = All-nil (GivesFree (λ q. Free q a))
    given_by-free (node (defined i x) ps) d k f g a m w = All-nil (GivesFree (λ q. Free q a))
    given_by-free (node (func i b) ps) d k f g a m w = All-nil (GivesFree (λ q. Free q a))
    given_by-free (node (component i ins outs) ps) d k f g a m w = All-nil (GivesFree (λ q. Free q a))
    given_by-free (node (core_module i n) ps) d k f g a m w = All-nil (GivesFree (λ q. Free q a))
    given_by-free (node (core_instance i n) ps) d k f g a m w = All-nil (GivesFree (λ q. Free q a))
    given_by-free (node (core_type i) ps) d k f g a m w = All-nil (GivesFree (λ q. Free q a))
    given_by-free (node (core_item x) ps) d k f g a m w = All-nil (GivesFree (λ q. Free q a))

    given_in-free : (ps : Parts Name Name) (d k : ℕ) (f g : Reading Atom) (es : List (Text × Type_tree)) → each_passes (Below d k f g) es (named_exports_in ps) ≡ true → AllBare es → All (GivesFree (λ q. FreeAmong q es)) (given_in es ps)
    given_in-free none d k f g es m w = All-nil (GivesFree (λ q. FreeAmong q es))
    given_in-free (part (export n) t ps) d k f g es m w =
        All-append (GivesFree (λ q. FreeAmong q es)) (option_map_or (λ a. given_by a t) (lookup (bytes_eq n.name) es) []) (given_in es ps)
        (found-given (λ a. Below d k f g a t) (λ a. given_by a t) (λ a h b. given_by-free t d k f g a h b) n.name es w (and_left _ _ m)) (given_in-free ps d k f g es (and_right _ _ m) w)
    given_in-free (part here t ps) d k f g es m w = given_in-free ps d k f g es m w
    given_in-free (part (label l) t ps) d k f g es m w = given_in-free ps d k f g es m w
    given_in-free (part (import n) t ps) d k f g es m w = given_in-free ps d k f g es m w
    given_in-free (part (core_import a n) t ps) d k f g es m w = given_in-free ps d k f g es m w
    given_in-free (part (core_export n) t ps) d k f g es m w = given_in-free ps d k f g es m w

  given_for-free : (g : Reading Atom) (args is : List (Text × Type_tree)) → each_passes (match_pass (id_tests gs) 0 given g) args is ≡ true → AllBare args → All (GivesFree (λ q. FreeAmong q args)) (given_for args is)
  given_for-free g args [] m w = All-nil (GivesFree (λ q. FreeAmong q args))
  given_for-free g args (i ∷ is) m w =
      All-append (GivesFree (λ q. FreeAmong q args)) (option_map_or (λ a. given_by a i.1) (lookup (bytes_eq i.0) args) []) (given_for args is)
      (found-given (λ a. match_pass (id_tests gs) 0 given g a i.1) (λ a. given_by a i.1) (λ a h b. given_by-free i.1 (enough a i.1) 0 given g a h b) i.0 args w (and_left _ _ m)) (given_for-free g args is (and_right _ _ m) w)

  looked-given : (P : Name → Type 0) (i : Identity) (xs : List (Identity × Type_tree)) (u : Type_tree) → All (GivesFree P) xs → lookup (same_identity i) xs ≡ Some u → (q : Name) → Free q u → P q
  looked-given P i [] u a e q f = cc
  looked-given P i (x ∷ xs) u a e q f = go (same_identity i x.0) e (λ d. looked-given P i xs u (All-tail (GivesFree P) x xs a) d q f)
    where
      go : (b : Bool) → cond b (Some x.1) (lookup (same_identity i) xs) ≡ Some u → (lookup (same_identity i) xs ≡ Some u → P q) → P q
      go true d further = All-head (GivesFree P) x xs a q (subst (Free q) (sym (some-inj d)) f)
      go false d further = further d

  -- ## The instance

  abbrev LedIn : Entries → Name × List ℕ → Type 0
  LedIn es x = PathLeadsTo x.1 x.0 es

  -- the path that is recorded first for a resource leads to it
  recorded : (r : Name) (ins : List (Name × List ℕ)) (es : Entries) → All (LedIn es) ins → member r (firsts ins) ≡ true → (p : List ℕ) × (lookup (same r) ins ≡ Some p) × Leads p r (named es)
  recorded r [] es w e = absurd (false≢true e)
  recorded r (x ∷ ins) es w e = go (same r x.0) refl e (recorded r ins es (All-tail (LedIn es) x ins w))
    where
      Leading : Option (List ℕ) → Type 0
      Leading o = (p : List ℕ) × (o ≡ Some p) × Leads p r (named es)

      go : (b : Bool) → same r x.0 ≡ b → (b || member r (firsts ins)) ≡ true → (member r (firsts ins) ≡ true → Leading (lookup (same r) ins)) → Leading (cond b (Some x.1) (lookup (same r) ins))
      go true h d further = (x.1, refl, subst (λ (z : Name). Leads x.1 z (named es)) (sym (same-true r x.0 h)) (leads_named x.1 x.0 es (All-head (LedIn es) x ins w)))
      go false h d further = further d

  module _ (p : Place) (args : List (Text × Type_tree)) (bare : AllBare args) where
    made-has : (rs : List (Name × List ℕ)) (r : Name) → member r (firsts rs) ≡ true → Has (map (λ (x : Name × List ℕ). (at p x.0, x.1)) rs) (at p r)
    made-has [] r e = absurd (false≢true e)
    made-has (x ∷ rs) r e = ⊎_elim (λ (h : same r x.0 ≡ true). inl (ap (at p) (same-true r x.0 h))) (λ (h : member r (firsts rs) ≡ true). inr (made-has rs r h)) (or_cases (same r x.0) (member r (firsts rs)) e)

    free-mapped : (m : Replacement) (es : Entries) (q : Name) → FreeIn q (entries export (map_entries (replaced m) es) none) → Stays m (λ r. FreeAmong r es) q
    free-mapped m [] q x = absurd x
    free-mapped m (e ∷ es) q (inl x) = stays-more m (λ r. Free r e.1) (λ r. FreeAmong r (e ∷ es)) q (λ y. inl y) (free-replaced m e.1 q x)
    free-mapped m (e ∷ es) q (inr x) = stays-more m (λ r. FreeAmong r es) (λ r. FreeAmong r (e ∷ es)) q (λ y. inr y) (free-mapped m es q x)

    unowned : (a b : Bool) (x y : Name) → cond a (Some x) (cond b (Some y) None) ≡ None → (a || b) ≡ false
    unowned true b x y e = cc
    unowned false true x y e = cc
    unowned false false x y e = refl

    -- where each resource that the component owns is replaced, and what comes in is free in an argument, or new
    module _ (h : Head Name Name) (ps : Parts Name Name) (opens : opens_pass (id_tests gs) args (node h ps) ≡ true) where
      abbrev c : Type_tree
      c = node h ps

      abbrev Comes : Name → Type 0
      Comes q = Free q c ⊎ (FreeAmong q args ⊎ Has (instantiated_resources names_by_place p c) q)

      abbrev m : Replacement
      m = opening names_by_place p args c

      abbrev reads : Reading Atom
      reads r = given (opened_by (argument_for args c) c r)

      free-of : ((q : Name) → m.resources q ≡ None → owns h q ≡ false) → ((r q : Name) → m.resources r ≡ Some q → Comes q) → (q : Name) → Free q (instantiated names_by_place p args c) → Comes q
      free-of stays comes q (inl x) = absurd x
      free-of stays comes q (inr x) = go (free-mapped m (exports c) q x.1)
        where
          go : Stays m (λ r. FreeAmong r (exports c)) q → Comes q
          go (inl y) = inl (inr (stays q y.1, exports-free ps q y.0))
          go (inr (inl y)) = comes y.0 q y.1
          go (inr (inr y)) = inr (inl (looked-given (λ r. FreeAmong r args) y.0 (given_for args (named_imports c)) y.1 (given_for-free reads args (named_imports c) opens bare) y.2 q y.3))

    module _ (i : Name) (ins outs : List (Name × List ℕ)) (ps : Parts Name Name) (lead : All (LedIn (tree.imports_in ps)) ins) (opens : opens_pass (id_tests gs) args (node (component i ins outs) ps) ≡ true) where
      abbrev d : Type_tree
      d = node (component i ins outs) ps

      argument-free : (r : Name) → member r (firsts ins) ≡ true → FreeAmong (argument_for args d r) args
      argument-free r e =
          let l = recorded r ins (tree.imports_in ps) lead e in
          let f : Reading Atom = reads (component i ins outs) ps opens in
          let z = path-free l.0 r (match_pass (id_tests gs) 0 given f) (λ a b h. (enough a b, 0, given, f, h)) args (named_imports d) l.2 opens bare in
          subst (λ (q : Name). FreeAmong q args) (sym (counterpart-some ins (named_imports d) args r z.0 l.0 l.1 z.1)) z.2

      component-comes : (r q : Name) (a b : Bool) → member r (firsts ins) ≡ a → member r (firsts outs) ≡ b → cond a (Some (argument_for args d r)) (cond b (Some (at p r)) None) ≡ Some q → Comes (component i ins outs) ps opens q
      component-comes r q true b e f h = inr (inl (subst (λ (x : Name). FreeAmong x args) (some-inj h) (argument-free r e)))
      component-comes r q false true e f h = inr (inr (subst (Has (instantiated_resources names_by_place p d)) (some-inj h) (made-has outs r f)))
      component-comes r q false false e f h = cc

    -- what is free in an instance of a component
    pub free-instantiated : (t : Type_tree) → IsBare t → IsSound t → opens_pass (id_tests gs) args t ≡ true → (q : Name) → Free q (instantiated names_by_place p args t) →
        Free q t ⊎ (FreeAmong q args ⊎ Has (instantiated_resources names_by_place p t) q)
    free-instantiated (node (component i ins outs) ps) b w o q f =
        free-of (component i ins outs) ps o (λ r e. unowned (member r (firsts ins)) (member r (firsts outs)) (argument_for args (node (component i ins outs) ps) r) (at p r) e)
        (λ r z e. component-comes i ins outs ps w.0.1.0 o r z (member r (firsts ins)) (member r (firsts outs)) refl refl e) q f
    free-instantiated (node (instance i own) ps) b w o q f = free-of (instance i own) ps o (λ r e. ap (λ (rs : List Name). member r rs) b.0) (λ r z e. cc) q f
    free-instantiated (node nothing ps) b w o q f = free-of nothing ps o (λ r e. refl) (λ r z e. cc) q f
    free-instantiated (node (primitive x) ps) b w o q f = free-of (primitive x) ps o (λ r e. refl) (λ r z e. cc) q f
    free-instantiated (node (resource y x) ps) b w o q f = free-of (resource y x) ps o (λ r e. refl) (λ r z e. cc) q f
    free-instantiated (node (defined i k) ps) b w o q f = free-of (defined i k) ps o (λ r e. refl) (λ r z e. cc) q f
    free-instantiated (node (func i x) ps) b w o q f = free-of (func i x) ps o (λ r e. refl) (λ r z e. cc) q f
    free-instantiated (node type_entity ps) b w o q f = free-of type_entity ps o (λ r e. refl) (λ r z e. cc) q f
    free-instantiated (node (core_module i n) ps) b w o q f = free-of (core_module i n) ps o (λ r e. refl) (λ r z e. cc) q f
    free-instantiated (node (core_instance i n) ps) b w o q f = free-of (core_instance i n) ps o (λ r e. refl) (λ r z e. cc) q f
    free-instantiated (node (core_type i) ps) b w o q f = free-of (core_type i) ps o (λ r e. refl) (λ r z e. cc) q f
    free-instantiated (node (core_item x) ps) b w o q f = free-of (core_item x) ps o (λ r e. refl) (λ r z e. cc) q f
