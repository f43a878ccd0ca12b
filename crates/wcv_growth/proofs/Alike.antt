-- Types of which nodes of one identity are one, and both types of an entity are of one sort and own the same: what arguments give for
-- such a type is of its sort, and owns what it does.
use Rattle.std.proofs.Common.{◌≡◌, ℕ, zero, suc, List, [], ◌∷◌, Bool, true, false, cond, refl, sym, ◌∙◌, subst, Some, None, bytes_eq}
use Rattle.std.specs.Prelude.{Option, All, option_to_list}
use Rattle.std.specs.Map.{lookup}
use Rattle.std.specs.Option.{option_map, option_map_or}
use Rattle.std.proofs.lemmas.Bool.{false≢true}
use Rattle.std.proofs.lemmas.List.Elements.{All-nil, All-cons, All-append, All-head, All-tail}
use Rattle.wcv_core.specs.CoreForm.{Group}
use Rattle.wcv_core.specs.Names.{Name, member}
use Rattle.wcv_types.specs.Identity.{Identity, of_node, of_reference, identity_at}
use Rattle.wcv_types.specs.Tree as tree
use Rattle.wcv_types.specs.Tree.{Text, Head, here, label, import, export, core_import, core_export, nothing, primitive, resource, defined, func, instance, component, type_entity, core_module, core_instance, core_type, core_item, node, Parts, none, part, first_part, rest_parts, head, sort, is_type, is_instance, referenced, owned, resource_type, exports}
use Rattle.wcv_types.specs.Unfold.{Type_tree}
use Rattle.wcv_matching.specs.GivenTypes.{given_by, given_in, given_for}
use Rattle.wcv_matching.specs.Matching.{Reading, named, named_exports_in}
use Rattle.wcv_matching.specs.NamedPaths.{entry}
use Rattle.wcv_matching.specs.AtomTests.{id_tests}
use Rattle.wcv_matching.specs.OnePass.{Atom, given, each_passes, match_pass, enough}
use Rattle.wcv_matching.specs.Orderly.{EachNode, EachNodeIn}
use Rattle.wcv_matching.proofs.PassSame.{and_left, and_right, same_members-decides}
use Rattle.wcv_growth.proofs.Bare.{exports-each}
use Rattle.wcv_growth.proofs.Opened.{Below, passing, same-sorts}

-- of one sort, and owning the same resources
abbrev pub SameKind : Type_tree → Type_tree → Type 0
SameKind t u = (sort t ≡ sort u) × ((r : Name) → member r (owned t) ≡ member r (owned u))

pub kind-sym : (t u : Type_tree) → SameKind t u → SameKind u t
kind-sym t u h = (sym h.0, λ r. sym (h.1 r))

pub kind-both : (t u v : Type_tree) → SameKind t u → SameKind u v → SameKind t v
kind-both t u v h g = (h.0 ∙ g.0, λ r. h.1 r ∙ g.1 r)

-- so are both types of a type entity
abbrev pub IsAlike : Head Name Name → Parts Name Name → Type 0
IsAlike type_entity ps = SameKind (first_part ps) (first_part (rest_parts ps))
IsAlike h ps = Unit {0}

-- what stands for an identity: of a reference, the reference
abbrev pub stands : (Name → Type_tree) → Identity → Type_tree
stands g (of_node i) = g i
stands g (of_reference r s) = resource_type r s

-- and a node is what stands for its identity
abbrev pub IsOf : (Name → Type_tree) → Head Name Name → Parts Name Name → Type 0
IsOf g h ps = IsAlike h ps × ((i : Identity) → identity_at h ≡ Some i → node h ps ≡ stands g i)

module _ (g : Name → Type_tree) where
  abbrev Known : Type_tree → Type 0
  Known t = EachNode (IsOf g) t

  abbrev pub AllKnown : List (Text × Type_tree) → Type 0
  AllKnown es = All (λ e. Known e.1) es

  -- both types of an entry
  both-alike : (t : Type_tree) → sort t ≡ is_type → Known t → SameKind (tree.created t) (referenced t)
  both-alike (node type_entity ps) e w = w.0.0
  both-alike (node nothing ps) e w = absurd (cc)
  both-alike (node (primitive p) ps) e w = absurd (cc)
  both-alike (node (resource q x) ps) e w = absurd (cc)
  both-alike (node (defined i k) ps) e w = absurd (cc)
  both-alike (node (func i b) ps) e w = absurd (cc)
  both-alike (node (component i ins outs) ps) e w = absurd (cc)
  both-alike (node (instance i own) ps) e w = absurd (cc)
  both-alike (node (core_module i n) ps) e w = absurd (cc)
  both-alike (node (core_instance i n) ps) e w = absurd (cc)
  both-alike (node (core_type i) ps) e w = absurd (cc)
  both-alike (node (core_item x) ps) e w = absurd (cc)

  -- a node is of the kind of that
  pub known-kind : (h : Head Name Name) (ps : Parts Name Name) → IsOf g h ps → (i : Identity) → identity_at h ≡ Some i → SameKind (node h ps) (stands g i)
  known-kind h ps w i e = subst (SameKind (node h ps)) (w.1 i e) (refl, λ r. refl)

  first-kind : (ps : Parts Name Name) → EachNodeIn (IsOf g) ps → (i : Identity) → identity_at (head (first_part ps)) ≡ Some i → SameKind (first_part ps) (stands g i)
  first-kind none w i e = cc
  first-kind (part k (node h qs) ps) w i e = known-kind h qs w.0.0 i e

  -- ## What arguments give

  -- of the sort of what goes with the identity, and owning what it does
  abbrev pub OfKind : Identity × Type_tree → Type 0
  OfKind x = SameKind x.1 (stands g x.0)

  one-kind : (o : Option Identity) (u : Type_tree) → ((i : Identity) → o ≡ Some i → SameKind u (stands g i)) → All OfKind (option_to_list (option_map (λ i. (i, u)) o))
  one-kind None u h = All-nil OfKind
  one-kind (Some i) u h = All-cons OfKind (i, u) [] (h i refl) (All-nil OfKind)

  found-kind : (R : Type_tree → Bool) (h : Type_tree → List (Identity × Type_tree)) → ((a : Type_tree) → R a ≡ true → Known a → All OfKind (h a)) → (n : Text) (es : List (Text × Type_tree)) → AllKnown es →
      elim (entry n es) as (λ o. Bool) [ None ↦ false | Some x ↦ R x ] ≡ true → All OfKind (option_map_or h (lookup (bytes_eq n) es) [])
  found-kind R h k n [] v e = absurd (false≢true e)
  found-kind R h k n (x ∷ es) v e = go (bytes_eq n x.0) e (λ d. found-kind R h k n es (All-tail (λ (e : Text × Type_tree). Known e.1) x es v) d)
    where
      go : (b : Bool) → elim (cond b (Some x.1) (lookup (bytes_eq n) es)) as (λ o. Bool) [ None ↦ false | Some y ↦ R y ] ≡ true →
          (elim (entry n es) as (λ o. Bool) [ None ↦ false | Some y ↦ R y ] ≡ true → All OfKind (option_map_or h (lookup (bytes_eq n) es) [])) → All OfKind (option_map_or h (cond b (Some x.1) (lookup (bytes_eq n) es)) [])
      go true d later = k x.1 d (All-head (λ (e : Text × Type_tree). Known e.1) x es v)
      go false d later = later d

  module _ (gs : List Group) where
    mutual
      given_by-kind : (t : Type_tree) (d k : ℕ) (f f' : Reading Atom) (a : Type_tree) → Below gs d k f f' a t ≡ true → Known a → Known t → All OfKind (given_by a t)
      given_by-kind (node type_entity ps) zero k f f' a m u v = absurd (false≢true m)
      given_by-kind (node type_entity ps) (suc d) k f f' a m u v =
          let t : Type_tree = node type_entity ps in
          let w = passing gs d k f f' a t is_type refl m in
          let r : SameKind (referenced a) (referenced t) = (same-sorts gs d k f f' (referenced a) (referenced t) (and_left _ _ w.1), (same_members-decides (owned (referenced a)) (owned (referenced t))).0 (and_right _ _ w.1)) in
          let q : SameKind (tree.created a) (tree.created t) = kind-both (tree.created a) (referenced a) (tree.created t) (both-alike a w.0 u) (kind-both (referenced a) (referenced t) (tree.created t) r (kind-sym (tree.created t) (referenced t) v.0.0)) in
          one-kind (identity_at (head (tree.created t))) (tree.created a) (λ i e. kind-both (tree.created a) (tree.created t) (stands g i) q (first-kind ps v.1 i e))
      given_by-kind (node (instance i own) ps) zero k f f' a m u v = absurd (false≢true m)
      given_by-kind (node (instance i own) ps) (suc d) k f f' a m u v =
          let w = passing gs d k f f' a (node (instance i own) ps) is_instance refl m in
          given_in-kind ps d (suc k) _ _ (named (exports a)) w.1 (exports-each (IsOf g) a u) v.1
      given_by-kind (node nothing ps) d k f f' a m u v = All-nil OfKind
      given_by-kind (node (primitive p) ps) d k f f' a m u v = All-nil OfKind
      given_by-kind (node (resource r s) ps) d k f f' a m u v = All-nil OfKind
      given_by-kind (node (defined i x) ps) d k f f' a m u v = All-nil OfKind
      given_by-kind (node (func i b) ps) d k f f' a m u v = All-nil OfKind
      given_by-kind (node (component i ins outs) ps) d k f f' a m u v = All-nil OfKind
      given_by-kind (node (core_module i n) ps) d k f f' a m u v = All-nil OfKind
      given_by-kind (node (core_instance i n) ps) d k f f' a m u v = All-nil OfKind
      given_by-kind (node (core_type i) ps) d k f f' a m u v = All-nil OfKind
      given_by-kind (node (core_item x) ps) d k f f' a m u v = All-nil OfKind

      given_in-kind : (ps : Parts Name Name) (d k : ℕ) (f f' : Reading Atom) (es : List (Text × Type_tree)) → each_passes (Below gs d k f f') es (named_exports_in ps) ≡ true → AllKnown es → EachNodeIn (IsOf g) ps → All OfKind (given_in es ps)
      given_in-kind none d k f f' es m u v = All-nil OfKind
      given_in-kind (part (export n) t ps) d k f f' es m u v =
          All-append OfKind (option_map_or (λ a. given_by a t) (lookup (bytes_eq n.name) es) []) (given_in es ps)
          (found-kind (λ a. Below gs d k f f' a t) (λ a. given_by a t) (λ a h x. given_by-kind t d k f f' a h x v.0) n.name es u (and_left _ _ m)) (given_in-kind ps d k f f' es (and_right _ _ m) u v.1)
      given_in-kind (part here t ps) d k f f' es m u v = given_in-kind ps d k f f' es m u v.1
      given_in-kind (part (label l) t ps) d k f f' es m u v = given_in-kind ps d k f f' es m u v.1
      given_in-kind (part (import n) t ps) d k f f' es m u v = given_in-kind ps d k f f' es m u v.1
      given_in-kind (part (core_import a n) t ps) d k f f' es m u v = given_in-kind ps d k f f' es m u v.1
      given_in-kind (part (core_export n) t ps) d k f f' es m u v = given_in-kind ps d k f f' es m u v.1

    pub given_for-kind : (f : Reading Atom) (args is : List (Text × Type_tree)) → each_passes (match_pass (id_tests gs) 0 given f) args is ≡ true → AllKnown args → AllKnown is → All OfKind (given_for args is)
    given_for-kind f args [] m u v = All-nil OfKind
    given_for-kind f args (i ∷ is) m u v =
        All-append OfKind (option_map_or (λ a. given_by a i.1) (lookup (bytes_eq i.0) args) []) (given_for args is)
        (found-kind (λ a. match_pass (id_tests gs) 0 given f a i.1) (λ a. given_by a i.1) (λ a h x. given_by-kind i.1 (enough a i.1) 0 given f a h x (All-head (λ (e : Text × Type_tree). Known e.1) i is v)) i.0 args u (and_left _ _ m))
        (given_for-kind f args is (and_right _ _ m) u (All-tail (λ (e : Text × Type_tree). Known e.1) i is v))
