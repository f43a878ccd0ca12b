-- What is led to a resource that goes elsewhere changes, and what owns no such resource is hygienic.
use Rattle.std.proofs.Common.{◌≡◌, ℕ, zero, suc, ◌≤◌, List, [], ◌∷◌, refl, sym, ◌∙◌, ap, subst, arith, Bool, true, false, not, ◌||◌, Some, None, All}
use Rattle.std.specs.Prelude.{Option, slice_get}
use Rattle.std.proofs.lemmas.Bool.{false≢true, ne_eqb}
use Rattle.std.proofs.lemmas.List.Elements.{All-nil, All-cons, All-head, All-tail}
use Rattle.wcv_core.specs.Names.{Name, number, stamp, base, at, stamped, aside, same, member}
use Rattle.wcv_types.proofs.Lists.{some-inj}
use Rattle.wcv_types.proofs.Replacing.{none-given}
use Rattle.wcv_types.specs.Arena.{Arena}
use Rattle.wcv_types.specs.Given.{GaveResource, GaveIdentity}
use Rattle.wcv_types.specs.Identity.{Identity}
use Rattle.wcv_types.specs.Paths.{IsTypeOf, PathLeadsTo}
use Rattle.wcv_types.specs.Rename.{HeadNames, EachName, EachNameIn}
use Rattle.wcv_types.specs.Replacing.{Replacement, moved, moves, given_elsewhere, changed, changed_in, SparesOwn, SparesOwnIn}
use Rattle.wcv_types.specs.Resources.{owns, RefersTo}
use Rattle.wcv_types.specs.Tree.{Extern_name, Head, nothing, primitive, resource, defined, func, instance, component, type_entity, core_module, core_instance, core_type, core_item, here, label, import, export, core_import, core_export, node, Parts, none, part, parts, head, exports_in, first_part, rest_parts, firsts}
use Rattle.wcv_types.specs.Unfold.{Type_tree}
use Rattle.wcv_lower.specs.Owned.{OwnsNot, OwnsNotIn}

or_first : (a b : Bool) → a ≡ true → (a || b) ≡ true
or_first a b h = grind arith

or_second : (a b : Bool) → b ≡ true → (a || b) ≡ true
or_second a b h = grind arith

-- ## What changes

module _ (m : Replacement) (plain : (i : Identity) → m.nodes i ≡ None) where
  changed_node : (h : Head Name Name) (ps : Parts Name Name) → changed m (node h ps) ≡ (moves m h || changed_in m ps)
  changed_node h ps = ap (λ (o : Option Type_tree). given_elsewhere o h (moves m h || changed_in m ps)) (none-given m plain h)

  below_changed : (t : Type_tree) → changed_in m (parts t) ≡ true → changed m t ≡ true
  below_changed (node h ps) e = changed_node h ps ∙ or_second (moves m h) (changed_in m ps) e

  at_export : (ps : Parts Name Name) (k : ℕ) (e : Extern_name × Type_tree) → slice_get (exports_in ps) k ≡ Some e → changed m e.1 ≡ true → changed_in m ps ≡ true
  at_export none k e g c = absurd (cc)
  at_export (part (export n) t ps) zero e g c = or_first (changed m t) (changed_in m ps) (subst (λ (x : Extern_name × Type_tree). changed m x.1 ≡ true) (sym (some-inj g)) c)
  at_export (part (export n) t ps) (suc k) e g c = or_second (changed m t) (changed_in m ps) (at_export ps k e g c)
  at_export (part here t ps) k e g c = or_second (changed m t) (changed_in m ps) (at_export ps k e g c)
  at_export (part (label l) t ps) k e g c = or_second (changed m t) (changed_in m ps) (at_export ps k e g c)
  at_export (part (import n) t ps) k e g c = or_second (changed m t) (changed_in m ps) (at_export ps k e g c)
  at_export (part (core_import a n) t ps) k e g c = or_second (changed m t) (changed_in m ps) (at_export ps k e g c)
  at_export (part (core_export n) t ps) k e g c = or_second (changed m t) (changed_in m ps) (at_export ps k e g c)

  module _ (r s : Name) (goes : m.resources r ≡ Some s) (other : same r s ≡ false) where
    refers_changed : (t : Type_tree) → RefersTo r (head t) → changed m t ≡ true
    refers_changed (node (resource q x) ps) e =
        let go : moved r (m.resources r) ≡ true = ap (moved r) goes ∙ ap not other in
        changed_node (resource q x) ps ∙ or_first (moved q (m.resources q)) (changed_in m ps) (subst (λ (y : Name). moved y (m.resources y) ≡ true) e go)
    refers_changed (node nothing ps) e = absurd e
    refers_changed (node (primitive p) ps) e = absurd e
    refers_changed (node (defined i k) ps) e = absurd e
    refers_changed (node (func i b) ps) e = absurd e
    refers_changed (node (instance i own) ps) e = absurd e
    refers_changed (node (component i ins outs) ps) e = absurd e
    refers_changed (node type_entity ps) e = absurd e
    refers_changed (node (core_module i n) ps) e = absurd e
    refers_changed (node (core_instance i n) ps) e = absurd e
    refers_changed (node (core_type i) ps) e = absurd e
    refers_changed (node (core_item x) ps) e = absurd e

    second_changed : (ps : Parts Name Name) → RefersTo r (head (first_part (rest_parts ps))) → changed_in m ps ≡ true
    second_changed none e = absurd e
    second_changed (part a t none) e = absurd e
    second_changed (part a t (part b u ps)) e = or_second (changed m t) (changed m u || changed_in m ps) (or_first (changed m u) (changed_in m ps) (refers_changed u e))

    type_changed : (t : Type_tree) → IsTypeOf r t → changed m t ≡ true
    type_changed (node type_entity ps) w = changed_node type_entity ps ∙ second_changed ps w.1
    type_changed (node nothing ps) w = absurd (cc)
    type_changed (node (primitive p) ps) w = absurd (cc)
    type_changed (node (resource q x) ps) w = absurd (cc)
    type_changed (node (defined i k) ps) w = absurd (cc)
    type_changed (node (func i b) ps) w = absurd (cc)
    type_changed (node (instance i own) ps) w = absurd (cc)
    type_changed (node (component i ins outs) ps) w = absurd (cc)
    type_changed (node (core_module i n) ps) w = absurd (cc)
    type_changed (node (core_instance i n) ps) w = absurd (cc)
    type_changed (node (core_type i) ps) w = absurd (cc)
    type_changed (node (core_item x) ps) w = absurd (cc)

    -- what leads to it mentions it
    pub path_changed : (p : List ℕ) (ps : Parts Name Name) → PathLeadsTo p r (exports_in ps) → changed_in m ps ≡ true
    path_changed [] ps w = absurd w
    path_changed (k ∷ []) ps w = at_export ps k w.0 w.1 (type_changed w.0.1 w.2)
    path_changed (k ∷ j ∷ p) ps w = at_export ps k w.0 w.1 (below_changed w.0.1 (path_changed (j ∷ p) (parts w.0.1) w.3))

-- ## What is not owned

none_of : (k : ℕ) (a : Arena) (own : List Name) → a.resources ≤ k → All (GaveResource a) own → member (number k) own ≡ false
none_of k a [] h w = refl
none_of k a (r ∷ rs) h w =
    let g : GaveResource a r = All-head (GaveResource a) r rs w in
    let rest : member (number k) rs ≡ false = none_of k a rs h (All-tail (GaveResource a) r rs w) in
    ap (λ (b : Bool). b || member (number k) rs) (apart r g) ∙ rest
  where
    apart : (r : Name) → GaveResource a r → same (number k) r ≡ false
    apart (number j) g = ne_eqb k j (λ e. omega (arith, e, g, h))
    apart (stamp j) g = absurd g
    apart (base p) g = absurd g
    apart (at p x) g = absurd g
    apart (stamped p) g = absurd g
    apart (aside x) g = absurd g

firsts_gave : (a : Arena) (ps : List (Name × List ℕ)) → All (λ (p : Name × List ℕ). GaveResource a p.0) ps → All (GaveResource a) (firsts ps)
firsts_gave a [] w = All-nil (GaveResource a)
firsts_gave a (p ∷ ps) w =
    All-cons (GaveResource a) p.0 (firsts ps) (All-head (λ (p : Name × List ℕ). GaveResource a p.0) p ps w) (firsts_gave a ps (All-tail (λ (p : Name × List ℕ). GaveResource a p.0) p ps w))

neither : (b c : Bool) → b ≡ false → c ≡ false → (b || c) ≡ false
neither b c h k = grind arith

module _ (a : Arena) (k : ℕ) (new : a.resources ≤ k) where
  head_spares : (h : Head Name Name) → HeadNames (GaveResource a) (GaveIdentity a) h → owns h (number k) ≡ false
  head_spares (instance i own) w = none_of k a own new w.1
  head_spares (component i ins outs) w = neither _ _ (none_of k a (firsts ins) new (firsts_gave a ins w.1)) (none_of k a (firsts outs) new (firsts_gave a outs w.2))
  head_spares nothing w = refl
  head_spares (primitive p) w = refl
  head_spares (resource q x) w = refl
  head_spares (defined i f) w = refl
  head_spares (func i b) w = refl
  head_spares type_entity w = refl
  head_spares (core_module i n) w = refl
  head_spares (core_instance i n) w = refl
  head_spares (core_type i) w = refl
  head_spares (core_item x) w = refl

  mutual
    -- what the arena did not give yet is owned nowhere
    pub new_unowned : (t : Type_tree) → EachName (GaveResource a) (GaveIdentity a) t → OwnsNot (number k) t
    new_unowned (node h ps) w = (head_spares h w.0, new_unowned_in ps w.1)

    pub new_unowned_in : (ps : Parts Name Name) → EachNameIn (GaveResource a) (GaveIdentity a) ps → OwnsNotIn (number k) ps
    new_unowned_in none w = tt
    new_unowned_in (part q t ps) w = (new_unowned t w.0, new_unowned_in ps w.1)

-- ## What is spared

mutual
  -- where no node owns what goes elsewhere
  pub spares_own : (m : Replacement) (t : Type_tree) → ((r s : Name) → m.resources r ≡ Some s → OwnsNot r t) → SparesOwn m t
  spares_own m (node h ps) w = (λ r o. go r o (m.resources r) refl, spares_own_in m ps (λ r s e. (w r s e).1))
    where
      go : (r : Name) → owns h r ≡ true → (o : Option Name) → m.resources r ≡ o → m.resources r ≡ None
      go r o None e = e
      go r o (Some s) e = absurd (false≢true (sym (w r s e).0 ∙ o))

  spares_own_in : (m : Replacement) (ps : Parts Name Name) → ((r s : Name) → m.resources r ≡ Some s → OwnsNotIn r ps) → SparesOwnIn m ps
  spares_own_in m none w = tt
  spares_own_in m (part k t ps) w = (spares_own m t (λ r s e. (w r s e).0), spares_own_in m ps (λ r s e. (w r s e).1))
