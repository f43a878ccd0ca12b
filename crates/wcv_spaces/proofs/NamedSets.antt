-- Sets of ids stand for lists of identities.
use Rattle.std.proofs.Common.{◌≡◌, List, [], ◌∷◌, ◌++◌, refl, sym, ◌∙◌, ap, Bool, true, false, cond, eqb, Some, ◌||◌}
use Rattle.std.specs.Prelude.{slice_get, not, ◌&&◌, ℕ, option_to_list}
use Rattle.std.proofs.lemmas.Bool.{eqb-true}
use Rattle.std.proofs.lemmas.List.Elements.{All-head, All-tail, All-push}
use Rattle.wcv_types.specs.Arena.{Arena}
use Rattle.wcv_types.specs.Entities.{any_part}
use Rattle.wcv_types.specs.Identity.{same_identity}
use Rattle.wcv_types.specs.Named.{is_in}
use Rattle.wcv_types.specs.Sets.{same_type, has_type, with_type, AllStand, identities}
use Rattle.wcv_types.specs.Standing.{Stands, identity_of}
use Rattle.wcv_types.specs.Tree.{sort, type_of, is_type, is_instance, nothing, primitive, resource, defined, func, instance, component, type_entity, core_module, core_instance, core_type, core_item, node}
use Rattle.wcv_types.specs.Unfold.{Type_tree, tree_at}
use Rattle.wcv_types.specs.declared.arena.Node.{Node}
use Rattle.wcv_types.specs.declared.arena.Node.TheVariants as n
use Rattle.wcv_types.specs.declared.ids.ComponentAnyTypeId.{ComponentAnyTypeId}
use Rattle.wcv_types.specs.declared.ids.ComponentAnyTypeId.TheVariants as any
use Rattle.wcv_types.proofs.Each.{map-push}
use Rattle.wcv_types.proofs.Lists.{some-inj}
use Rattle.wcv_types.proofs.Unfolding.{known_any}
use Rattle.wcv_lower.specs.Context.{Side, joined, names_for, with_named}
use Rattle.wcv_lower.specs.Trees.{creates}
use Rattle.wcv_spaces.specs.Naming.{known, Names}
use Rattle.wcv_spaces.specs.Promises.{IsPrefix}
use Rattle.wcv_spaces.specs.declared.naming.NamedTypes.{NamedTypes}
use Rattle.wcv_spaces.proofs.Keeping.{no_more}

-- ## Members

module _ (a : Arena) where
  -- nodes of two sorts have two places
  apart : (i j : ℕ) (x y : Node) → slice_get a.nodes i ≡ Some x → slice_get a.nodes j ≡ Some y → (x ≡ y → ⊥) → false ≡ eqb i j
  apart i j x y s t d = go (eqb i j) refl
    where
      go : (b : Bool) → eqb i j ≡ b → false ≡ b
      go false e = refl
      go true e = absurd (d (some-inj (sym s ∙ ap (slice_get a.nodes) (eqb-true i j e) ∙ t)))

  same_here : (x y : ComponentAnyTypeId) → Stands a (any_part x) → Stands a (any_part y) → same_type x y ≡ same_identity (identity_of (any_part x)) (identity_of (any_part y))
  same_here (any.Resource q) (any.Resource r) s t = refl
  same_here (any.Resource q) (any.Defined j) s t = refl
  same_here (any.Resource q) (any.Func j) s t = refl
  same_here (any.Resource q) (any.Instance j) s t = refl
  same_here (any.Resource q) (any.Component j) s t = refl
  same_here (any.Defined i) (any.Resource r) s t = refl
  same_here (any.Defined i) (any.Defined j) s t = refl
  same_here (any.Defined i) (any.Func j) s t = apart i.index j.index (n.Defined s.0) (n.Func t.0) s.1 t.1 (λ e. cc)
  same_here (any.Defined i) (any.Instance j) s t = apart i.index j.index (n.Defined s.0) (n.Instance t.0) s.1 t.1 (λ e. cc)
  same_here (any.Defined i) (any.Component j) s t = apart i.index j.index (n.Defined s.0) (n.Component t.0) s.1 t.1 (λ e. cc)
  same_here (any.Func i) (any.Resource r) s t = refl
  same_here (any.Func i) (any.Defined j) s t = apart i.index j.index (n.Func s.0) (n.Defined t.0) s.1 t.1 (λ e. cc)
  same_here (any.Func i) (any.Func j) s t = refl
  same_here (any.Func i) (any.Instance j) s t = apart i.index j.index (n.Func s.0) (n.Instance t.0) s.1 t.1 (λ e. cc)
  same_here (any.Func i) (any.Component j) s t = apart i.index j.index (n.Func s.0) (n.Component t.0) s.1 t.1 (λ e. cc)
  same_here (any.Instance i) (any.Resource r) s t = refl
  same_here (any.Instance i) (any.Defined j) s t = apart i.index j.index (n.Instance s.0) (n.Defined t.0) s.1 t.1 (λ e. cc)
  same_here (any.Instance i) (any.Func j) s t = apart i.index j.index (n.Instance s.0) (n.Func t.0) s.1 t.1 (λ e. cc)
  same_here (any.Instance i) (any.Instance j) s t = refl
  same_here (any.Instance i) (any.Component j) s t = apart i.index j.index (n.Instance s.0) (n.Component t.0) s.1 t.1 (λ e. cc)
  same_here (any.Component i) (any.Resource r) s t = refl
  same_here (any.Component i) (any.Defined j) s t = apart i.index j.index (n.Component s.0) (n.Defined t.0) s.1 t.1 (λ e. cc)
  same_here (any.Component i) (any.Func j) s t = apart i.index j.index (n.Component s.0) (n.Func t.0) s.1 t.1 (λ e. cc)
  same_here (any.Component i) (any.Instance j) s t = apart i.index j.index (n.Component s.0) (n.Instance t.0) s.1 t.1 (λ e. cc)
  same_here (any.Component i) (any.Component j) s t = refl

  pub in_set : (x : ComponentAnyTypeId) → Stands a (any_part x) → (ids : List ComponentAnyTypeId) → AllStand a ids → has_type ids x ≡ is_in (identities ids) (identity_of (any_part x))
  in_set x s [] h = refl
  in_set x s (y ∷ ids) h =
      let e = same_here x y s (All-head (λ z. Stands a (any_part z)) y ids h) in
      let e' = in_set x s ids (All-tail (λ z. Stands a (any_part z)) y ids h) in
      λ j. e j || e' j

  -- ## One more

  one_more : (b : Bool) (ids : List ComponentAnyTypeId) (x : ComponentAnyTypeId) → Stands a (any_part x) → AllStand a ids →
      (identities (cond b (with_type ids x) ids) ≡ joined (b && not (is_in (identities ids) (identity_of (any_part x)))) (identities ids) (identity_of (any_part x))) × AllStand a (cond b (with_type ids x) ids)
  one_more false ids x s h = (refl, h)
  one_more true ids x s h =
      let w = go (has_type ids x) in
      (w.0 ∙ ap (λ (b : Bool). joined (not b) (identities ids) (identity_of (any_part x))) (in_set x s ids h), w.1)
    where
      go : (b : Bool) → (identities (cond b ids (ids ++ x ∷ [])) ≡ joined (not b) (identities ids) (identity_of (any_part x))) × AllStand a (cond b ids (ids ++ x ∷ []))
      go true = (refl, h)
      go false = (map-push (λ z. identity_of (any_part z)) ids x, All-push (λ z. Stands a (any_part z)) ids x h s)

  -- the set with one more
  pub pushed_grows : (b : Bool) (ids : List ComponentAnyTypeId) (x : ComponentAnyTypeId) → Stands a (any_part x) → AllStand a ids → IsPrefix ids (cond b (with_type ids x) ids) × AllStand a (cond b (with_type ids x) ids)
  pushed_grows b ids x s h = go b (has_type ids x)
    where
      go : (c d : Bool) → IsPrefix ids (cond c (cond d ids (ids ++ x ∷ [])) ids) × AllStand a (cond c (cond d ids (ids ++ x ∷ [])) ids)
      go false d = (no_more ids, h)
      go true true = (no_more ids, h)
      go true false = ((x ∷ [], refl), All-push (λ z. Stands a (any_part z)) ids x h s)

  -- what a type entity creates joins the set
  pub pushed_named : (b : Bool) (ids : List ComponentAnyTypeId) (c : ComponentAnyTypeId) (r : Type_tree) → Stands a (any_part c) → AllStand a ids →
      identities (cond b (with_type ids c) ids) ≡ with_named same_identity b (identities ids) (creates (type_of (tree_at a (any_part c)) r))
  pushed_named b ids c r s h = (one_more b ids c s h).0 ∙ ap (λ o. with_named same_identity b (identities ids) (option_to_list o)) (sym (known_any a c s))

-- ## What creates none

-- what is no type and no instance creates none
plain_creates : (t : Type_tree) → (sort t ≡ is_type → ⊥) → (sort t ≡ is_instance → ⊥) → creates t ≡ []
plain_creates (node type_entity ps) e i = absurd (e refl)
plain_creates (node (instance k own) ps) e i = absurd (i refl)
plain_creates (node nothing ps) e i = refl
plain_creates (node (primitive q) ps) e i = refl
plain_creates (node (resource r s) ps) e i = refl
plain_creates (node (defined k x) ps) e i = refl
plain_creates (node (func k b) ps) e i = refl
plain_creates (node (component k ins outs) ps) e i = refl
plain_creates (node (core_module k n) ps) e i = refl
plain_creates (node (core_instance k n) ps) e i = refl
plain_creates (node (core_type k) ps) e i = refl
plain_creates (node (core_item x) ps) e i = refl

-- so nothing new is named
pub names_none : (s : Side) (n : NamedTypes) (t : Type_tree) → (sort t ≡ is_type → ⊥) → (sort t ≡ is_instance → ⊥) → Names s n n (creates t)
names_none s n t e i = λ d. ap (λ is. with_named same_identity (names_for s d) (known n d) is) (sym (plain_creates t e i))
