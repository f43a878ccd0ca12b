-- The first paths to the resources of an instance type lead to the new ones in an instance of it.
use Rattle.std.proofs.Common.{◌≡◌, ℕ, zero, suc, List, [], ◌∷◌, refl, sym, ◌∙◌, ap, subst, Bool, true, false, ◌||◌, cond, Some, None}
use Rattle.std.specs.Prelude.{Option, slice_get}
use Rattle.std.specs.Option.{option_map}
use Rattle.std.proofs.lemmas.Option.{slice_get-map}
use Rattle.wcv_core.specs.Names.{Name, Place, member}
use Rattle.wcv_types.specs.Identity.{Identity, of_node, of_reference}
use Rattle.wcv_types.specs.Paths.{IsTypeOf, IsWayTo, PathLeadsTo}
use Rattle.wcv_types.specs.Replacing.{Replacement, given_or, or_same, moves, changed_in, new_head, replaced, replaced_in}
use Rattle.wcv_types.specs.Resources.{RefersTo}
use Rattle.wcv_types.specs.Tree.{Extern_name, nothing, primitive, resource, defined, func, instance, component, type_entity, core_module, core_instance, core_type, core_item, here, label, import, export, core_import, core_export, node, Parts, none, part, head, exports_in, exports, first_part, rest_parts}
use Rattle.wcv_types.specs.Unfold.{Type_tree}
use Rattle.wcv_types.proofs.FirstPath.{first_path-leads}
use Rattle.wcv_types.proofs.Lists.{some-inj}
use Rattle.wcv_types.specs.FirstPath.{first_path}
use Rattle.wcv_lower.specs.Mapped.{map_entries}
use Rattle.wcv_lower.specs.Names.{Names, again}
use Rattle.wcv_lower.specs.NewTypes.{owned_anew, instance_tree}
use Rattle.wcv_lower.specs.Owned.{OwnsNot, OwnsNotIn}

owns-not-inside : (s : Name) (ps : Parts Name Name) (k : ℕ) (e : Extern_name × Type_tree) → OwnsNotIn s ps → slice_get (exports_in ps) k ≡ Some e → OwnsNot s e.1
owns-not-inside s none k e h g = cc
owns-not-inside s (part (export n) t ps) zero e h g = subst (λ (x : Extern_name × Type_tree). OwnsNot s x.1) (some-inj g) h.0
owns-not-inside s (part (export n) t ps) (suc k) e h g = owns-not-inside s ps k e h.1 g
owns-not-inside s (part here t ps) k e h g = owns-not-inside s ps k e h.1 g
owns-not-inside s (part (label l) t ps) k e h g = owns-not-inside s ps k e h.1 g
owns-not-inside s (part (import n) t ps) k e h g = owns-not-inside s ps k e h.1 g
owns-not-inside s (part (core_import m n) t ps) k e h g = owns-not-inside s ps k e h.1 g
owns-not-inside s (part (core_export n) t ps) k e h g = owns-not-inside s ps k e h.1 g

module _ (m : Replacement) (plain : (i : Identity) → m.nodes i ≡ None) where
  exports-replaced : (ps : Parts Name Name) → exports_in (replaced_in m ps) ≡ map_entries (replaced m) (exports_in ps)
  exports-replaced none = refl
  exports-replaced (part (export n) t ps) = ap (λ (es : List (Extern_name × Type_tree)). (n, replaced m t) ∷ es) (exports-replaced ps)
  exports-replaced (part here t ps) = exports-replaced ps
  exports-replaced (part (label l) t ps) = exports-replaced ps
  exports-replaced (part (import n) t ps) = exports-replaced ps
  exports-replaced (part (core_import a n) t ps) = exports-replaced ps
  exports-replaced (part (core_export n) t ps) = exports-replaced ps

  module _ (r s : Name) (moved : m.resources r ≡ Some s) where
    refers-replaced : (t : Type_tree) → RefersTo r (head t) → RefersTo s (head (replaced m t))
    refers-replaced (node (resource q x) ps) e =
        subst (λ (o : Option Type_tree). RefersTo s (head (given_or o (node (resource (or_same q (m.resources q)) x) (replaced_in m ps))))) (sym (plain (of_reference q x)))
        (subst (λ (y : Name). s ≡ or_same y (m.resources y)) e (sym (ap (or_same r) moved)))
    refers-replaced (node nothing ps) e = absurd e
    refers-replaced (node (primitive p) ps) e = absurd e
    refers-replaced (node (defined i k) ps) e = absurd e
    refers-replaced (node (func i b) ps) e = absurd e
    refers-replaced (node (instance i own) ps) e = absurd e
    refers-replaced (node (component i ins outs) ps) e = absurd e
    refers-replaced (node type_entity ps) e = absurd e
    refers-replaced (node (core_module i n) ps) e = absurd e
    refers-replaced (node (core_instance i n) ps) e = absurd e
    refers-replaced (node (core_type i) ps) e = absurd e
    refers-replaced (node (core_item x) ps) e = absurd e

    second-replaced : (ps : Parts Name Name) → RefersTo r (head (first_part (rest_parts ps))) → RefersTo s (head (first_part (rest_parts (replaced_in m ps))))
    second-replaced none e = absurd e
    second-replaced (part a t none) e = absurd e
    second-replaced (part a t (part b u ps)) e = refers-replaced u e

    type-replaced : (t : Type_tree) → IsTypeOf r t → IsTypeOf s (replaced m t)
    type-replaced (node type_entity ps) w = (refl, second-replaced ps w.1)
    type-replaced (node nothing ps) w = absurd (cc)
    type-replaced (node (primitive p) ps) w = absurd (cc)
    type-replaced (node (resource q x) ps) w = absurd (cc)
    type-replaced (node (defined i k) ps) w = absurd (cc)
    type-replaced (node (func i b) ps) w = absurd (cc)
    type-replaced (node (instance i own) ps) w = absurd (cc)
    type-replaced (node (component i ins outs) ps) w = absurd (cc)
    type-replaced (node (core_module i n) ps) w = absurd (cc)
    type-replaced (node (core_instance i n) ps) w = absurd (cc)
    type-replaced (node (core_type i) ps) w = absurd (cc)
    type-replaced (node (core_item x) ps) w = absurd (cc)

    -- an instance on the way, with what it exports
    abbrev IsWayOn : Type_tree → Type_tree → Type 0
    IsWayOn t u = IsWayTo s u × (exports u ≡ map_entries (replaced m) (exports t))

    way-replaced : (t : Type_tree) → IsWayTo r t → OwnsNot s t → IsWayOn t (replaced m t)
    way-replaced (node (instance i own) ps) w h =
        subst (λ (o : Option Type_tree). IsWayOn (node (instance i own) ps) (given_or o (node (new_head m (moves m (instance i own) || changed_in m ps) (instance i own)) (replaced_in m ps)))) (sym (plain (of_node i))) (go (moves m (instance i own) || changed_in m ps))
      where
        go : (b : Bool) → IsWayOn (node (instance i own) ps) (node (new_head m b (instance i own)) (replaced_in m ps))
        go true = ((refl, h.0), exports-replaced ps)
        go false = ((refl, h.0), exports-replaced ps)
    way-replaced (node nothing ps) w h = absurd (cc)
    way-replaced (node (primitive p) ps) w h = absurd (cc)
    way-replaced (node (resource q x) ps) w h = absurd (cc)
    way-replaced (node (defined i k) ps) w h = absurd (cc)
    way-replaced (node (func i b) ps) w h = absurd (cc)
    way-replaced (node (component i ins outs) ps) w h = absurd (cc)
    way-replaced (node type_entity ps) w h = absurd (cc)
    way-replaced (node (core_module i n) ps) w h = absurd (cc)
    way-replaced (node (core_instance i n) ps) w h = absurd (cc)
    way-replaced (node (core_type i) ps) w h = absurd (cc)
    way-replaced (node (core_item x) ps) w h = absurd (cc)

    exports-spare : (t : Type_tree) → OwnsNot s t → (k : ℕ) (e : Extern_name × Type_tree) → slice_get (exports t) k ≡ Some e → OwnsNot s e.1
    exports-spare (node h ps) w k e g = owns-not-inside s ps k e w.1 g

    found-replaced : (es : List (Extern_name × Type_tree)) (k : ℕ) (e : Extern_name × Type_tree) → slice_get es k ≡ Some e → slice_get (map_entries (replaced m) es) k ≡ Some (e.0, replaced m e.1)
    found-replaced es k e g =
        let f : Extern_name × Type_tree → Extern_name × Type_tree = λ x. (x.0, replaced m x.1) in
        slice_get-map f es k ∙ ap (option_map f) g

    -- a path to a resource leads to the one in its place
    leads-replaced : (p : List ℕ) (es : List (Extern_name × Type_tree)) → ((k : ℕ) (e : Extern_name × Type_tree) → slice_get es k ≡ Some e → OwnsNot s e.1) → PathLeadsTo p r es → PathLeadsTo p s (map_entries (replaced m) es)
    leads-replaced [] es h w = absurd w
    leads-replaced (k ∷ []) es h w = ((w.0.0, replaced m w.0.1), found-replaced es k w.0 w.1, type-replaced w.0.1 w.2)
    leads-replaced (k ∷ j ∷ p) es h w =
        let own : OwnsNot s w.0.1 = h k w.0 w.1 in
        let v : IsWayOn w.0.1 (replaced m w.0.1) = way-replaced w.0.1 w.2 own in (
          (w.0.0, replaced m w.0.1),
          found-replaced es k w.0 w.1,
          v.0,
          subst (PathLeadsTo (j ∷ p) s) (sym v.1) (leads-replaced (j ∷ p) (exports w.0.1) (exports-spare w.0.1 own) w.3),
        )

-- the first path to what the type owns leads to the resource that is new, where no node inside owns that
pub instance_leads : (names : Names) (q : Place) (i : Name) (own : List Name) (ps : Parts Name Name) (r : Name) (p : List ℕ) → member r own ≡ true → OwnsNotIn (names.resource (again q r)) ps → first_path r (exports_in ps) ≡ Some p →
    PathLeadsTo p (names.resource (again q r)) (exports (instance_tree names q (node (instance i own) ps)))
instance_leads names q i own ps r p e h f =
    let m : Replacement = owned_anew names q own in
    let s : Name = names.resource (again q r) in
    let moved : m.resources r ≡ Some s = ap (λ (b : Bool). cond {A = Option Name} b (Some s) None) e in
    subst (PathLeadsTo p s) (sym (exports-replaced m (λ i. refl) ps)) (leads-replaced m (λ i. refl) r s moved p (exports_in ps) (λ k x g. owns-not-inside s ps k x h g) (first_path-leads r (exports_in ps) p f))
