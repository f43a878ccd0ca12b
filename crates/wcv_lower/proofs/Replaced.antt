-- Replacing under a renaming.
use Rattle.std.proofs.Common.{◌≡◌, map, refl, ◌∙◌, ap, Bool, true, false, not, ◌||◌, cond, Some, None}
use Rattle.std.specs.Prelude.{Option}
use Rattle.std.specs.Option.{option_map}
use Rattle.wcv_core.specs.Names.{Name}
use Rattle.wcv_types.specs.Identity.{Identity, of_node, of_reference, identity_at, same_known, rename_identity}
use Rattle.wcv_types.specs.Rename.{rename, rename_parts, rename_head, rename_paths}
use Rattle.wcv_types.specs.Replacing.{Replacement, given_at, given_or, or_same, new_resource, moved, moves, given_elsewhere, changed, changed_in, again_head, new_head, replaced, replaced_in}
use Rattle.wcv_types.specs.Tree.{Head, nothing, primitive, resource, defined, func, instance, component, type_entity, core_module, core_instance, core_type, core_item, node, Parts, none, part, head}
use Rattle.wcv_types.specs.Unfold.{Type_tree}
use Rattle.wcv_types.proofs.Identity.{same_under, identity-same}
use Rattle.wcv_lower.specs.Renamed.{Renaming}
use Rattle.wcv_lower.proofs.Renamed.{same-renamed, head-renamed}

module _ (w : Renaming) where
  abbrev f : Name → Name
  f = w.resources.to

  abbrev g : Name → Name
  g = w.identities.to

  abbrev to : Type_tree → Type_tree
  to t = rename f g t

  abbrev known : Identity → Identity
  known i = rename_identity f g i

  same_known-renamed : (a b : Option Identity) → same_known (option_map known a) (option_map known b) ≡ same_known a b
  same_known-renamed None b = refl
  same_known-renamed (Some i) None = refl
  same_known-renamed (Some i) (Some j) = same-renamed w i j

  -- what replaces the renamed ones
  pub record Follows (m l : Replacement) : Type 0 where
    pub resources : (r : Name) → l.resources (f r) ≡ option_map f (m.resources r)
    pub nodes : (i : Identity) → l.nodes (known i) ≡ option_map to (m.nodes i)
    pub again : (i : Name) → l.again (g i) ≡ g (m.again i)

  module _ (m l : Replacement) (e : Follows m l) where
    given-renamed : (h : Head Name Name) → given_at l (rename_head f g h) ≡ option_map to (given_at m h)
    given-renamed (resource r s) = e.nodes (of_reference r s)
    given-renamed (defined i k) = e.nodes (of_node i)
    given-renamed (func i b) = e.nodes (of_node i)
    given-renamed (instance i own) = e.nodes (of_node i)
    given-renamed (component i ins outs) = e.nodes (of_node i)
    given-renamed (core_module i n) = e.nodes (of_node i)
    given-renamed (core_instance i n) = e.nodes (of_node i)
    given-renamed nothing = refl
    given-renamed (primitive p) = refl
    given-renamed type_entity = refl
    given-renamed (core_type i) = refl
    given-renamed (core_item x) = refl

    elsewhere-renamed : (o : Option Type_tree) (h : Head Name Name) (b : Bool) → given_elsewhere (option_map to o) (rename_head f g h) b ≡ given_elsewhere o h b
    elsewhere-renamed None h b = refl
    elsewhere-renamed (Some t) h b =
        ap not ((λ j. same_known (identity-same f g h j) (head-renamed w t j)) ∙ same_known-renamed (identity_at h) (identity_at (head t)))

    moved-renamed : (r : Name) (o : Option Name) → moved (f r) (option_map f o) ≡ moved r o
    moved-renamed r None = refl
    moved-renamed r (Some q) = ap not (same_under f w.resources.back r q (w.resources.is_back r) (w.resources.is_back q))

    moves-renamed : (h : Head Name Name) → moves l (rename_head f g h) ≡ moves m h
    moves-renamed (resource r s) = ap (moved (f r)) (e.resources r) ∙ moved-renamed r (m.resources r)
    moves-renamed _ = refl

    mutual
      changed-renamed : (t : Type_tree) → changed l (to t) ≡ changed m t
      changed-renamed (node h ps) =
          (λ j. given_elsewhere (given-renamed h j) (rename_head f g h) (moves-renamed h j || changed_in-renamed ps j)) ∙ elsewhere-renamed (given_at m h) h (moves m h || changed_in m ps)

      changed_in-renamed : (ps : Parts Name Name) → changed_in l (rename_parts f g ps) ≡ changed_in m ps
      changed_in-renamed none = refl
      changed_in-renamed (part k t ps) = λ j. changed-renamed t j || changed_in-renamed ps j

    resource-renamed : (r : Name) → new_resource l (f r) ≡ f (new_resource m r)
    resource-renamed r = ap (or_same (f r)) (e.resources r) ∙ go (m.resources r)
      where
        go : (o : Option Name) → or_same (f r) (option_map f o) ≡ f (or_same r o)
        go None = refl
        go (Some q) = refl

    again-renamed : (h : Head Name Name) → again_head l (rename_head f g h) ≡ rename_head f g (again_head m h)
    again-renamed (defined i k) = λ j. defined (e.again i j) k
    again-renamed (func i b) = λ j. func (e.again i j) b
    again-renamed (instance i own) = λ j. instance (e.again i j) (map f own)
    again-renamed (component i ins outs) = λ j. component (e.again i j) (rename_paths f ins) (rename_paths f outs)
    again-renamed (core_module i n) = λ j. core_module (e.again i j) n
    again-renamed (core_instance i n) = λ j. core_instance (e.again i j) n
    again-renamed nothing = refl
    again-renamed (primitive p) = refl
    again-renamed (resource r s) = refl
    again-renamed type_entity = refl
    again-renamed (core_type i) = refl
    again-renamed (core_item x) = refl

    either-renamed : (b : Bool) (h : Head Name Name) → cond b (again_head l (rename_head f g h)) (rename_head f g h) ≡ rename_head f g (cond b (again_head m h) h)
    either-renamed true h = again-renamed h
    either-renamed false h = refl

    new_head-renamed : (b : Bool) (h : Head Name Name) → new_head l b (rename_head f g h) ≡ rename_head f g (new_head m b h)
    new_head-renamed b (resource r s) = λ j. resource (resource-renamed r j) (g s)
    new_head-renamed b nothing = refl
    new_head-renamed b (primitive p) = refl
    new_head-renamed b type_entity = refl
    new_head-renamed b (defined i k) = either-renamed b (defined i k)
    new_head-renamed b (func i a) = either-renamed b (func i a)
    new_head-renamed b (instance i own) = either-renamed b (instance i own)
    new_head-renamed b (component i ins outs) = either-renamed b (component i ins outs)
    new_head-renamed b (core_module i n) = either-renamed b (core_module i n)
    new_head-renamed b (core_instance i n) = either-renamed b (core_instance i n)
    new_head-renamed b (core_type i) = either-renamed b (core_type i)
    new_head-renamed b (core_item x) = either-renamed b (core_item x)

    given_or-renamed : (o : Option Type_tree) (t : Type_tree) → given_or (option_map to o) (to t) ≡ to (given_or o t)
    given_or-renamed None t = refl
    given_or-renamed (Some u) t = refl

    mutual
      pub replaced-renamed : (t : Type_tree) → replaced l (to t) ≡ to (replaced m t)
      replaced-renamed (node h ps) =
          let b : Bool = moves m h || changed_in m ps in
          let k : new_head l (moves l (rename_head f g h) || changed_in l (rename_parts f g ps)) (rename_head f g h) ≡ rename_head f g (new_head m b h) =
          (λ j. new_head l (moves-renamed h j || changed_in-renamed ps j) (rename_head f g h)) ∙ new_head-renamed b h in
          (λ j. given_or (given-renamed h j) (node (k j) (replaced_in-renamed ps j))) ∙ given_or-renamed (given_at m h) (node (new_head m b h) (replaced_in m ps))

      replaced_in-renamed : (ps : Parts Name Name) → replaced_in l (rename_parts f g ps) ≡ rename_parts f g (replaced_in m ps)
      replaced_in-renamed none = refl
      replaced_in-renamed (part k t ps) = λ j. part k (replaced-renamed t j) (replaced_in-renamed ps j)
