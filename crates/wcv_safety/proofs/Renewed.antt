-- Matching looks at no identity and no stamp of a node: what is renewed matches as it did.
use Rattle.std.proofs.Common.{◌≡◌, ◌∙◌, ℕ, zero, suc, refl, sym, subst}
use Rattle.wcv_core.specs.Names.{Name, Place, member}
use Rattle.wcv_types.specs.Tree.{Head, nothing, primitive, resource, defined, func, instance, component, type_entity, core_module, core_instance, core_type, core_item, node, Parts, Sort, sort, owned}
use Rattle.wcv_types.specs.Unfold.{Type_tree}
use Rattle.wcv_matching.specs.Matching.{Item_rule, Reading, MatchBelow, MatchAs}
use Rattle.wcv_lower.specs.Names.{Names}
use Rattle.wcv_lower.specs.NewTypes.{renewed, type_entry}
use Rattle.wcv_safety.specs.Fitting.{MatchesAs}

module _ (names : Names) (p : Place) where
  pub renewed-owned : (t : Type_tree) → owned (renewed names p t) ≡ owned t
  renewed-owned (node nothing ps) = refl
  renewed-owned (node (primitive p) ps) = refl
  renewed-owned (node (resource r s) ps) = refl
  renewed-owned (node (defined i k) ps) = refl
  renewed-owned (node (func i b) ps) = refl
  renewed-owned (node (instance i own) ps) = refl
  renewed-owned (node (component i ins outs) ps) = refl
  renewed-owned (node type_entity ps) = refl
  renewed-owned (node (core_module i n) ps) = refl
  renewed-owned (node (core_instance i n) ps) = refl
  renewed-owned (node (core_type i) ps) = refl
  renewed-owned (node (core_item x) ps) = refl

  pub renewed-sort : (t : Type_tree) → sort (renewed names p t) ≡ sort t
  renewed-sort (node nothing ps) = refl
  renewed-sort (node (primitive p) ps) = refl
  renewed-sort (node (resource r s) ps) = refl
  renewed-sort (node (defined i k) ps) = refl
  renewed-sort (node (func i b) ps) = refl
  renewed-sort (node (instance i own) ps) = refl
  renewed-sort (node (component i ins outs) ps) = refl
  renewed-sort (node type_entity ps) = refl
  renewed-sort (node (core_module i n) ps) = refl
  renewed-sort (node (core_instance i n) ps) = refl
  renewed-sort (node (core_type i) ps) = refl
  renewed-sort (node (core_item x) ps) = refl

  module _ (C : Item_rule) {A : Type 0} (d : ℕ) where
    -- the right tree renewed, by its node
    right-as : (f g : Reading A) (a : Type_tree) (h : Head Name Name) (ps : Parts Name Name) → MatchAs C (MatchBelow C d) (sort (node h ps)) A f g a (node h ps) → MatchAs C (MatchBelow C d) (sort (node h ps)) A f g a (renewed names p (node h ps))
    right-as f g a nothing ps m = m
    right-as f g a (primitive p) ps m = m
    right-as f g a (resource r s) ps m = m
    right-as f g a (defined i k) ps m = m
    right-as f g a (func i b) ps m = m
    right-as f g a (instance i own) ps m = m
    right-as f g a (component i ins outs) ps m = m
    right-as f g a type_entity ps m = m
    right-as f g a (core_module i n) ps m = m
    right-as f g a (core_instance i n) ps m = m
    right-as f g a (core_type i) ps m = m
    right-as f g a (core_item x) ps m = m

    left-as : (f g : Reading A) (h : Head Name Name) (ps : Parts Name Name) (b : Type_tree) → MatchAs C (MatchBelow C d) (sort (node h ps)) A f g (node h ps) b → MatchAs C (MatchBelow C d) (sort (node h ps)) A f g (renewed names p (node h ps)) b
    left-as f g nothing ps b m = m
    left-as f g (primitive p) ps b m = m
    left-as f g (resource r s) ps b m = m
    left-as f g (defined i k) ps b m = m
    left-as f g (func i e) ps b m = m
    left-as f g (instance i own) ps b m = m
    left-as f g (component i ins outs) ps b m = m
    left-as f g type_entity ps b m = m
    left-as f g (core_module i n) ps b m = m
    left-as f g (core_instance i n) ps b m = m
    left-as f g (core_type i) ps b m = m
    left-as f g (core_item x) ps b m = m

  module _ (C : Item_rule) {A : Type 0} where
    right-renewed : (d : ℕ) (f g : Reading A) (a b : Type_tree) → MatchBelow C d A f g a b → MatchBelow C d A f g a (renewed names p b)
    right-renewed zero f g a b m = absurd m
    right-renewed (suc d) f g a (node h ps) m = (
      m.0 ∙ sym (renewed-sort (node h ps)),
      subst (λ (k : Sort). MatchAs C (MatchBelow C d) k A f g a (renewed names p (node h ps))) (sym m.0)
          (right-as C d f g a h ps (subst (λ (k : Sort). MatchAs C (MatchBelow C d) k A f g a (node h ps)) m.0 m.1)),
    )

    left-renewed : (d : ℕ) (f g : Reading A) (a b : Type_tree) → MatchBelow C d A f g a b → MatchBelow C d A f g (renewed names p a) b
    left-renewed zero f g a b m = absurd m
    left-renewed (suc d) f g (node h ps) b m = (
      renewed-sort (node h ps) ∙ m.0,
      subst (λ (k : Sort). MatchAs C (MatchBelow C d) k A f g (renewed names p (node h ps)) b) (sym (renewed-sort (node h ps))) (left-as C d f g h ps b m.1),
    )

    renewed-below : (d : ℕ) (f g : Reading A) (a b : Type_tree) → MatchBelow C d A f g (type_entry a) (type_entry b) → MatchBelow C d A f g (type_entry a) (type_entry (renewed names p b))
    renewed-below zero f g a b m = absurd m
    renewed-below (suc d) f g a b m = (refl, (right-renewed d f g a b m.1.0, left-renewed d g f b a m.1.1, λ r. m.1.2 r ∙ sym (same_own r)))
      where
        same_own : (r : Name) → member r (owned (renewed names p b)) ≡ member r (owned b)
        same_own r = λ j. member r (renewed-owned b j)

    -- types that match as entries still do where the second is renewed
    pub entry-renewed : (f g : Reading A) (a b : Type_tree) → MatchesAs C f g (type_entry a) (type_entry b) → MatchesAs C f g (type_entry a) (type_entry (renewed names p b))
    entry-renewed f g a b m = (m.0, renewed-below m.0 f g a b m.1)
