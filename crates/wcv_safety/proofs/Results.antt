-- Functions that are seen alike give results that are seen alike.
use Rattle.std.proofs.Common.{◌≡◌, ◌∙◌, Bool, true, false, cond, Option, Some, None, refl, sym, ap, subst}
use Rattle.wcv_core.specs.Names.{Name}
use Rattle.wcv_types.specs.Seen.{Within, seen_head, seen, seen_parts}
use Rattle.wcv_types.specs.Tree.{named, record_of, variant_of, list_of, map_of, tuple_of, option_of, result_of, own_of, borrow_of, future_of, stream_of, fixed_list_of, flags_of, enum_of, Head, here, label, import, export, core_import, core_export, nothing, primitive, resource, defined, func, instance, component, type_entity, core_module, core_instance, core_type, core_item, node, Tree, Parts, none, part, Sort, is_nothing, is_func, sort, sort_at, parts}
use Rattle.wcv_types.specs.Unfold.{Type_tree}
use Rattle.wcv_lower.specs.Checks.{same_sort}
use Rattle.wcv_lower.specs.Trees.{unlabelled, if_given, result}
use Rattle.wcv_matching.specs.Matching.{Reading, outside}

module _ {A : Type 0} where
  -- a node is of the sort of what is seen of it
  seen-sort_at : (f : Name → Within A) (h : Head Name Name) → sort_at (seen_head f h) ≡ sort_at h
  seen-sort_at f nothing = refl
  seen-sort_at f (primitive p) = refl
  seen-sort_at f (resource r s) = refl
  seen-sort_at f (defined i (named p)) = refl
  seen-sort_at f (defined i record_of) = refl
  seen-sort_at f (defined i variant_of) = refl
  seen-sort_at f (defined i list_of) = refl
  seen-sort_at f (defined i map_of) = refl
  seen-sort_at f (defined i tuple_of) = refl
  seen-sort_at f (defined i option_of) = refl
  seen-sort_at f (defined i result_of) = refl
  seen-sort_at f (defined i own_of) = refl
  seen-sort_at f (defined i borrow_of) = refl
  seen-sort_at f (defined i future_of) = refl
  seen-sort_at f (defined i stream_of) = refl
  seen-sort_at f (defined i (fixed_list_of n)) = refl
  seen-sort_at f (defined i (flags_of ns)) = refl
  seen-sort_at f (defined i (enum_of ns)) = refl
  seen-sort_at f (func i b) = refl
  seen-sort_at f (instance i own) = refl
  seen-sort_at f (component i ins outs) = refl
  seen-sort_at f type_entity = refl
  seen-sort_at f (core_module i n) = refl
  seen-sort_at f (core_instance i n) = refl
  seen-sort_at f (core_type i) = refl
  seen-sort_at f (core_item x) = refl

  pub seen-sort : (f : Name → Within A) (t : Type_tree) → sort (seen f t) ≡ sort t
  seen-sort f (node h ps) = seen-sort_at f h

  -- of two that are seen alike
  pub alike-sort : (f g : Name → Within A) (s t : Type_tree) → seen f s ≡ seen g t → sort s ≡ sort t
  alike-sort f g s t e = sym (seen-sort f s) ∙ ap sort e ∙ seen-sort g t

  -- the first part, and the others
  abbrev first_of : Parts (Within A) (Unit {0}) → Tree (Within A) (Unit {0}) → Tree (Within A) (Unit {0})
  first_of none t = t
  first_of (part r t ps) u = t

  abbrev rest_of : Parts (Within A) (Unit {0}) → Parts (Within A) (Unit {0})
  rest_of none = none
  rest_of (part r t ps) = ps

  -- what two options hold is seen alike, or neither has anything
  abbrev pub BothSeen : (f g : Name → Within A) → Option Type_tree → Option Type_tree → Type 0
  BothSeen f g None None = Unit {0}
  BothSeen f g (Some s) (Some t) = seen f s ≡ seen g t
  BothSeen f g _ _ = ⊥

  given-seen : (f g : Name → Within A) (s t : Type_tree) → seen f s ≡ seen g t → BothSeen f g (if_given s) (if_given t)
  given-seen f g s t e = subst (λ (k : Sort). BothSeen f g (cond (same_sort is_nothing (sort s)) None (Some s)) (cond (same_sort is_nothing k) None (Some t))) (alike-sort f g s t e) (go (same_sort is_nothing (sort s)))
    where
      go : (b : Bool) → BothSeen f g (cond b None (Some s)) (cond b None (Some t))
      go true = tt
      go false = e

  unlabelled-seen : (f g : Name → Within A) (ps qs : Parts Name Name) → seen_parts f ps ≡ seen_parts g qs → BothSeen f g (unlabelled ps) (unlabelled qs)
  unlabelled-seen f g none none e = tt
  unlabelled-seen f g none (part r t qs) e = absurd (cc)
  unlabelled-seen f g (part r t ps) none e = absurd (cc)
  unlabelled-seen f g (part here s ps) (part here t qs) e = given-seen f g s t (ap (λ (x : Parts (Within A) (Unit {0})). first_of x (seen f s)) e)
  unlabelled-seen f g (part here s ps) (part (label o) t qs) e = absurd (cc)
  unlabelled-seen f g (part here s ps) (part (import o) t qs) e = absurd (cc)
  unlabelled-seen f g (part here s ps) (part (export o) t qs) e = absurd (cc)
  unlabelled-seen f g (part here s ps) (part (core_import l o) t qs) e = absurd (cc)
  unlabelled-seen f g (part here s ps) (part (core_export o) t qs) e = absurd (cc)
  unlabelled-seen f g (part (label n) s ps) (part here t qs) e = absurd (cc)
  unlabelled-seen f g (part (label n) s ps) (part (label o) t qs) e = unlabelled-seen f g ps qs (ap rest_of e)
  unlabelled-seen f g (part (label n) s ps) (part (import o) t qs) e = absurd (cc)
  unlabelled-seen f g (part (label n) s ps) (part (export o) t qs) e = absurd (cc)
  unlabelled-seen f g (part (label n) s ps) (part (core_import l o) t qs) e = absurd (cc)
  unlabelled-seen f g (part (label n) s ps) (part (core_export o) t qs) e = absurd (cc)
  unlabelled-seen f g (part (import n) s ps) (part here t qs) e = absurd (cc)
  unlabelled-seen f g (part (import n) s ps) (part (label o) t qs) e = absurd (cc)
  unlabelled-seen f g (part (import n) s ps) (part (import o) t qs) e = unlabelled-seen f g ps qs (ap rest_of e)
  unlabelled-seen f g (part (import n) s ps) (part (export o) t qs) e = absurd (cc)
  unlabelled-seen f g (part (import n) s ps) (part (core_import l o) t qs) e = absurd (cc)
  unlabelled-seen f g (part (import n) s ps) (part (core_export o) t qs) e = absurd (cc)
  unlabelled-seen f g (part (export n) s ps) (part here t qs) e = absurd (cc)
  unlabelled-seen f g (part (export n) s ps) (part (label o) t qs) e = absurd (cc)
  unlabelled-seen f g (part (export n) s ps) (part (import o) t qs) e = absurd (cc)
  unlabelled-seen f g (part (export n) s ps) (part (export o) t qs) e = unlabelled-seen f g ps qs (ap rest_of e)
  unlabelled-seen f g (part (export n) s ps) (part (core_import l o) t qs) e = absurd (cc)
  unlabelled-seen f g (part (export n) s ps) (part (core_export o) t qs) e = absurd (cc)
  unlabelled-seen f g (part (core_import m n) s ps) (part here t qs) e = absurd (cc)
  unlabelled-seen f g (part (core_import m n) s ps) (part (label o) t qs) e = absurd (cc)
  unlabelled-seen f g (part (core_import m n) s ps) (part (import o) t qs) e = absurd (cc)
  unlabelled-seen f g (part (core_import m n) s ps) (part (export o) t qs) e = absurd (cc)
  unlabelled-seen f g (part (core_import m n) s ps) (part (core_import l o) t qs) e = unlabelled-seen f g ps qs (ap rest_of e)
  unlabelled-seen f g (part (core_import m n) s ps) (part (core_export o) t qs) e = absurd (cc)
  unlabelled-seen f g (part (core_export n) s ps) (part here t qs) e = absurd (cc)
  unlabelled-seen f g (part (core_export n) s ps) (part (label o) t qs) e = absurd (cc)
  unlabelled-seen f g (part (core_export n) s ps) (part (import o) t qs) e = absurd (cc)
  unlabelled-seen f g (part (core_export n) s ps) (part (export o) t qs) e = absurd (cc)
  unlabelled-seen f g (part (core_export n) s ps) (part (core_import l o) t qs) e = absurd (cc)
  unlabelled-seen f g (part (core_export n) s ps) (part (core_export o) t qs) e = unlabelled-seen f g ps qs (ap rest_of e)

parts-seen : {A : Type 0} (f g : Reading A) (i j : Name) (a b : Bool) (ps qs : Parts Name Name) → seen (outside f) (node (func i a) ps) ≡ seen (outside g) (node (func j b) qs) → seen_parts (outside f) ps ≡ seen_parts (outside g) qs
parts-seen f g i j a b ps qs e = ap parts e

-- results of functions that are seen alike
pub result-seen : {A : Type 0} (f g : Reading A) (s t : Type_tree) → sort s ≡ is_func → sort t ≡ is_func → seen (outside f) s ≡ seen (outside g) t → BothSeen (outside f) (outside g) (result s) (result t)
result-seen f g (node (func i a) ps) (node (func j b) qs) d c e = unlabelled-seen (outside f) (outside g) ps qs (parts-seen f g i j a b ps qs e)
result-seen f g (node nothing ps) t d c e = absurd (cc)
result-seen f g (node (primitive p) ps) t d c e = absurd (cc)
result-seen f g (node (resource r s) ps) t d c e = absurd (cc)
result-seen f g (node (defined i k) ps) t d c e = absurd (cc)
result-seen f g (node (instance i own) ps) t d c e = absurd (cc)
result-seen f g (node (component i ins outs) ps) t d c e = absurd (cc)
result-seen f g (node type_entity ps) t d c e = absurd (cc)
result-seen f g (node (core_module i n) ps) t d c e = absurd (cc)
result-seen f g (node (core_instance i n) ps) t d c e = absurd (cc)
result-seen f g (node (core_type i) ps) t d c e = absurd (cc)
result-seen f g (node (core_item x) ps) t d c e = absurd (cc)
result-seen f g (node (func j c2) qs) (node nothing ps) d c e = absurd (cc)
result-seen f g (node (func j c2) qs) (node (primitive p) ps) d c e = absurd (cc)
result-seen f g (node (func j c2) qs) (node (resource r s) ps) d c e = absurd (cc)
result-seen f g (node (func j c2) qs) (node (defined i k) ps) d c e = absurd (cc)
result-seen f g (node (func j c2) qs) (node (instance i own) ps) d c e = absurd (cc)
result-seen f g (node (func j c2) qs) (node (component i ins outs) ps) d c e = absurd (cc)
result-seen f g (node (func j c2) qs) (node type_entity ps) d c e = absurd (cc)
result-seen f g (node (func j c2) qs) (node (core_module i n) ps) d c e = absurd (cc)
result-seen f g (node (func j c2) qs) (node (core_instance i n) ps) d c e = absurd (cc)
result-seen f g (node (func j c2) qs) (node (core_type i) ps) d c e = absurd (cc)
result-seen f g (node (func j c2) qs) (node (core_item x) ps) d c e = absurd (cc)
