-- At most one reading of the resources to which paths lead opens a list of entries.
use Rattle.std.proofs.Common.{◌≡◌, ℕ, zero, suc, ◌+◌, List, [], ◌∷◌, false, refl, ap, sym, subst, ◌∙◌, arith, true}
use Rattle.std.specs.Prelude.{Contains, slice_get, Some}
use Rattle.wcv_core.specs.Names.{Name, member}
use Rattle.wcv_types.specs.Tree as tree
use Rattle.wcv_types.specs.Tree.{Text, Extern_name, Tree, node, nothing, primitive, resource, defined, func, instance, component, type_entity, core_module, core_instance, core_type, core_item, Sort, is_instance, is_type, is_resource, sort, head, referenced, imported_at}
use Rattle.wcv_types.specs.Paths.{IsTypeOf, PathLeadsTo}
use Rattle.wcv_types.specs.Resources.{owns, RefersTo}
use Rattle.wcv_types.specs.Seen.{Within, outer, seen}
use Rattle.wcv_types.specs.Unfold.{Type_tree}
use Rattle.wcv_matching.specs.Matching.{Item_rule, Entries, Reading, outside, in_instance, MatchAs, MatchBelow, OpensImports, opened_by, named, named_exports, named_imports}
use Rattle.wcv_matching.proofs.Entries.{among}
use Rattle.wcv_matching.proofs.MatchingOrder.{MatchBelow-add}
use Rattle.wcv_matching.proofs.NamedLists.{some-inj}

pub named_get : {X : Type 0} (es : List (Extern_name × X)) (k : ℕ) (e : Extern_name × X) → slice_get es k ≡ Some e → slice_get (named es) k ≡ Some (e.0.name, e.1)
named_get [] k e h = cc
named_get (x ∷ es) zero e h = ap (λ (z : Extern_name × _). Some (z.0.name, z.1)) (some-inj h)
named_get (x ∷ es) (suc k) e h = named_get es k e h

pub contains-named : {X : Type 0} (es : List (Extern_name × X)) (k : ℕ) (e : Extern_name × X) → slice_get es k ≡ Some e → Contains (named es) (e.0.name, e.1)
contains-named es k e h = among (named es) k (e.0.name, e.1) (named_get es k e h)

-- the rule of the sort, by the sort of the right tree
module _ (C : Item_rule) where
  pub rule : (d : ℕ) (A : Type 0) (f g : Reading A) (a b : Type_tree) (s : Sort) → sort b ≡ s → MatchBelow C (suc d) A f g a b → MatchAs C (MatchBelow C d) s A f g a b
  rule d A f g a b s e m = subst (λ (z : Sort). MatchAs C (MatchBelow C d) z A f g a b) (m.0 ∙ e) m.1

reference-seen : {A : Type 0} (f g : Reading A) (t : Type_tree) (r : Name) → RefersTo r (head t) → seen (outside f) t ≡ seen (outside g) t → f r ≡ g r
reference-seen f g (node (resource q s) ps) r e h =
    let p : outer (f q) ≡ outer (g q) = cc in
    let p' : f q ≡ g q = cc in
    ap f e ∙ p' ∙ sym (ap g e)
reference-seen f g (node nothing ps) r e h = absurd e
reference-seen f g (node (primitive p) ps) r e h = absurd e
reference-seen f g (node (defined i k) ps) r e h = absurd e
reference-seen f g (node (func i b) ps) r e h = absurd e
reference-seen f g (node (instance i own) ps) r e h = absurd e
reference-seen f g (node (component i ins outs) ps) r e h = absurd e
reference-seen f g (node type_entity ps) r e h = absurd e
reference-seen f g (node (core_module i w) ps) r e h = absurd e
reference-seen f g (node (core_instance i w) ps) r e h = absurd e
reference-seen f g (node (core_type i) ps) r e h = absurd e
reference-seen f g (node (core_item i) ps) r e h = absurd e

pub refers-sort : (t : Type_tree) (r : Name) → RefersTo r (head t) → sort t ≡ is_resource
refers-sort (node (resource q s) ps) r e = refl
refers-sort (node nothing ps) r e = absurd e
refers-sort (node (primitive p) ps) r e = absurd e
refers-sort (node (defined i k) ps) r e = absurd e
refers-sort (node (func i b) ps) r e = absurd e
refers-sort (node (instance i own) ps) r e = absurd e
refers-sort (node (component i ins outs) ps) r e = absurd e
refers-sort (node type_entity ps) r e = absurd e
refers-sort (node (core_module i w) ps) r e = absurd e
refers-sort (node (core_instance i w) ps) r e = absurd e
refers-sort (node (core_type i) ps) r e = absurd e
refers-sort (node (core_item i) ps) r e = absurd e

-- one reference is matched by one tree in one way
module _ (C : Item_rule) where
  one-reference : (d : ℕ) (A : Type 0) (f g h : Reading A) (y t : Type_tree) (r : Name) → RefersTo r (head t) → MatchBelow C d A f g y t → MatchBelow C d A f h y t → g r ≡ h r
  one-reference zero A f g h y t r e m n = absurd m
  one-reference (suc d) A f g h y t r e m n =
      let p : seen (outside f) y ≡ seen (outside g) t = rule C d A f g y t is_resource (refers-sort t r e) m in
      let q : seen (outside f) y ≡ seen (outside h) t = rule C d A f h y t is_resource (refers-sort t r e) n in
      reference-seen g h t r e (sym p ∙ q)

module _ (C : Item_rule) where
  one-entry : (d : ℕ) (A : Type 0) (f g h : Reading A) (y t : Type_tree) (r : Name) → IsTypeOf r t → MatchBelow C d A f g y t → MatchBelow C d A f h y t → g r ≡ h r
  one-entry zero A f g h y t r e m n = absurd m
  one-entry (suc d) A f g h y t r e m n =
      one-reference C d A f g h (referenced y) (referenced t) r e.1 (rule C d A f g y t is_type e.0 m).0 (rule C d A f h y t is_type e.0 n).0

pub within-outer : {A : Type 0} (a b : A) → outer a ≡ outer b → a ≡ b
within-outer a b e = cc

pub outside-read : {A : Type 0} (t : Type_tree) (g : Reading A) (r : Name) → owns (head t) r ≡ false → in_instance t g r ≡ outer (g r)
outside-read t g r e = rw e refl

module _ (C : Item_rule) where
  pub one_reading : (p : List ℕ) (r : Name) (d : ℕ) (A : Type 0) (f g h : Reading A) (xs : List (Text × Type_tree)) (es : List (Extern_name × Type_tree)) → PathLeadsTo p r es →
      Entries (MatchBelow C d A f g) xs (named es) → Entries (MatchBelow C d A f h) xs (named es) → g r ≡ h r
  one_reading [] r d A f g h xs es l m n = absurd l
  one_reading (k ∷ []) r d A f g h xs es l m n =
      let c : Contains (named es) (l.0.0.name, l.0.1) = contains-named es k l.0 l.1 in
      let x = m l.0.0.name l.0.1 c in
      let y = n l.0.0.name l.0.1 c in
      let e : x.0 ≡ y.0 = some-inj (sym x.1 ∙ y.1) in
      one-entry C d A f g h y.0 l.0.1 r l.2 (subst (λ (z : Type_tree). MatchBelow C d A f g z l.0.1) e x.2) y.2
  one_reading (k ∷ j ∷ p) r zero A f g h xs es l m n = absurd (m l.0.0.name l.0.1 (contains-named es k l.0 l.1)).2
  one_reading (k ∷ j ∷ p) r (suc d) A f g h xs es l m n =
      let c : Contains (named es) (l.0.0.name, l.0.1) = contains-named es k l.0 l.1 in
      let t : Type_tree = l.0.1 in
      let x = m l.0.0.name t c in
      let y = n l.0.0.name t c in
      let e : x.0 ≡ y.0 = some-inj (sym x.1 ∙ y.1) in
      let m' = rule C d A f g y.0 t is_instance l.2.0 (subst (λ (z : Type_tree). MatchBelow C (suc d) A f g z t) e x.2) in
      let n' = rule C d A f h y.0 t is_instance l.2.0 y.2 in
      let q : in_instance t g r ≡ in_instance t h r =
      one_reading (j ∷ p) r d (Within A) (in_instance y.0 f) (in_instance t g) (in_instance t h) (named_exports y.0) (tree.exports t) l.3 m' n' in
      within-outer (g r) (h r) (sym (outside-read t g r l.2.1) ∙ q ∙ outside-read t h r l.2.1)

-- at most one substitution lets arguments open the imports of a component whose imported resources have paths
module _ (C : Item_rule) where
  pub one_opening : (p : List ℕ) (r : Name) (s t : Name → Name) (args : List (Text × Type_tree)) (c : Type_tree) (d : ℕ) → PathLeadsTo p r (tree.imports c) → member r (imported_at (head c)) ≡ true →
      Entries (MatchBelow C d Name (λ q. q) (opened_by s c)) args (named_imports c) → Entries (MatchBelow C d Name (λ q. q) (opened_by t c)) args (named_imports c) → s r ≡ t r
  one_opening p r s t args c d l i m n =
      let e : opened_by s c r ≡ opened_by t c r = one_reading C p r d Name (λ q. q) (opened_by s c) (opened_by t c) args (tree.imports c) l m n in
      let a : opened_by s c r ≡ s r = rw i refl in
      let b : opened_by t c r ≡ t r = rw i refl in
      sym a ∙ e ∙ b

-- so where each entry matches at a height of its own
module _ (C : Item_rule) where
  any_reading : (p : List ℕ) (r : Name) (g h : Reading Name) (xs : List (Text × Type_tree)) (es : List (Extern_name × Type_tree)) → PathLeadsTo p r es →
      Entries (λ x y. (d : ℕ) × MatchBelow C d Name (λ q. q) g x y) xs (named es) → Entries (λ x y. (d : ℕ) × MatchBelow C d Name (λ q. q) h x y) xs (named es) → g r ≡ h r
  any_reading [] r g h xs es l m n = absurd l
  any_reading (k ∷ []) r g h xs es l m n =
      let t : Type_tree = l.0.1 in
      let c : Contains (named es) (l.0.0.name, l.0.1) = contains-named es k l.0 l.1 in
      let x = m l.0.0.name t c in
      let y = n l.0.0.name t c in
      let e : x.0 ≡ y.0 = some-inj (sym x.1 ∙ y.1) in
      let a = subst (λ (z : Type_tree). MatchBelow C x.2.0 Name (λ q. q) g z t) e x.2.1 in
      one-entry C (y.2.0 + x.2.0) Name (λ q. q) g h y.0 t r l.2 (MatchBelow-add C y.2.0 x.2.0 (y.2.0 + x.2.0) Name (λ q. q) g y.0 t refl a)
      (MatchBelow-add C x.2.0 y.2.0 (y.2.0 + x.2.0) Name (λ q. q) h y.0 t (omega arith) y.2.1)
  any_reading (k ∷ j ∷ p) r g h xs es l m n =
      let t : Type_tree = l.0.1 in
      let c : Contains (named es) (l.0.0.name, l.0.1) = contains-named es k l.0 l.1 in
      let x = m l.0.0.name t c in
      let y = n l.0.0.name t c in
      let e : x.0 ≡ y.0 = some-inj (sym x.1 ∙ y.1) in
      let a = subst (λ (z : Type_tree). MatchBelow C x.2.0 Name (λ q. q) g z t) e x.2.1 in
      let d : ℕ = y.2.0 + x.2.0 in
      let m' = rule C d Name (λ q. q) g y.0 t is_instance l.2.0 (MatchBelow-add C (suc y.2.0) x.2.0 (suc d) Name (λ q. q) g y.0 t (omega arith) a) in
      let n' = rule C d Name (λ q. q) h y.0 t is_instance l.2.0 (MatchBelow-add C (suc x.2.0) y.2.0 (suc d) Name (λ q. q) h y.0 t (omega arith) y.2.1) in
      let q : in_instance t g r ≡ in_instance t h r =
      one_reading C (j ∷ p) r d (Within Name) (in_instance y.0 (λ q. q)) (in_instance t g) (in_instance t h) (named_exports y.0) (tree.exports t) l.3 m' n' in
      within-outer (g r) (h r) (sym (outside-read t g r l.2.1) ∙ q ∙ outside-read t h r l.2.1)

-- at most one substitution lets arguments open the imports, on the resources that the component imports
module _ (C : Item_rule) where
  pub one_substitution : (p : List ℕ) (r : Name) (s t : Name → Name) (args : List (Text × Type_tree)) (c : Type_tree) → PathLeadsTo p r (tree.imports c) → member r (imported_at (head c)) ≡ true →
      OpensImports C s args c → OpensImports C t args c → s r ≡ t r
  one_substitution p r s t args c l i m n =
      let e : opened_by s c r ≡ opened_by t c r = any_reading C p r (opened_by s c) (opened_by t c) args (tree.imports c) l m n in
      let a : opened_by s c r ≡ s r = rw i refl in
      let b : opened_by t c r ≡ t r = rw i refl in
      sym a ∙ e ∙ b
