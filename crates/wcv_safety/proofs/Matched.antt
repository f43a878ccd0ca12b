-- Types that match under readings: entries of types, created types, and exports of instances that own nothing.
use Rattle.std.proofs.Common.{◌≡◌, ◌∙◌, ℕ, zero, suc, List, [], Bool, false, cond, refl, sym, ap, subst}
use Rattle.wcv_core.specs.CoreForm.{Group}
use Rattle.wcv_core.specs.Names.{Name, member}
use Rattle.wcv_closed.specs.ClosedMatching.{SupersKeepForm}
use Rattle.wcv_closed.specs.ClosedTable.{IsTable}
use Rattle.wcv_types.specs.Resources.{owns}
use Rattle.wcv_types.specs.Seen.{Within, outer, inner}
use Rattle.wcv_types.specs.Tree as tree
use Rattle.wcv_types.specs.Tree.{Text, Head, nothing, primitive, resource, defined, func, instance, component, type_entity, core_module, core_instance, core_type, core_item, node, Sort, is_instance, is_type, sort, head, owned, referenced}
use Rattle.wcv_types.specs.Unfold.{Type_tree}
use Rattle.wcv_matching.specs.Matching.{Item_rule, Reading, in_instance, MatchBelow, MatchAs, named_exports}
use Rattle.wcv_matching.specs.ModuleItems.{ItemsMatch}
use Rattle.wcv_matching.specs.TableMatching.{TypeMatches}
use Rattle.wcv_matching.proofs.MatchingKept.{MatchBelow-map}
use Rattle.wcv_matching.proofs.MatchingOrder.{Goes_on, EachFound-map}
use Rattle.wcv_matching.proofs.TableMatching.{items_go_on}
use Rattle.wcv_lower.specs.NewTypes.{type_entry}
use Rattle.wcv_lower.specs.Trees as trees
use Rattle.wcv_safety.specs.Clean.{AllAlike}
use Rattle.wcv_safety.specs.Fitting.{MatchesAs, Fits, FitsEach}
use Rattle.wcv_safety.proofs.Composing.{MatchesAs-trans, MatchesAs-map}

-- ## Type entities

pub created-is : (t : Type_tree) → sort t ≡ is_type → trees.created t ≡ type_entry (tree.created t)
created-is (node type_entity ps) e = refl
created-is (node nothing ps) e = cc
created-is (node (primitive p) ps) e = cc
created-is (node (resource r s) ps) e = cc
created-is (node (defined i k) ps) e = cc
created-is (node (func i b) ps) e = cc
created-is (node (instance i own) ps) e = cc
created-is (node (component i ins outs) ps) e = cc
created-is (node (core_module i n) ps) e = cc
created-is (node (core_instance i n) ps) e = cc
created-is (node (core_type i) ps) e = cc
created-is (node (core_item x) ps) e = cc

pub referenced-is : (t : Type_tree) → sort t ≡ is_type → trees.referenced t ≡ referenced t
referenced-is (node type_entity ps) e = refl
referenced-is (node nothing ps) e = cc
referenced-is (node (primitive p) ps) e = cc
referenced-is (node (resource r s) ps) e = cc
referenced-is (node (defined i k) ps) e = cc
referenced-is (node (func i b) ps) e = cc
referenced-is (node (instance i own) ps) e = cc
referenced-is (node (component i ins outs) ps) e = cc
referenced-is (node (core_module i n) ps) e = cc
referenced-is (node (core_instance i n) ps) e = cc
referenced-is (node (core_type i) ps) e = cc
referenced-is (node (core_item x) ps) e = cc

-- both types of an entity
pub both-alike : (gs : List Group) (t : Type_tree) → sort t ≡ is_type → AllAlike gs t → TypeMatches gs (type_entry (tree.created t)) (type_entry (referenced t))
both-alike gs (node type_entity ps) e w = w.0
both-alike gs (node nothing ps) e w = absurd (cc)
both-alike gs (node (primitive p) ps) e w = absurd (cc)
both-alike gs (node (resource r s) ps) e w = absurd (cc)
both-alike gs (node (defined i k) ps) e w = absurd (cc)
both-alike gs (node (func i b) ps) e w = absurd (cc)
both-alike gs (node (instance i own) ps) e w = absurd (cc)
both-alike gs (node (component i ins outs) ps) e w = absurd (cc)
both-alike gs (node (core_module i n) ps) e w = absurd (cc)
both-alike gs (node (core_instance i n) ps) e w = absurd (cc)
both-alike gs (node (core_type i) ps) e w = absurd (cc)
both-alike gs (node (core_item x) ps) e w = absurd (cc)

module _ (C : Item_rule) {A : Type 0} where
  -- what a type entity refers to, as an entry
  entry-below : (d : ℕ) (f g : Reading A) (a b : Type_tree) → sort a ≡ is_type → MatchBelow C d A f g a b → MatchBelow C d A f g (type_entry (referenced a)) (type_entry (referenced b))
  entry-below zero f g a b e m = absurd m
  entry-below (suc d) f g a b e m = (refl, subst (λ (k : Sort). MatchAs C (MatchBelow C d) k A f g a b) e m.1)

  pub entry-matches : (f g : Reading A) (a b : Type_tree) → sort a ≡ is_type → MatchesAs C f g a b → MatchesAs C f g (type_entry (referenced a)) (type_entry (referenced b))
  entry-matches f g a b e m = (m.0, entry-below m.0 f g a b e m.1)

  swap-below : (d : ℕ) (f g : Reading A) (a b : Type_tree) → MatchBelow C d A f g (type_entry a) (type_entry b) → MatchBelow C d A g f (type_entry b) (type_entry a)
  swap-below zero f g a b m = absurd m
  swap-below (suc d) f g a b m = (refl, (m.1.1, m.1.0, λ r. sym (m.1.2 r)))

  -- entries of types match both ways
  pub entry-swap : (f g : Reading A) (a b : Type_tree) → MatchesAs C f g (type_entry a) (type_entry b) → MatchesAs C g f (type_entry b) (type_entry a)
  entry-swap f g a b m = (m.0, swap-below m.0 f g a b m.1)

  sort-below : (d : ℕ) (f g : Reading A) (a b : Type_tree) → MatchBelow C d A f g a b → sort a ≡ sort b
  sort-below zero f g a b m = absurd m
  sort-below (suc d) f g a b m = m.0

  pub matched-sort : (f g : Reading A) (a b : Type_tree) → MatchesAs C f g a b → sort a ≡ sort b
  matched-sort f g a b m = sort-below m.0 f g a b m.1

module _ (gs : List Group) (table : IsTable gs) (supers : SupersKeepForm gs) (g : Name → Name) where
  -- created types of entities that fit fit, where both types of each are alike
  pub created-fits : (a b : Type_tree) → sort b ≡ is_type → Fits gs g a b → AllAlike gs a → AllAlike gs b → Fits gs g (trees.created a) (trees.created b)
  created-fits a b e m p q =
      let s : sort a ≡ is_type = matched-sort (ItemsMatch gs) {A = Name} (λ r. r) g a b m ∙ e in
      let on : Goes_on (ItemsMatch gs) = items_go_on gs table supers in
      let first : Fits gs (λ r. r) (type_entry (tree.created a)) (type_entry (referenced a)) = both-alike gs a s p in
      let second : Fits gs g (type_entry (referenced a)) (type_entry (referenced b)) = entry-matches (ItemsMatch gs) {A = Name} (λ r. r) g a b s m in
      let third : MatchesAs (ItemsMatch gs) {A = Name} g g (type_entry (referenced b)) (type_entry (tree.created b)) =
      MatchesAs-map (ItemsMatch gs) g (λ r. r) (λ r. r) g g (type_entry (referenced b)) (type_entry (tree.created b)) (λ r z. refl) (λ r z. refl)
      (entry-swap (ItemsMatch gs) {A = Name} (λ r. r) (λ r. r) (tree.created b) (referenced b) (both-alike gs b e q)) in
      let whole : Fits gs g (type_entry (tree.created a)) (type_entry (tree.created b)) =
      MatchesAs-trans (ItemsMatch gs) on (λ r. r) g g (type_entry (tree.created a)) (type_entry (referenced b)) (type_entry (tree.created b))
      (MatchesAs-trans (ItemsMatch gs) on (λ r. r) (λ r. r) g (type_entry (tree.created a)) (type_entry (referenced a)) (type_entry (referenced b)) first second) third in
      subst (λ (x : Type_tree). Fits gs g x (trees.created b)) (sym (created-is a s)) (subst (λ (y : Type_tree). Fits gs g (type_entry (tree.created a)) y) (sym (created-is b e)) whole)

-- ## Exports of instances

-- a resource of outside; an instance that owns nothing has no other inside
abbrev outside_of : Within Name → Name
outside_of (outer r) = r
outside_of (inner r) = r

owns-none : (t : Type_tree) (r : Name) → sort t ≡ is_instance → owned t ≡ [] → owns (head t) r ≡ false
owns-none (node (instance i own) ps) r e o = ap (member r) o
owns-none (node type_entity ps) r e o = cc
owns-none (node nothing ps) r e o = cc
owns-none (node (primitive p) ps) r e o = cc
owns-none (node (resource q s) ps) r e o = cc
owns-none (node (defined i k) ps) r e o = cc
owns-none (node (func i b) ps) r e o = cc
owns-none (node (component i ins outs) ps) r e o = cc
owns-none (node (core_module i n) ps) r e o = cc
owns-none (node (core_instance i n) ps) r e o = cc
owns-none (node (core_type i) ps) r e o = cc
owns-none (node (core_item x) ps) r e o = cc

reads-outside : (f : Name → Name) (t : Type_tree) (r : Name) → sort t ≡ is_instance → owned t ≡ [] → outside_of (in_instance t f r) ≡ f r
reads-outside f t r e o = ap (λ (b : Bool). outside_of (cond b (inner r) (outer (f r)))) (owns-none t r e o)

module _ (gs : List Group) (g : Name → Name) (a b : Type_tree) where
  exports-below : (d : ℕ) → sort b ≡ is_instance → owned a ≡ [] → owned b ≡ [] → MatchBelow (ItemsMatch gs) d Name (λ r. r) g a b → FitsEach gs g (named_exports a) (named_exports b)
  exports-below zero e o p m = absurd m
  exports-below (suc d) e o p m =
      let s : sort a ≡ is_instance = m.0 ∙ e in
      EachFound-map (MatchBelow (ItemsMatch gs) d (Within Name) (in_instance a (λ r. r)) (in_instance b g)) (Fits gs g) (named_exports a) (named_exports b)
      (λ x y w. (d, MatchBelow-map (ItemsMatch gs) d (Within Name) Name outside_of (in_instance a (λ r. r)) (in_instance b g) (λ r. r) g x y (λ r z. reads-outside (λ q. q) a r s o) (λ r z. reads-outside g b r e p) w))
      (subst (λ (k : Sort). MatchAs (ItemsMatch gs) (MatchBelow (ItemsMatch gs) d) k Name (λ r. r) g a b) s m.1)

  -- of instances that fit and own nothing, what the second exports the first exports too
  pub exports-fit : sort b ≡ is_instance → owned a ≡ [] → owned b ≡ [] → Fits gs g a b → FitsEach gs g (named_exports a) (named_exports b)
  exports-fit e o p m = exports-below m.0 e o p m.1
