-- Types that the pass finds the same are of one height.
use Rattle.std.proofs.Common.{◌≡◌, ℕ, zero, suc, max, ◌≤◌, List, [], ◌∷◌, Bool, true, false, ◌&&◌, refl, sym, ap, ◌∙◌, arith, bytes_eq}
use Rattle.std.specs.Prelude.{All, Contains}
use Rattle.std.proofs.lemmas.Bool.{false≢true}
use Rattle.std.proofs.lemmas.List.Elements.{All-nil, All-cons, All-weaker, All-contains, All-contains_itself, All-head, All-tail}
use Rattle.wcv_core.specs.CoreForm.{Group}
use Rattle.wcv_core.specs.Names.{Name}
use Rattle.wcv_types.specs.Seen.{Within, seen, seen_parts, under}
use Rattle.wcv_types.specs.Tree.{Text, nothing, primitive, resource, defined, func, instance, component, type_entity, core_module, core_instance, core_type, core_item, here, label, import, export, core_import, core_export, Tree, node, Parts, none, part, Sort, is_nothing, is_value, is_resource, is_func, is_instance, is_component, is_type, is_module, is_core_instance, is_core_type, is_core_item, sort, head, created, referenced}
use Rattle.wcv_types.specs.ByName.{NamesDiffer}
use Rattle.wcv_types.specs.Unfold.{Type_tree}
use Rattle.wcv_matching.specs.AtomTests.{id_tests}
use Rattle.wcv_matching.specs.Formed.{ExportsAlone, SidesAlone, ItemsAlone, IsFormed, Formed}
use Rattle.wcv_closed.specs.CoreModules.{same_pair}
use Rattle.wcv_matching.specs.IdTests.{each_found, modules_match}
use Rattle.wcv_matching.specs.ItemTests.{item_matches}
use Rattle.wcv_matching.specs.Matching.{Reading, outside, named_exports, named_imports, named_exports_in, named_imports_in}
use Rattle.wcv_matching.specs.ModuleItems.{before, item_at, module_items, core_imports_in, core_exports_in}
use Rattle.wcv_matching.specs.OnePass.{Atom, owned_in, made_in, under_at, component_at, imported_in, defined_in, own_pair_up, pairs_pass, Pass, same_as, same_below}
use Rattle.wcv_matching.specs.Orderly.{EachNodeIn, AreNamedApart, AllNamesDiffer, height, heights}
use Rattle.wcv_matching.proofs.AtomTests.{seen-decides}
use Rattle.wcv_matching.proofs.NamedLists.{entry-contains}
use Rattle.wcv_matching.proofs.PassSame.{and_left, and_right, pairs-decide, sorts-decide}
use Rattle.wcv_matching.proofs.TreeParts.{EachPart, at_export, at_import}

-- names differ in it, and it is formed
abbrev pub Fine : Type_tree → Type 0
Fine t = AllNamesDiffer t × Formed t

fine_parts : (ps : Parts Name Name) → EachNodeIn (λ h qs. AreNamedApart qs) ps → EachNodeIn IsFormed ps → EachPart Fine ps
fine_parts none n w = tt
fine_parts (part r t ps) n w = ((n.0, w.0), fine_parts ps n.1 w.1)

fine_export : (t : Type_tree) → Fine t → (n : Text) (x : Type_tree) → Contains (named_exports t) (n, x) → Fine x
fine_export (node h ps) w = at_export Fine ps (fine_parts ps w.0.1 w.1.1)

fine_import : (t : Type_tree) → Fine t → (n : Text) (x : Type_tree) → Contains (named_imports t) (n, x) → Fine x
fine_import (node h ps) w = at_import Fine ps (fine_parts ps w.0.1 w.1.1)

exports_differ : (t : Type_tree) → Fine t → NamesDiffer (named_exports t)
exports_differ (node h ps) w = w.0.0.1

imports_differ : (t : Type_tree) → Fine t → NamesDiffer (named_imports t)
imports_differ (node h ps) w = w.0.0.0

-- ## The greatest height

abbrev pub tallest : List (Text × Type_tree) → ℕ
tallest [] = 0
tallest (e ∷ es) = max (height e.1) (tallest es)

max_left : (m n : ℕ) → m ≤ max m n
max_left m n = omega arith

max_right : (m n k : ℕ) → k ≤ n → k ≤ max m n
max_right m n k h = omega (arith, h)

max_both : (m n k : ℕ) → m ≤ k → n ≤ k → max m n ≤ k
max_both m n k h g = omega (arith, h, g)

all_low : (es : List (Text × Type_tree)) → All (λ (e : Text × Type_tree). height e.1 ≤ tallest es) es
all_low [] = All-nil (λ (e : Text × Type_tree). height e.1 ≤ tallest [])
all_low (e ∷ es) =
    All-cons (λ (x : Text × Type_tree). height x.1 ≤ tallest (e ∷ es)) e es (max_left (height e.1) (tallest es))
    (All-weaker (λ (x : Text × Type_tree). height x.1 ≤ tallest es) (λ (x : Text × Type_tree). height x.1 ≤ tallest (e ∷ es)) (λ x h. max_right (height e.1) (tallest es) (height x.1) h) es (all_low es))

tallest_low : (es : List (Text × Type_tree)) (m : ℕ) → All (λ (e : Text × Type_tree). height e.1 ≤ m) es → tallest es ≤ m
tallest_low [] m w = omega arith
tallest_low (e ∷ es) m w = max_both (height e.1) (tallest es) m (All-head (λ (e : Text × Type_tree). height e.1 ≤ m) e es w) (tallest_low es m (All-tail (λ (e : Text × Type_tree). height e.1 ≤ m) e es w))

-- each entry of the first list has one of its height in the second
none_taller : (xs ys : List (Text × Type_tree)) → ((n : Text) (x : Type_tree) → Contains xs (n, x) → (y : Type_tree) × Contains ys (n, y) × (height x ≡ height y)) → tallest xs ≤ tallest ys
none_taller xs ys h =
    tallest_low xs (tallest ys)
    (All-weaker (Contains xs) (λ (e : Text × Type_tree). height e.1 ≤ tallest ys)
    (λ e c. let w = h e.0 e.1 c in let l : height w.0 ≤ tallest ys = All-contains (λ (x : Text × Type_tree). height x.1 ≤ tallest ys) ys (e.0, w.0) (all_low ys) w.1 in omega (arith, w.2, l)) xs (All-contains_itself xs))

same_tallest : (T : Type_tree → Type_tree → Bool) (xs ys : List (Text × Type_tree)) → NamesDiffer xs → ((n : Text) (x y : Type_tree) → Contains xs (n, x) → Contains ys (n, y) → T x y ≡ true → height x ≡ height y) → pairs_pass T xs ys ≡ true → tallest xs ≡ tallest ys
same_tallest T xs ys d h e =
    let p = (pairs-decide T (λ x y. T x y ≡ true) xs ys d (λ n x y c f. (λ w. w, λ w. w))).0 e in
    let one : tallest ys ≤ tallest xs = none_taller ys xs (λ n y c. let w = p.0 n y c in let f : Contains xs (n, w.0) = entry-contains n xs w.0 w.1 in (w.0, f, sym (h n w.0 y f c w.2))) in
    let other : tallest xs ≤ tallest ys = none_taller xs ys (λ n x c. let w = p.1 n x c in let f : Contains ys (n, w.0) = entry-contains n ys w.0 w.1 in (w.0, f, h n x w.0 c f w.2)) in
    omega (arith, one, other)

-- ## Heights of nodes

exports_tall : (ps : Parts Name Name) → ExportsAlone ps → heights ps ≡ tallest (named_exports_in ps)
exports_tall none w = refl
exports_tall (part (export n) t ps) w = ap (max (height t)) (exports_tall ps w)
exports_tall (part here t ps) w = absurd w
exports_tall (part (label l) t ps) w = absurd w
exports_tall (part (import n) t ps) w = absurd w
exports_tall (part (core_import m n) t ps) w = absurd w
exports_tall (part (core_export n) t ps) w = absurd w

sides_tall : (ps : Parts Name Name) → SidesAlone ps → heights ps ≡ max (tallest (named_imports_in ps)) (tallest (named_exports_in ps))
sides_tall none w = refl
sides_tall (part (export n) t ps) w = ap (max (height t)) (sides_tall ps w) ∙ omega arith
sides_tall (part (import n) t ps) w = ap (max (height t)) (sides_tall ps w) ∙ omega arith
sides_tall (part here t ps) w = absurd w
sides_tall (part (label l) t ps) w = absurd w
sides_tall (part (core_import m n) t ps) w = absurd w
sides_tall (part (core_export n) t ps) w = absurd w

instance_tall : (t : Type_tree) → sort t ≡ is_instance → Fine t → height t ≡ suc (tallest (named_exports t))
instance_tall (node (instance i own) ps) e w = ap suc (exports_tall ps w.1.0)
instance_tall (node nothing ps) e w = absurd (cc)
instance_tall (node (primitive p) ps) e w = absurd (cc)
instance_tall (node (resource q x) ps) e w = absurd (cc)
instance_tall (node (defined i k) ps) e w = absurd (cc)
instance_tall (node (func i b) ps) e w = absurd (cc)
instance_tall (node (component i ins outs) ps) e w = absurd (cc)
instance_tall (node type_entity ps) e w = absurd (cc)
instance_tall (node (core_module i n) ps) e w = absurd (cc)
instance_tall (node (core_instance i n) ps) e w = absurd (cc)
instance_tall (node (core_type i) ps) e w = absurd (cc)
instance_tall (node (core_item x) ps) e w = absurd (cc)

component_tall : (t : Type_tree) → sort t ≡ is_component → Fine t → height t ≡ suc (max (tallest (named_imports t)) (tallest (named_exports t)))
component_tall (node (component i ins outs) ps) e w = ap suc (sides_tall ps w.1.0)
component_tall (node nothing ps) e w = absurd (cc)
component_tall (node (primitive p) ps) e w = absurd (cc)
component_tall (node (resource q x) ps) e w = absurd (cc)
component_tall (node (defined i k) ps) e w = absurd (cc)
component_tall (node (func i b) ps) e w = absurd (cc)
component_tall (node (instance i own) ps) e w = absurd (cc)
component_tall (node type_entity ps) e w = absurd (cc)
component_tall (node (core_module i n) ps) e w = absurd (cc)
component_tall (node (core_instance i n) ps) e w = absurd (cc)
component_tall (node (core_type i) ps) e w = absurd (cc)
component_tall (node (core_item x) ps) e w = absurd (cc)

-- of a type entity: both types are of one height, and both are fine
pub record Entity (t : Type_tree) : Type 0 where
  pub tall : height t ≡ suc (height (referenced t))
  pub both : height (created t) ≡ height (referenced t)
  pub inside : Fine (referenced t)

pub entity_tall : (t : Type_tree) → sort t ≡ is_type → Fine t → Entity t
entity_tall (node type_entity none) e w = absurd w.1.0
entity_tall (node type_entity (part k t none)) e w = absurd w.1.0
entity_tall (node type_entity (part k t (part l u (part x v ps)))) e w = absurd w.1.0
entity_tall (node type_entity (part k t (part l u none))) e w = record { tall = ap suc (omega (arith, w.1.0)); both = w.1.0; inside = (w.0.1.1.0, w.1.1.1.0) }
entity_tall (node nothing ps) e w = absurd (cc)
entity_tall (node (primitive p) ps) e w = absurd (cc)
entity_tall (node (resource q x) ps) e w = absurd (cc)
entity_tall (node (defined i k) ps) e w = absurd (cc)
entity_tall (node (func i b) ps) e w = absurd (cc)
entity_tall (node (instance i own) ps) e w = absurd (cc)
entity_tall (node (component i ins outs) ps) e w = absurd (cc)
entity_tall (node (core_module i n) ps) e w = absurd (cc)
entity_tall (node (core_instance i n) ps) e w = absurd (cc)
entity_tall (node (core_type i) ps) e w = absurd (cc)
entity_tall (node (core_item x) ps) e w = absurd (cc)

-- ## Core modules

abbrev is_empty : {X : Type 0} → List X → Bool
is_empty [] = true
is_empty (x ∷ xs) = false

-- nothing is found in an empty list
no_more : {K X : Type 0} (same : K → K → Bool) (test : X → X → Bool) (xs ys : List (K × X)) → each_found same test xs ys ≡ true → is_empty xs ≡ true → is_empty ys ≡ true
no_more same test [] [] e h = refl
no_more same test [] (y ∷ ys) e h = absurd (false≢true e)
no_more same test (x ∷ xs) ys e h = absurd (false≢true h)

-- the height of the parts of a core module, by whether it imports and exports nothing
abbrev low : Bool → Bool → ℕ
low true true = 0
low _ _ = 1

low_right : (b : Bool) → low b false ≡ 1
low_right true = refl
low_right false = refl

low_one : (b c : Bool) → max 1 (low b c) ≡ 1
low_one true true = refl
low_one true false = refl
low_one false c = refl

items_tall : (ps : Parts Name Name) → ItemsAlone ps → heights ps ≡ low (is_empty (core_imports_in ps)) (is_empty (core_exports_in ps))
items_tall none w = refl
items_tall (part (core_import m n) t ps) w =
    (λ j. max (height (w.0.1 j)) (items_tall ps w.1 j)) ∙ low_one (is_empty (core_imports_in ps)) (is_empty (core_exports_in ps)) ∙
    ap (λ (u : Type_tree). low (is_empty (before (m, n) (item_at (head u)) (core_imports_in ps))) (is_empty (core_exports_in ps))) (sym w.0.1)
items_tall (part (core_export n) t ps) w =
    (λ j. max (height (w.0.1 j)) (items_tall ps w.1 j)) ∙ low_one (is_empty (core_imports_in ps)) (is_empty (core_exports_in ps)) ∙ sym (low_right (is_empty (core_imports_in ps))) ∙
    ap (λ (u : Type_tree). low (is_empty (core_imports_in ps)) (is_empty (before n (item_at (head u)) (core_exports_in ps)))) (sym w.0.1)
items_tall (part here t ps) w = absurd w
items_tall (part (label l) t ps) w = absurd w
items_tall (part (import n) t ps) w = absurd w
items_tall (part (export n) t ps) w = absurd w

module_tall : (t : Type_tree) → sort t ≡ is_module → Fine t → height t ≡ suc (low (is_empty (module_items t).imports) (is_empty (module_items t).exports))
module_tall (node (core_module i n) ps) e w = ap suc (items_tall ps w.1.0)
module_tall (node nothing ps) e w = absurd (cc)
module_tall (node (primitive p) ps) e w = absurd (cc)
module_tall (node (resource q x) ps) e w = absurd (cc)
module_tall (node (defined i k) ps) e w = absurd (cc)
module_tall (node (func i b) ps) e w = absurd (cc)
module_tall (node (instance i own) ps) e w = absurd (cc)
module_tall (node (component i ins outs) ps) e w = absurd (cc)
module_tall (node type_entity ps) e w = absurd (cc)
module_tall (node (core_instance i n) ps) e w = absurd (cc)
module_tall (node (core_type i) ps) e w = absurd (cc)
module_tall (node (core_item x) ps) e w = absurd (cc)

both_empty : (a b : Bool) → (a ≡ true → b ≡ true) → (b ≡ true → a ≡ true) → a ≡ b
both_empty true b h g = sym (h refl)
both_empty false true h g = g refl
both_empty false false h g = refl

module _ (gs : List Group) where
  modules_low : (a b : Type_tree) → modules_match gs (module_items a) (module_items b) ≡ true → modules_match gs (module_items b) (module_items a) ≡ true →
      low (is_empty (module_items a).imports) (is_empty (module_items a).exports) ≡ low (is_empty (module_items b).imports) (is_empty (module_items b).exports)
  modules_low a b e d =
      let is : is_empty (module_items a).imports ≡ is_empty (module_items b).imports = both_empty _ _
      (no_more same_pair (item_matches gs) (module_items a).imports (module_items b).imports (and_left _ _ d)) (no_more same_pair (item_matches gs) (module_items b).imports (module_items a).imports (and_left _ _ e)) in
      let es : is_empty (module_items a).exports ≡ is_empty (module_items b).exports = both_empty _ _
      (no_more bytes_eq (item_matches gs) (module_items a).exports (module_items b).exports (and_right _ _ e)) (no_more bytes_eq (item_matches gs) (module_items b).exports (module_items a).exports (and_right _ _ d)) in
      (λ j. low (is j) (es j))

-- ## As they are seen

abbrev mutual
  tall : {R I : Type 0} → Tree R I → ℕ
  tall (node h ps) = suc (talls ps)

  talls : {R I : Type 0} → Parts R I → ℕ
  talls none = 0
  talls (part r t ps) = max (tall t) (talls ps)

mutual
  seen_tall : (f : Name → Within Atom) (t : Type_tree) → tall (seen f t) ≡ height t
  seen_tall f (node h ps) = ap suc (seen_talls (under h f) ps)

  seen_talls : (f : Name → Within Atom) (ps : Parts Name Name) → talls (seen_parts f ps) ≡ heights ps
  seen_talls f none = refl
  seen_talls f (part r t ps) = λ j. max (seen_tall f t j) (seen_talls f ps j)

-- ## The pass

module _ (gs : List Group) where
  abbrev pub SameHeight : Pass → Type 0
  SameHeight S = (k : ℕ) (f g : Reading Atom) (a b : Type_tree) → S k f g a b ≡ true → Fine a → Fine b → height a ≡ height b

  seen_alike : (f g : Reading Atom) (a b : Type_tree) → (id_tests gs).same_seen (seen (outside f) a) (seen (outside g) b) ≡ true → height a ≡ height b
  seen_alike f g a b e = sym (seen_tall (outside f) a) ∙ ap tall ((seen-decides (seen (outside f) a) (seen (outside g) b)).0 e) ∙ seen_tall (outside g) b

  module _ (S : Pass) (h : SameHeight S) (k : ℕ) (f g : Reading Atom) (a b : Type_tree) (u : Fine a) (v : Fine b) where
    exports_same : (l : ℕ) (r s : Reading Atom) → pairs_pass (S l r s) (named_exports a) (named_exports b) ≡ true → tallest (named_exports a) ≡ tallest (named_exports b)
    exports_same l r s e = same_tallest (S l r s) (named_exports a) (named_exports b) (exports_differ a u) (λ n x y c d w. h l r s x y w (fine_export a u n x c) (fine_export b v n y d)) e

    imports_same : (l : ℕ) (r s : Reading Atom) → pairs_pass (S l r s) (named_imports a) (named_imports b) ≡ true → tallest (named_imports a) ≡ tallest (named_imports b)
    imports_same l r s e = same_tallest (S l r s) (named_imports a) (named_imports b) (imports_differ a u) (λ n x y c d w. h l r s x y w (fine_import a u n x c) (fine_import b v n y d)) e

    by_sort : (s : Sort) → sort a ≡ s → sort b ≡ s → same_as (id_tests gs) S s k f g a b ≡ true → height a ≡ height b
    by_sort is_instance p q e = instance_tall a p u ∙ ap suc (exports_same (suc k) (under_at k (head a) f) (under_at k (head b) g) e) ∙ sym (instance_tall b q v)
    by_sort is_type p q e =
        let x = entity_tall a p u in
        let y = entity_tall b q v in
        x.tall ∙ ap suc (h k f g (referenced a) (referenced b) (and_left _ _ e) x.inside y.inside) ∙ sym y.tall
    by_sort is_component p q e =
        let in_left : Reading Atom = component_at (head a) (λ r. owned_in k (imported_in a b r)) (made_in k) f in
        let out_left : Reading Atom = component_at (head a) (λ r. owned_in k (imported_in a b r)) (λ r. made_in k (defined_in a b r)) f in
        let right : Reading Atom = component_at (head b) (owned_in k) (made_in k) g in
        let ins : Bool = pairs_pass (S (suc k) in_left right) (named_imports a) (named_imports b) in
        let outs : Bool = pairs_pass (S (suc k) out_left right) (named_exports a) (named_exports b) in
        let r : (ins && outs) ≡ true = and_right (own_pair_up a b) (ins && outs) e in
        let x : tallest (named_imports a) ≡ tallest (named_imports b) = imports_same (suc k) in_left right (and_left ins outs r) in
        let y : tallest (named_exports a) ≡ tallest (named_exports b) = exports_same (suc k) out_left right (and_right ins outs r) in
        component_tall a p u ∙ (λ j. suc (max (x j) (y j))) ∙ sym (component_tall b q v)
    by_sort is_module p q e = module_tall a p u ∙ ap suc (modules_low gs a b (and_left _ _ e) (and_right _ _ e)) ∙ sym (module_tall b q v)
    by_sort is_nothing p q e = seen_alike f g a b e
    by_sort is_value p q e = seen_alike f g a b e
    by_sort is_resource p q e = seen_alike f g a b e
    by_sort is_func p q e = seen_alike f g a b e
    by_sort is_core_instance p q e = seen_alike f g a b e
    by_sort is_core_type p q e = seen_alike f g a b e
    by_sort is_core_item p q e = seen_alike f g a b e

  pub same_height : (d : ℕ) → SameHeight (same_below (id_tests gs) d)
  same_height zero k f g a b e u v = absurd (false≢true e)
  same_height (suc d) k f g a b e u v =
      by_sort (same_below (id_tests gs) d) (same_height d) k f g a b u v (sort a) refl (sym ((sorts-decide (sort a) (sort b)).0 (and_left _ _ e))) (and_right _ _ e)
