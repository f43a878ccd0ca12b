-- Modules match themselves, and matching of modules goes on. What serves a module serves each module that matches it.
use Rattle.std.proofs.Common.{◌≡◌, List, Bool, true, ap, bytes_eq}
use Rattle.std.specs.Prelude.{Contains, All}
use Rattle.std.specs.Cmp.{IsEquivalence, decided}
use Rattle.std.specs.List.{IsDistinct}
use Rattle.std.specs.Map.{keys_of}
use Rattle.std.proofs.lemmas.List.Elements.{All-contains}
use Rattle.std.proofs.lemmas.Map.Views.{Contains-from_lookup, lookup-from_Contains}
use Rattle.std.proofs.lemmas.Slice.Eq.{bytes_eq-Decides}
use Rattle.wcv_core.proofs.Names.{and_left, and_right}
use Rattle.wcv_types.specs.Tree.{Text}
use Rattle.wcv_closed.specs.ClosedType.{Closed}
use Rattle.wcv_closed.specs.ClosedValue.{Item}
use Rattle.wcv_closed.specs.ClosedItems.{ItemMatches, IsItemClosed, ItemKeepsForm}
use Rattle.wcv_closed.specs.Found.{EachFound}
use Rattle.wcv_closed.specs.CoreModules.{same_pair, Module_items, ModuleMatches, AllServed, EachItem, NamesDiffer, EachArgument}
use Rattle.wcv_closed.proofs.ItemMatching.{item_itself, item_on}
use Rattle.wcv_closed.proofs.MatchingIds.{both}

-- ## Keys

pub same_text : (a b : Text) → bytes_eq a b ≡ true → a ≡ b
same_text a b e = (bytes_eq-Decides a b).0 e

pub one_text : (a b : Text) → a ≡ b → bytes_eq a b ≡ true
one_text a b e = (bytes_eq-Decides a b).1 e

pub same_names : (a b : Text × Text) → same_pair a b ≡ true → a ≡ b
same_names a b e =
    let p : a.0 ≡ b.0 = same_text a.0 b.0 (and_left (bytes_eq a.0 b.0) (bytes_eq a.1 b.1) e) in
    let q : a.1 ≡ b.1 = same_text a.1 b.1 (and_right (bytes_eq a.0 b.0) (bytes_eq a.1 b.1) e) in
    λ j. (p j, q j)

one_names : (a b : Text × Text) → a ≡ b → same_pair a b ≡ true
one_names a b e = both (bytes_eq a.0 b.0) (bytes_eq a.1 b.1) (one_text a.0 b.0 (ap (λ (p : Text × Text). p.0) e)) (one_text a.1 b.1 (ap (λ (p : Text × Text). p.1) e))

pub texts_equiv : IsEquivalence bytes_eq
texts_equiv = decided bytes_eq bytes_eq-Decides

pub pairs_equiv : IsEquivalence same_pair
pairs_equiv = decided same_pair (λ a b. (same_names a b, one_names a b))

-- ## Lists of entries

module _ {K : Type 0} (same : K → K → Bool) where
  pub each_itself : {X : Type 0} (R : X → X → Type 0) (xs : List (K × X)) → IsEquivalence same → IsDistinct same (keys_of xs) → ((k : K) (x : X) → Contains xs (k, x) → R x x) → EachFound same R xs xs
  each_itself R xs q d f k x c = (x, lookup-from_Contains q k x xs d c, f k x c)

  pub each_on : {X Y Z : Type 0} (R : X → Y → Type 0) (S : Y → Z → Type 0) (T : X → Z → Type 0) (xs : List (K × X)) (ys : List (K × Y)) (zs : List (K × Z))
      → ((a b : K) → same a b ≡ true → a ≡ b)
      → ((k : K) (x : X) (y : Y) (z : Z) → Contains xs (k, x) → Contains ys (k, y) → Contains zs (k, z) → R x y → S y z → T x z)
      → EachFound same R xs ys → EachFound same S ys zs → EachFound same T xs zs
  each_on R S T xs ys zs told on e f k z c =
      let g = f k z c in
      let y = Contains-from_lookup told k g.0 ys g.1 in
      let h = e k g.0 y in
      (h.0, h.1, on k h.0 g.0 z (Contains-from_lookup told k h.0 xs h.1) y c h.2 g.2)

-- ## Modules

abbrev Closed_items : Type 0
Closed_items = Module_items (Item Closed)

of_entry : {K X : Type 0} (P : X → Type 0) (xs : List (K × X)) (k : K) (x : X) → All (λ (e : K × X). P e.1) xs → Contains xs (k, x) → P x
of_entry {K} {X} P xs k x a c = All-contains (λ (e : K × X). P e.1) xs (k, x) a c

pub module_itself : (m : Closed_items) → NamesDiffer m → EachItem IsItemClosed m → ModuleMatches ItemMatches m m
module_itself m d p = record {
  imports = each_itself same_pair ItemMatches m.imports pairs_equiv d.imports (λ k x c. item_itself x (of_entry IsItemClosed m.imports k x p.imports c));
  exports = each_itself bytes_eq ItemMatches m.exports texts_equiv d.exports (λ k x c. item_itself x (of_entry IsItemClosed m.exports k x p.exports c));
}

pub module_on : (a b c : Closed_items) → EachItem ItemKeepsForm a → EachItem ItemKeepsForm b → EachItem ItemKeepsForm c → ModuleMatches ItemMatches a b → ModuleMatches ItemMatches b c → ModuleMatches ItemMatches a c
module_on a b c f g h p q = record {
  imports = each_on same_pair ItemMatches ItemMatches ItemMatches c.imports b.imports a.imports same_names
      (λ k x y z i j l r s. item_on x y z (of_entry ItemKeepsForm c.imports k x h.imports i) (of_entry ItemKeepsForm b.imports k y g.imports j) r s) q.imports p.imports;
  exports = each_on bytes_eq ItemMatches ItemMatches ItemMatches a.exports b.exports c.exports same_text
      (λ k x y z i j l r s. item_on x y z (of_entry ItemKeepsForm a.exports k x f.exports i) (of_entry ItemKeepsForm b.exports k y g.exports j) r s) p.exports q.exports;
}

-- ## Arguments

abbrev Arguments : Type 0
Arguments = List (Text × List (Text × Item Closed))

pub served_on : (args : Arguments) (a b : Closed_items) → EachArgument ItemKeepsForm args → EachItem ItemKeepsForm b → AllServed ItemMatches args b.imports → ModuleMatches ItemMatches a b
    → AllServed ItemMatches args a.imports
served_on args a b f g s m i z c =
    let y = m.imports i z c in
    let there = Contains-from_lookup same_names i y.0 b.imports y.1 in
    let w = s i y.0 there in
    let es = w.0 in
    let x = w.2 in
    let kept = of_entry (λ (es : List (Text × Item Closed)). All (λ (e : Text × Item Closed). ItemKeepsForm e.1) es) args i.0 es f (Contains-from_lookup same_text i.0 es args w.1) in
    (es, w.1, (x.0, x.1, item_on x.0 y.0 z (of_entry ItemKeepsForm es i.1 x.0 kept (Contains-from_lookup same_text i.1 x.0 es x.1)) (of_entry ItemKeepsForm b.imports i y.0 g.imports there) x.2 y.2))
