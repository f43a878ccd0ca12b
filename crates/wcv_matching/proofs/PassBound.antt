-- The pass at the height of the trees decides matching and Same.
use Rattle.std.proofs.Common.{◌≡◌, ℕ, zero, suc, ◌<◌, refl, ap, sym, ◌∙◌, arith, inl, inr, ◌⊎◌, ⊎_elim}
use Rattle.std.specs.Prelude.{Contains}
use Rattle.std.specs.Bool.{Decides}
use Rattle.std.proofs.lemmas.Bool.Decides.{Decides-like}
use Rattle.wcv_core.specs.Names.{Name}
use Rattle.wcv_types.specs.Tree.{Text, node, nothing, Parts, none, part, Sort, is_nothing, is_instance, is_component, is_type, sort, referenced, first_part, rest_parts}
use Rattle.wcv_types.specs.Seen.{Within}
use Rattle.wcv_types.specs.Unfold.{Type_tree}
use Rattle.wcv_matching.specs.Matching.{Item_rule, Reading, in_instance, Fresh, made, left, right, MatchAs, MatchBelow, Matches, named_exports, named_imports}
use Rattle.wcv_matching.specs.OnePass.{Atom, given, owned_in, made_in, Tests, enough, passes_match, passes_same, AreRight}
use Rattle.wcv_matching.specs.Orderly.{Orderly, height, heights}
use Rattle.wcv_matching.specs.SameTypes.{IsSame}
use Rattle.wcv_matching.proofs.TreeParts.{EachPart, at_export, at_import}
use Rattle.wcv_matching.proofs.MatchingKept.{MatchBelow-map}
use Rattle.wcv_matching.proofs.MatchingOrder.{second-part}
use Rattle.wcv_matching.proofs.SameTypes.{SameBelow-both}
use Rattle.wcv_matching.proofs.BothWays.{SameBelow-from}
use Rattle.wcv_matching.proofs.MatchingOnce.{SameBelow-map, EachFound-in}
use Rattle.wcv_matching.proofs.PassSame.{same_below-decides}
use Rattle.wcv_matching.proofs.PassMatches.{match_below-decides}

-- e is enough for the tree
abbrev pub Enough : ℕ → Type_tree → Type 0
Enough e t = (height t < e) ⊎ ((t ≡ node nothing none) × (0 < e))

each-enough : (e : ℕ) (ps : Parts Name Name) → heights ps < e → EachPart (Enough e) ps
each-enough e none h = tt
each-enough e (part k t ps) h = (inl (omega arith), each-enough e ps (omega arith))

pub export-enough : (e : ℕ) (t : Type_tree) → Enough (suc e) t → (n : Text) (x : Type_tree) → Contains (named_exports t) (n, x) → Enough e x
export-enough e (node h ps) w n x c = ⊎_elim (λ (l : height (node h ps) < suc e). at_export (Enough e) ps (each-enough e ps (omega arith)) n x c) (λ q. absurd (empty q.0)) w
  where
    empty : node h ps ≡ node nothing none → ⊥
    empty q = let z : ps ≡ none = cc in go ps z c
      where
        go : (ps : Parts Name Name) → ps ≡ none → Contains (named_exports (node h ps)) (n, x) → ⊥
        go none z c = omega (arith, c.1)
        go (part k t ps) z c = cc

pub import-enough : (e : ℕ) (t : Type_tree) → Enough (suc e) t → (n : Text) (x : Type_tree) → Contains (named_imports t) (n, x) → Enough e x
import-enough e (node h ps) w n x c = ⊎_elim (λ (l : height (node h ps) < suc e). at_import (Enough e) ps (each-enough e ps (omega arith)) n x c) (λ q. absurd (empty q.0)) w
  where
    empty : node h ps ≡ node nothing none → ⊥
    empty q = let z : ps ≡ none = cc in go ps z c
      where
        go : (ps : Parts Name Name) → ps ≡ none → Contains (named_imports (node h ps)) (n, x) → ⊥
        go none z c = omega (arith, c.1)
        go (part k t ps) z c = cc

pub referenced-enough : (e : ℕ) (t : Type_tree) → sort t ≡ is_type → Enough (suc e) t → Enough e (referenced t)
referenced-enough e (node h ps) s w = ⊎_elim tall (λ q. absurd (other q.0)) w
  where
    other : node h ps ≡ node nothing none → ⊥
    other q = let z : is_nothing ≡ is_type = ap (λ (t : Type_tree). sort t) (sym q) ∙ s in cc

    tall : height (node h ps) < suc e → Enough e (first_part (rest_parts ps))
    tall l = ⊎_elim (λ x. x) (λ (q : first_part (rest_parts ps) ≡ node nothing none). inr (q, omega arith)) (second-part (Enough e) ps (each-enough e ps (omega arith)))

module _ (C : Item_rule) where
  abbrev pub Lowers : ℕ → Type 1
  Lowers e = (d : ℕ) (A : Type 0) (f g : Reading A) (a b : Type_tree) → Enough e a → Enough e b → MatchBelow C d A f g a b → MatchBelow C e A f g a b

module _ (C : Item_rule) where
  lower-as : (e d : ℕ) → Lowers C e → (s : Sort) (A : Type 0) (f g : Reading A) (a b : Type_tree) → sort a ≡ s → sort b ≡ s → Enough (suc e) a → Enough (suc e) b →
      MatchAs C (MatchBelow C d) s A f g a b → MatchAs C (MatchBelow C e) s A f g a b
  lower-as e d ih is_instance A f g a b ea eb ha hb m =
      EachFound-in (MatchBelow C d (Within A) (in_instance a f) (in_instance b g)) (MatchBelow C e (Within A) (in_instance a f) (in_instance b g)) (named_exports a) (named_exports b)
      (λ n x y cx cy. ih d (Within A) (in_instance a f) (in_instance b g) x y (export-enough e a ha n x cx) (export-enough e b hb n y cy)) m
  lower-as e d ih is_type A f g a b ea eb ha hb m =
      let x = referenced-enough e a ea ha in
      let y = referenced-enough e b eb hb in
      (ih d A f g (referenced a) (referenced b) x y m.0, ih d A g f (referenced b) (referenced a) y x m.1, m.2)
  lower-as e d ih is_component A f g a b ea eb ha hb m = (
    m.0,
    m.1,
    EachFound-in (MatchBelow C d (Fresh A) (right made g b) (left m.0 f a)) (MatchBelow C e (Fresh A) (right made g b) (left m.0 f a)) (named_imports b) (named_imports a)
        (λ n x y cx cy. ih d (Fresh A) (right made g b) (left m.0 f a) x y (import-enough e b hb n x cx) (import-enough e a ha n y cy)) m.2,
    EachFound-in (MatchBelow C d (Fresh A) (left m.0 f a) (right m.1 g b)) (MatchBelow C e (Fresh A) (left m.0 f a) (right m.1 g b)) (named_exports a) (named_exports b)
        (λ n x y cx cy. ih d (Fresh A) (left m.0 f a) (right m.1 g b) x y (export-enough e a ha n x cx) (export-enough e b hb n y cy)) m.3,
  )
  lower-as e d ih _ A f g a b ea eb ha hb m = m

-- a match at any bound is one at a bound that is enough
module _ (C : Item_rule) where
  pub MatchBelow-at : (e : ℕ) → Lowers C e
  MatchBelow-at zero d A f g a b ha hb m = absurd (⊎_elim (λ (l : height a < 0). absurd (omega arith)) (λ q. absurd (omega (arith, q.1))) ha)
  MatchBelow-at (suc e) zero A f g a b ha hb m = absurd m
  MatchBelow-at (suc e) (suc d) A f g a b ha hb m = (m.0, lower-as C e d (MatchBelow-at e) (sort a) A f g a b refl (sym m.0) ha hb m.1)

-- ## The two passes at the top
abbrev pub name_of : Atom → Name
name_of (given r) = r
name_of (owned_in j r) = r
name_of (made_in j r) = r

pub enough-both : (a b : Type_tree) → Enough (enough a b) a × Enough (enough a b) b
enough-both a b = (inl (omega arith), inl (omega arith))

module _ (C : Item_rule) where
  module _ (test : Tests) (tests : AreRight C test) where
    pub Matches-decides : (a b : Type_tree) → Orderly a → Orderly b → Decides (passes_match test a b) (Matches C a b)
    Matches-decides a b oa ob =
        let d : ℕ = enough a b in
        Decides-like (passes_match test a b)
        (λ m. (d, MatchBelow-map C d Atom Name name_of given given (λ r. r) (λ r. r) a b (λ r _. refl) (λ r _. refl) m))
        (λ (m : Matches C a b). MatchBelow-map C d Name Atom given (λ r. r) (λ r. r) given given a b (λ r _. refl) (λ r _. refl)
        (MatchBelow-at C d m.0 Name (λ r. r) (λ r. r) a b (enough-both a b).0 (enough-both a b).1 m.1))
        (match_below-decides C test tests d 0 given given a b oa ob (λ r. tt) (λ r. tt))

    pub IsSame-decides : (a b : Type_tree) → Orderly a → Orderly b → Decides (passes_same test a b) (IsSame C a b)
    IsSame-decides a b oa ob =
        let d : ℕ = enough a b in
        Decides-like (passes_same test a b)
        (λ m. (d, SameBelow-map C d Atom Name name_of given given (λ r. r) (λ r. r) a b oa ob (λ r _. refl) (λ r _. refl) m))
        (λ (m : IsSame C a b).
        let w = SameBelow-both C m.0 Name (λ r. r) (λ r. r) a b m.1 in
        let ha = (enough-both a b).0 in
        let hb = (enough-both a b).1 in
        SameBelow-map C d Name Atom given (λ r. r) (λ r. r) given given a b oa ob (λ r _. refl) (λ r _. refl)
        (SameBelow-from C d Name (λ r. r) (λ r. r) a b oa ob (MatchBelow-at C d m.0 Name (λ r. r) (λ r. r) a b ha hb w.0) (MatchBelow-at C d m.0 Name (λ r. r) (λ r. r) b a hb ha w.1)))
        (same_below-decides C test tests d 0 given given a b oa ob (λ r. tt) (λ r. tt))
