-- Matching with Same at type entries is matching; the laws of Same.
use Rattle.std.proofs.Common.{◌≡◌, ℕ, zero, suc, ◌+◌, List, refl, arith}
use Rattle.std.specs.Prelude.{Contains}
use Rattle.wcv_core.specs.Names.{Name}
use Rattle.wcv_types.specs.Tree.{Text, Sort, is_instance, is_component, is_type, sort, referenced}
use Rattle.wcv_types.specs.Resources.{Free}
use Rattle.wcv_types.specs.Seen.{Within}
use Rattle.wcv_types.specs.Unfold.{Type_tree}
use Rattle.wcv_matching.specs.Matching.{Item_rule, Entries, Reading, in_instance, Fresh, made, left, right, MatchAs, MatchBelow, Matches, named_exports, named_imports}
use Rattle.wcv_matching.specs.Orderly.{Orderly}
use Rattle.wcv_matching.specs.SameTypes.{SameBelow, IsSame, MatchOnceAs, MatchOnceBelow, MatchesOnce}
use Rattle.wcv_matching.proofs.NamedLists.{entry-contains}
use Rattle.wcv_matching.proofs.MatchingKept.{MatchBelow-map}
use Rattle.wcv_matching.proofs.MatchingOrder.{Goes_on, MatchBelow-add, MatchBelow-trans}
use Rattle.wcv_matching.proofs.SameTypes.{SameBelow-both}
use Rattle.wcv_matching.proofs.BothWays.{orderly-export, orderly-import, orderly-referenced, SameBelow-from}

-- ## Same at the top

module _ (C : Item_rule) where
  pub IsSame-from : (a b : Type_tree) → Orderly a → Orderly b → Matches C a b → Matches C b a → IsSame C a b
  IsSame-from a b oa ob m n = (
    n.0 + m.0,
    SameBelow-from C (n.0 + m.0) Name (λ r. r) (λ r. r) a b oa ob
        (MatchBelow-add C n.0 m.0 (n.0 + m.0) Name (λ r. r) (λ r. r) a b refl m.1)
        (MatchBelow-add C m.0 n.0 (n.0 + m.0) Name (λ r. r) (λ r. r) b a (omega arith) n.1),
  )

-- ## Same is an equivalence, and asks of readings only how they read what is free
module _ (C : Item_rule) where
  pub SameBelow-sym : (d : ℕ) (A : Type 0) (f g : Reading A) (a b : Type_tree) → Orderly a → Orderly b → SameBelow C d A f g a b → SameBelow C d A g f b a
  SameBelow-sym d A f g a b oa ob m =
      let w = SameBelow-both C d A f g a b m in SameBelow-from C d A g f b a ob oa w.1 w.0

module _ (C : Item_rule) where
  pub SameBelow-trans : Goes_on C → (d : ℕ) (A : Type 0) (f g h : Reading A) (a b c : Type_tree) → Orderly a → Orderly c → SameBelow C d A f g a b → SameBelow C d A g h b c → SameBelow C d A f h a c
  SameBelow-trans on d A f g h a b c oa oc m n =
      let w = SameBelow-both C d A f g a b m in
      let z = SameBelow-both C d A g h b c n in
      SameBelow-from C d A f h a c oa oc (MatchBelow-trans C on d A f g h a b c w.0 z.0) (MatchBelow-trans C on d A h g f c b a z.1 w.1)

-- what is read may be mapped on, by any function; at the identity: readings that agree on what is free give one answer
module _ (C : Item_rule) where
  pub SameBelow-map : (d : ℕ) (A B : Type 0) (h : A → B) (f g : Reading A) (f' g' : Reading B) (a b : Type_tree) → Orderly a → Orderly b →
      ((r : Name) → Free r a → h (f r) ≡ f' r) → ((r : Name) → Free r b → h (g r) ≡ g' r) → SameBelow C d A f g a b → SameBelow C d B f' g' a b
  SameBelow-map d A B h f g f' g' a b oa ob p q m =
      let w = SameBelow-both C d A f g a b m in
      SameBelow-from C d B f' g' a b oa ob (MatchBelow-map C d A B h f g f' g' a b p q w.0) (MatchBelow-map C d A B h g f g' f' b a q p w.1)

-- ## Matching once
pub EachFound-in : {X : Type 0} (R S : X → X → Type 0) (xs ys : List (Text × X)) → ((n : Text) (x y : X) → Contains xs (n, x) → Contains ys (n, y) → R x y → S x y) → Entries R xs ys → Entries S xs ys
EachFound-in R S xs ys k e = λ n y c. let f = e n y c in (f.0, f.1, k n f.0 y (entry-contains n xs f.0 f.1) c f.2)

module _ (C : Item_rule) where
  abbrev pub OnceGives : ℕ → Type 1
  OnceGives d = (A : Type 0) (f g : Reading A) (a b : Type_tree) → MatchOnceBelow C d A f g a b → MatchBelow C d A f g a b

module _ (C : Item_rule) where
  once-as-to : (d : ℕ) → OnceGives C d → (s : Sort) (A : Type 0) (f g : Reading A) (a b : Type_tree) → MatchOnceAs C (SameBelow C d) (MatchOnceBelow C d) s A f g a b → MatchAs C (MatchBelow C d) s A f g a b
  once-as-to d ih is_instance A f g a b m =
      EachFound-in (MatchOnceBelow C d (Within A) (in_instance a f) (in_instance b g)) (MatchBelow C d (Within A) (in_instance a f) (in_instance b g)) (named_exports a) (named_exports b)
      (λ n x y _ _. ih (Within A) (in_instance a f) (in_instance b g) x y) m
  once-as-to d ih is_type A f g a b m =
      let w = SameBelow-both C d A f g (referenced a) (referenced b) m.0 in (w.0, w.1, m.1)
  once-as-to d ih is_component A f g a b m = (
    m.0,
    m.1,
    EachFound-in (MatchOnceBelow C d (Fresh A) (right made g b) (left m.0 f a)) (MatchBelow C d (Fresh A) (right made g b) (left m.0 f a)) (named_imports b) (named_imports a)
        (λ n x y _ _. ih (Fresh A) (right made g b) (left m.0 f a) x y) m.2,
    EachFound-in (MatchOnceBelow C d (Fresh A) (left m.0 f a) (right m.1 g b)) (MatchBelow C d (Fresh A) (left m.0 f a) (right m.1 g b)) (named_exports a) (named_exports b)
        (λ n x y _ _. ih (Fresh A) (left m.0 f a) (right m.1 g b) x y) m.3,
  )
  once-as-to d ih _ A f g a b m = m

-- matching once implies matching, with no premise
module _ (C : Item_rule) where
  pub MatchOnceBelow-to : (d : ℕ) → OnceGives C d
  MatchOnceBelow-to zero A f g a b m = absurd m
  MatchOnceBelow-to (suc d) A f g a b m = (m.0, once-as-to C d (MatchOnceBelow-to d) (sort a) A f g a b m.1)

module _ (C : Item_rule) where
  abbrev pub GivesOnce : ℕ → Type 1
  GivesOnce d = (A : Type 0) (f g : Reading A) (a b : Type_tree) → Orderly a → Orderly b → MatchBelow C d A f g a b → MatchOnceBelow C d A f g a b

module _ (C : Item_rule) where
  once-as-from : (d : ℕ) → GivesOnce C d → (s : Sort) (A : Type 0) (f g : Reading A) (a b : Type_tree) → Orderly a → Orderly b →
      MatchAs C (MatchBelow C d) s A f g a b → MatchOnceAs C (SameBelow C d) (MatchOnceBelow C d) s A f g a b
  once-as-from d ih is_instance A f g a b oa ob m =
      EachFound-in (MatchBelow C d (Within A) (in_instance a f) (in_instance b g)) (MatchOnceBelow C d (Within A) (in_instance a f) (in_instance b g)) (named_exports a) (named_exports b)
      (λ n x y cx cy. ih (Within A) (in_instance a f) (in_instance b g) x y (orderly-export a oa n x cx) (orderly-export b ob n y cy)) m
  once-as-from d ih is_type A f g a b oa ob m =
      (SameBelow-from C d A f g (referenced a) (referenced b) (orderly-referenced a oa) (orderly-referenced b ob) m.0 m.1, m.2)
  once-as-from d ih is_component A f g a b oa ob m = (
    m.0,
    m.1,
    EachFound-in (MatchBelow C d (Fresh A) (right made g b) (left m.0 f a)) (MatchOnceBelow C d (Fresh A) (right made g b) (left m.0 f a)) (named_imports b) (named_imports a)
        (λ n x y cx cy. ih (Fresh A) (right made g b) (left m.0 f a) x y (orderly-import b ob n x cx) (orderly-import a oa n y cy)) m.2,
    EachFound-in (MatchBelow C d (Fresh A) (left m.0 f a) (right m.1 g b)) (MatchOnceBelow C d (Fresh A) (left m.0 f a) (right m.1 g b)) (named_exports a) (named_exports b)
        (λ n x y cx cy. ih (Fresh A) (left m.0 f a) (right m.1 g b) x y (orderly-export a oa n x cx) (orderly-export b ob n y cy)) m.3,
  )
  once-as-from d ih _ A f g a b oa ob m = m

-- and matching implies matching once
module _ (C : Item_rule) where
  pub MatchOnceBelow-from : (d : ℕ) → GivesOnce C d
  MatchOnceBelow-from zero A f g a b oa ob m = absurd m
  MatchOnceBelow-from (suc d) A f g a b oa ob m = (m.0, once-as-from C d (MatchOnceBelow-from d) (sort a) A f g a b oa ob m.1)

module _ (C : Item_rule) where
  pub MatchesOnce-iff : (a b : Type_tree) → Orderly a → Orderly b → (MatchesOnce C a b → Matches C a b) × (Matches C a b → MatchesOnce C a b)
  MatchesOnce-iff a b oa ob =
      (λ m. (m.0, MatchOnceBelow-to C m.0 Name (λ r. r) (λ r. r) a b m.1), λ m. (m.0, MatchOnceBelow-from C m.0 Name (λ r. r) (λ r. r) a b oa ob m.1))
