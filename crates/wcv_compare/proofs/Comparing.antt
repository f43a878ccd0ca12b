-- Pairs of nodes that are kept, and how their resources are read.
use Rattle.std.proofs.Common.{◌≡◌, ℕ, List, [], ◌∷◌, ◌++◌, length, arith, Bool, true, false, cond, Some, None, Result, Ok, Err, refl, sym, ap, subst, ⊎_elim}
use Rattle.std.specs.Prelude.{All, OnOk}
use Rattle.std.proofs.lemmas.Bool.{false≢true, eqb-true}
use Rattle.std.proofs.lemmas.List.Elements.{All-head, All-nil, All-push, All-tail}
use Rattle.wcv_core.proofs.Names.{and_left, and_right}
use Rattle.wcv_types.proofs.Gaining.{or_split}
use Rattle.wcv_types.specs.Arena.{Arena}
use Rattle.wcv_types.specs.Entities.{entity_tree}
use Rattle.wcv_types.specs.Unfold.{Type_tree, tree_in, trees}
use Rattle.wcv_types.specs.declared.shapes.ComponentEntityType.{ComponentEntityType}
use Rattle.wcv_types.specs.declared.shapes.ComponentEntityType.TheVariants as entity
use Rattle.wcv_matching.specs.Matching.{Reading}
use Rattle.wcv_matching.specs.OnePass.{Atom}
use Rattle.wcv_compare.specs.Compared.{kept_place, has_pair, same_nodes, same_pair, with_pair, ArePassed, IsPairOf, IsPassed, Pass, PassedIf}
use Rattle.wcv_atoms.specs.IdPasses.{Answers}
use Rattle.wcv_compare.specs.declared.compared.Compared.{Compared}
use Rattle.wcv_atoms.specs.Readings.{atoms_of, over}
use Rattle.wcv_compare.specs.declared.compared.LevelPair.{LevelPair}
use Rattle.wcv_types.specs.declared.ids.ResourceId.{ResourceId}
use Rattle.wcv_atoms.specs.declared.readings.ResourceAtom.{ResourceAtom}

-- ## Sets of pairs

pair_is : (p q : LevelPair) → same_pair p q ≡ true → p ≡ q
pair_is p q h =
    let l : p.level ≡ q.level = eqb-true p.level q.level (and_left _ _ h) in
    let m : same_nodes p.nodes q.nodes ≡ true = and_right _ _ h in
    let x : p.nodes.left ≡ q.nodes.left = eqb-true p.nodes.left q.nodes.left (and_left _ _ m) in
    let y : p.nodes.right ≡ q.nodes.right = eqb-true p.nodes.right q.nodes.right (and_right _ _ m) in
    λ j. record { level = l j; nodes = record { left = x j; right = y j } }

pub has_passed : (P : LevelPair → Type 0) (ps : List LevelPair) (p : LevelPair) → All P ps → has_pair ps p ≡ true → P p
has_passed P [] p h e = absurd (false≢true e)
has_passed P (q ∷ ps) p h e =
    ⊎_elim (λ (i : same_pair p q ≡ true). subst P (sym (pair_is p q i)) (All-head P q ps h)) (λ (i : has_pair ps p ≡ true). has_passed P ps p (All-tail P q ps h) i) (or_split (same_pair p q) (has_pair ps p) e)

pub pushed : (P : LevelPair → Type 0) (ps : List LevelPair) (p : LevelPair) → All P ps → P p → All P (with_pair ps p)
pushed P ps p h x = go (has_pair ps p)
  where
    go : (b : Bool) → All P (cond b ps (ps ++ p ∷ []))
    go true = h
    go false = All-push P ps p h x

pub on_ok : {T E P Q : Type 0} (r : Result T E) → (P → Q) → OnOk r P → OnOk r Q
on_ok (Ok x) k h = k h
on_ok (Err e) k h = h

-- ## Entities

kept_tree : (ts : List Type_tree) (x : ComponentEntityType) (k : ℕ) → kept_place x ≡ Some k → entity_tree ts x ≡ tree_in ts k
kept_tree ts (entity.Module i) k e = let h : i.index ≡ k = cc in ap (tree_in ts) h
kept_tree ts (entity.Func i) k e = let h : i.index ≡ k = cc in ap (tree_in ts) h
kept_tree ts (entity.Instance i) k e = let h : i.index ≡ k = cc in ap (tree_in ts) h
kept_tree ts (entity.Component i) k e = let h : i.index ≡ k = cc in ap (tree_in ts) h
kept_tree ts (entity.Value v) k e = absurd (let h = e in cc)
kept_tree ts (entity.Ty c r) k e = absurd (let h = e in cc)

module _ (a : Arena) (exact : Bool) (k : ℕ) (f g : Reading Atom) (x y : ComponentEntityType) (p : LevelPair) (w : IsPairOf k x y p) where
  pub passes_known : IsPassed a exact f g p → Pass a exact k f g x y
  passes_known m =
      let l = kept_tree (trees a.nodes) x p.nodes.left w.left in
      let r = kept_tree (trees a.nodes) y p.nodes.right w.right in
      subst (λ (z : Type 0). z) (λ j. Answers a.core exact (w.level j) f g (sym l j) (sym r j) true) m

  pub passes_kept : Pass a exact k f g x y → IsPassed a exact f g p
  passes_kept m =
      let l = kept_tree (trees a.nodes) x p.nodes.left w.left in
      let r = kept_tree (trees a.nodes) y p.nodes.right w.right in
      subst (λ (z : Type 0). z) (λ j. Answers a.core exact (sym w.level j) f g (l j) (r j) true) m

-- ## Readings

pub passed_as : (a : Arena) (f g f' g' : Reading Atom) (c c' : Compared) → f' ≡ f → g' ≡ g → c' ≡ c → ArePassed a f g c → ArePassed a f' g' c'
passed_as a f g f' g' c c' p q e w = subst (λ (z : Type 0). z) (λ j. ArePassed a (sym p j) (sym q j) (sym e j)) w

pub not_passed : (a : Arena) (f g : Reading Atom) (c : Compared) → PassedIf false a f g c
not_passed a f g c e = absurd (false≢true e)

pub none_passed : (a : Arena) (f g : Reading Atom) (c : Compared) → c.same ≡ [] → c.matching ≡ [] → c.same_flipped ≡ [] → c.matching_flipped ≡ [] → ArePassed a f g c
none_passed a f g c p q r s = record {
  same = subst (λ (ps : List LevelPair). All (IsPassed a true f g) ps) (sym p) (All-nil _);
  matching = subst (λ (ps : List LevelPair). All (IsPassed a false f g) ps) (sym q) (All-nil _);
  same_flipped = subst (λ (ps : List LevelPair). All (IsPassed a true g f) ps) (sym r) (All-nil _);
  matching_flipped = subst (λ (ps : List LevelPair). All (IsPassed a false g f) ps) (sym s) (All-nil _);
}

-- where nothing is read otherwise, all is read as before
pub empty_over : (es : List (ResourceId × ResourceAtom)) → length es ≡ 0 → (f : Reading Atom) → over (atoms_of es) f ≡ f
empty_over [] e f = refl
empty_over (x ∷ es) e f = absurd (omega (arith, e))
