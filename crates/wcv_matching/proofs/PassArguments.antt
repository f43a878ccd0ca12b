-- The pass decides whether arguments open the imports of a component, and finds the one substitution.
use Rattle.std.proofs.Common.{◌≡◌, ℕ, suc, ◌+◌, ◌≤◌, List, [], ◌∷◌, Bool, true, false, refl, ap, sym, subst, ◌∙◌, arith, inl}
use Rattle.std.proofs.Math.Path.{fun_ext}
use Rattle.std.specs.Prelude.{Contains, All}
use Rattle.std.specs.Bool.{Decides}
use Rattle.std.proofs.lemmas.Bool.Decides.{Decides-like}
use Rattle.std.proofs.lemmas.List.Elements.{All-cons, All-nil, All-weaker, All-contains}
use Rattle.wcv_core.specs.Names.{Name, member}
use Rattle.wcv_types.specs.Tree.{Text, head, imported_at}
use Rattle.wcv_types.specs.Unfold.{Type_tree}
use Rattle.wcv_matching.specs.Matching.{Item_rule, Entries, Reading, MatchBelow, opened_by, OpensImports, named_imports}
use Rattle.wcv_matching.specs.OnePass.{Atom, given, imported_paths, enough, Tests, match_pass, argument_for, opens_pass, AreRight}
use Rattle.wcv_matching.specs.Orderly.{Orderly, EachOrderly, height}
use Rattle.wcv_matching.proofs.MatchingKept.{MatchBelow-map}
use Rattle.wcv_matching.proofs.MatchingOrder.{EachFound-map}
use Rattle.wcv_matching.proofs.MatchingOnce.{EachFound-in}
use Rattle.wcv_matching.proofs.BothWays.{orderly-import}
use Rattle.wcv_matching.proofs.PassSame.{recorded-import, counterpart-some}
use Rattle.wcv_matching.proofs.PassMatches.{path-met_once, each-decide, match_below-decides}
use Rattle.wcv_matching.proofs.PassBound.{enough-both, MatchBelow-at, name_of}

-- more than the height of each entry
total : List (Text × Type_tree) → ℕ
total [] = 0
total (e ∷ es) = height e.1 + total es

all-within : (es : List (Text × Type_tree)) → All (λ (e : Text × Type_tree). height e.1 ≤ total es) es
unfolding total
all-within [] = All-nil _
all-within (e ∷ es) =
    All-cons (λ (x : Text × Type_tree). height x.1 ≤ total (e ∷ es)) e es (omega arith)
    (All-weaker (λ (x : Text × Type_tree). height x.1 ≤ total es) (λ (x : Text × Type_tree). height x.1 ≤ total (e ∷ es)) (λ x h. omega (arith, h)) es (all-within es))

within-total : (es : List (Text × Type_tree)) (n : Text) (x : Type_tree) → Contains es (n, x) → height x ≤ total es
within-total es n x c = All-contains (λ (e : Text × Type_tree). height e.1 ≤ total es) es (n, x) (all-within es) c

-- a substitution that lets the arguments open the imports is the one that the paths find
module _ (C : Item_rule) where
  pub argument-found : (s : Name → Name) (args : List (Text × Type_tree)) (c : Type_tree) → Orderly c → OpensImports C s args c →
      (r : Name) → member r (imported_at (head c)) ≡ true → argument_for args c r ≡ s r
  argument-found s args c oc m r i =
      let e : ℕ = suc (total args + total (named_imports c)) in
      let at_one : Entries (MatchBelow C e Name (λ r. r) (opened_by s c)) args (named_imports c) =
      EachFound-in (λ x y. (d : ℕ) × MatchBelow C d Name (λ r. r) (opened_by s c) x y) (MatchBelow C e Name (λ r. r) (opened_by s c)) args (named_imports c)
      (λ n x y cx cy w.
      let hx = within-total args n x cx in
      let hy = within-total (named_imports c) n y cy in
      MatchBelow-at C e w.0 Name (λ r. r) (opened_by s c) x y (inl (omega arith)) (inl (omega arith)) w.1) m in
      let l = recorded-import c oc.1 r i in
      let w = path-met_once C l.0 r e Name (λ r. r) (opened_by s c) args (named_imports c) l.2 at_one in
      let q : opened_by s c r ≡ s r = rw i refl in
      counterpart-some (imported_paths (head c)) (named_imports c) args r w.0 l.0 l.1 w.1 ∙ w.2 ∙ q

opened-same : (s t : Name → Name) (c : Type_tree) → ((r : Name) → member r (imported_at (head c)) ≡ true → s r ≡ t r) → (r : Name) → opened_by s c r ≡ opened_by t c r
opened-same s t c k r = go (member r (imported_at (head c))) refl
  where
    go : (b : Bool) → member r (imported_at (head c)) ≡ b → opened_by s c r ≡ opened_by t c r
    go true i = rw i (k r i)
    go false i = rw i refl

-- so what the paths find opens, where something does
module _ (C : Item_rule) where
  pub found-opens : (s : Name → Name) (args : List (Text × Type_tree)) (c : Type_tree) → Orderly c → OpensImports C s args c → OpensImports C (argument_for args c) args c
  found-opens s args c oc m =
      subst (λ (u : Reading Name). Entries (λ x y. (d : ℕ) × MatchBelow C d Name (λ r. r) u x y) args (named_imports c)) (fun_ext (opened-same s (argument_for args c) c (λ r i. sym (argument-found C s args c oc m r i)))) m

module _ (C : Item_rule) where
  pub opens-decided : (test : Tests) → AreRight C test → (args : List (Text × Type_tree)) (c : Type_tree) → EachOrderly args → Orderly c → Decides (opens_pass test args c) ((s : Name → Name) × OpensImports C s args c)
  opens-decided test tests args c oa oc =
      let s : Name → Name = argument_for args c in
      let R : Type_tree → Type_tree → Type 0 = λ x y. MatchBelow C (enough x y) Atom given (λ r. given (opened_by s c r)) x y in
      Decides-like (opens_pass test args c)
      (λ (m : Entries R args (named_imports c)). (
        s,
        EachFound-map R (λ x y. (d : ℕ) × MatchBelow C d Name (λ r. r) (opened_by s c) x y) args (named_imports c)
            (λ x y w. (enough x y, MatchBelow-map C (enough x y) Atom Name name_of given (λ r. given (opened_by s c r)) (λ r. r) (opened_by s c) x y (λ r _. refl) (λ r _. refl) w)) m,
      ))
      (λ (o : (t : Name → Name) × OpensImports C t args c). EachFound-map (λ x y. (d : ℕ) × MatchBelow C d Name (λ r. r) (opened_by o.0 c) x y) R args (named_imports c)
      (λ x y w. MatchBelow-map C (enough x y) Name Atom given (λ r. r) (opened_by o.0 c) given (λ r. given (opened_by s c r)) x y (λ r _. refl)
      (λ r _. ap (λ (z : Name). given z) (opened-same o.0 s c (λ q i. sym (argument-found C o.0 args c oc o.1 q i)) r))
      (MatchBelow-at C (enough x y) w.0 Name (λ r. r) (opened_by o.0 c) x y (enough-both x y).0 (enough-both x y).1 w.1)) o.1)
      (each-decide (match_pass test 0 given (λ r. given (opened_by s c r))) R args (named_imports c)
      (λ n x y cx cy. match_below-decides C test tests (enough x y) 0 given (λ r. given (opened_by s c r)) x y (oa n x cx) (orderly-import c oc n y cy) (λ r. tt) (λ r. tt)))
