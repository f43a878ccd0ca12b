-- Two lists of pairs with the same names.
use Rattle.std.proofs.Common.{◌≡◌, ◌∙◌, ◌<◌, ◌+◌, ℕ, List, ◌∷◌, length, drop, get_or, Bool, true, false, not, bytes_eq, ap, sym, refl}
use Rattle.std.proofs.lemmas.List.{drop-map}
use Rattle.wcv_core.proofs.Among.{own_bytes, same_bytes}
use Rattle.wcv_types.specs.ByName.{texts_in}
use Rattle.wcv_types.specs.Tree.{Text}
use Rattle.wcv_types.proofs.FirstPlaces.{next_entry}

-- two texts that were compared
pub compared : (a b t u : Text) (r d : Bool) → a ≡ t → b ≡ u → r ≡ not (bytes_eq a b) → r ≡ d → bytes_eq t u ≡ not d
compared a b t u r d e f h i =
    let other : d ≡ not (bytes_eq t u) = sym i ∙ h ∙ (λ j. not (bytes_eq (e j) (f j))) in
    sym (twice (bytes_eq t u)) ∙ ap not (sym other)
  where
    twice : (x : Bool) → not (not x) ≡ x
    twice true = refl
    twice false = refl

module _ {V W : Type 0} (ps : List (Text × V)) (os : List (Text × W)) (k : ℕ) (p : Text × V) (o : Text × W) (in_ps : k < length ps) (in_os : k < length os) (p_is : p ≡ get_or ps k p) (o_is : o ≡ get_or os k o) where
  texts_from : texts_in (drop k ps) ≡ p.0 ∷ texts_in (drop (k + 1) ps)
  texts_from = ap texts_in (next_entry ps k p in_ps p_is)

  others_from : texts_in (drop k os) ≡ o.0 ∷ texts_in (drop (k + 1) os)
  others_from = ap texts_in (next_entry os k o in_os o_is)

  -- where the next names are the same
  pub next_same : bytes_eq p.0 o.0 ≡ true → texts_in (drop (k + 1) ps) ≡ texts_in (drop (k + 1) os) → texts_in (drop k ps) ≡ texts_in (drop k os)
  next_same e h =
      let name : p.0 ≡ o.0 = same_bytes p.0 o.0 e in
      texts_from ∙ (λ j. name j ∷ h j) ∙ sym others_from

  -- where they are not
  pub next_differ : bytes_eq p.0 o.0 ≡ false → texts_in ps ≡ texts_in os → ⊥
  next_differ e h =
      let rest : p.0 ∷ texts_in (drop (k + 1) ps) ≡ o.0 ∷ texts_in (drop (k + 1) os) = sym texts_from ∙ sym (drop-map (λ q. q.0) k ps) ∙ ap (drop k) h ∙ drop-map (λ q. q.0) k os ∙ others_from in
      let name : p.0 ≡ o.0 = cc rest in
      let same : bytes_eq p.0 o.0 ≡ true = ap (bytes_eq p.0) (sym name) ∙ own_bytes p.0 in
      cc (same, e)
