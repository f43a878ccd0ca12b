-- Entries of lists whose values are mapped, and lists that are mapped twice.
use Rattle.std.proofs.Common.{◌≡◌, ℕ, ◌<◌, List, [], ◌∷◌, map, length, get_or, refl, ap, sym, ◌∙◌, subst, arith, ⊎_elim, bytes_eq}
use Rattle.std.proofs.lemmas.Option.{slice_get_cases}
use Rattle.std.proofs.lemmas.List.{get_or-map as get_or_map}
use Rattle.std.specs.Prelude.{Contains, slice_get, Option, Some, None}
use Rattle.std.specs.Option.{option_map}
use Rattle.std.proofs.lemmas.Map.Made.{lookup-map_values}
use Rattle.std.proofs.lemmas.Map.Views.{Contains-from_lookup}
use Rattle.std.proofs.lemmas.List.{length-map}
use Rattle.std.proofs.Math.ListN.{get_or-map}
use Rattle.wcv_types.specs.Tree.{Text}
use Rattle.wcv_closed.proofs.ModuleMatching.{same_text}
use Rattle.wcv_matching.specs.Matching.{Entries}
use Rattle.wcv_matching.specs.NamedPaths.{entry}

pub map-map : {A B C : Type 0} (h : B → C) (f : A → B) (xs : List A) → map h (map f xs) ≡ map (λ x. h (f x)) xs
map-map h f [] = refl
map-map h f (x ∷ xs) = ap (λ ys. h (f x) ∷ ys) (map-map h f xs)

-- an entry that is found is in the list
pub entry-contains : {X : Type 0} (n : Text) (xs : List (Text × X)) (x : X) → entry n xs ≡ Some x → Contains xs (n, x)
entry-contains n xs x e = Contains-from_lookup same_text n x xs e

-- the entries with mapped values
abbrev pub over : {X Y : Type 0} → (X → Y) → List (Text × X) → List (Text × Y)
over k es = map (λ e. (e.0, k e.1)) es

pub Contains-over : {X Y : Type 0} (k : X → Y) (es : List (Text × X)) (n : Text) (x : X) → Contains es (n, x) → Contains (over k es) (n, k x)
Contains-over k es n x c =
    (c.0, subst (λ (l : ℕ). c.0 < l) (sym (length-map es _)) c.1, get_or-map (λ e. (e.0, k e.1)) es c.0 (n, x) ∙ ap (λ (e : Text × _). (e.0, k e.1)) c.2)

pub some-inj : {X : Type 0} {x y : X} → Some x ≡ Some y → x ≡ y
some-inj e = cc

pub entry-over : {X Y : Type 0} (k : X → Y) (es : List (Text × X)) (n : Text) (x : X) → entry n es ≡ Some x → entry n (over k es) ≡ Some (k x)
entry-over k es n x e = lookup-map_values k (bytes_eq n) es ∙ ap (option_map k) e

pub entry-over_back : {X Y : Type 0} (k : X → Y) (es : List (Text × X)) (n : Text) (y : Y) → entry n (over k es) ≡ Some y → (x : X) × (entry n es ≡ Some x) × (k x ≡ y)
entry-over_back k es n y e = go (entry n es) refl (sym (lookup-map_values k (bytes_eq n) es) ∙ e)
  where
    go : (o : Option _) → entry n es ≡ o → option_map k o ≡ Some y → (x : _) × (entry n es ≡ Some x) × (k x ≡ y)
    go None p q = cc
    go (Some x) p q = (x, p, some-inj q)

pub Contains-over_back : {X Y : Type 0} (k : X → Y) (es : List (Text × X)) (n : Text) (y : Y) → Contains (over k es) (n, y) → (x : X) × Contains es (n, x) × (k x ≡ y)
Contains-over_back {X} {Y} k es n y c = ⊎_elim found (λ p. absurd (omega (arith, p.0, c.1, length-map es f))) (slice_get_cases es c.0).1
  where
    f : Text × X → Text × Y
    f e = (e.0, k e.1)

    found : (e : Text × X) × (c.0 < length es) × (slice_get es c.0 ≡ Some e) × (get_or es c.0 e ≡ e) → (x : X) × Contains es (n, x) × (k x ≡ y)
    found w =
        let e : Text × X = w.0 in
        let p : (e.0, k e.1) ≡ (n, y) = ap f (sym w.3) ∙ sym (get_or_map f es c.0 e (n, y) w.1) ∙ c.2 in
        let q : e ≡ (n, e.1) = ap (λ (m : Text). (m, e.1)) (ap (λ (z : Text × Y). z.0) p) in
        (e.1, (c.0, w.1, subst (λ (z : Text × X). get_or es c.0 z ≡ z) q w.3), ap (λ (z : Text × Y). z.1) p)

-- what holds of entries holds of mapped entries
pub EachFound-over : {X Y : Type 0} (R : X → X → Type 0) (S : Y → Y → Type 0) (k l : X → Y) (xs ys : List (Text × X)) →
    ((n : Text) (x y : X) → Contains xs (n, x) → Contains ys (n, y) → R x y → S (k x) (l y)) → Entries R xs ys → Entries S (over k xs) (over l ys)
EachFound-over {Y = Y} R S k l xs ys m e n y' c' =
    let b = Contains-over_back l ys n y' c' in
    let f = e n b.0 b.1 in
    (k f.0, entry-over k xs n f.0 f.1, subst (λ (z : Y). S (k f.0) z) b.2 (m n f.0 b.0 (entry-contains n xs f.0 f.1) b.1 f.2))

pub EachFound-back : {X Y : Type 0} (R : X → X → Type 0) (S : Y → Y → Type 0) (k l : X → Y) (xs ys : List (Text × X)) →
    ((n : Text) (x y : X) → Contains xs (n, x) → Contains ys (n, y) → S (k x) (l y) → R x y) → Entries S (over k xs) (over l ys) → Entries R xs ys
EachFound-back {Y = Y} R S k l xs ys m e n y c =
    let f = e n (l y) (Contains-over l ys n y c) in
    let b = entry-over_back k xs n f.0 f.1 in
    (b.0, b.1, m n b.0 y (entry-contains n xs b.0 b.1) c (subst (λ (z : Y). S z (l y)) (sym b.2) f.2))
