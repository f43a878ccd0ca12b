-- Lists of names with something beside each: whether a name stands there.
use Rattle.std.proofs.Common.{◌≡◌, ℕ, zero, suc, ◌<◌, List, [], ◌∷◌, ◌++◌, length, map, true, false, refl, sym, ◌∙◌, ap, arith, ◌⊎◌, inl, inr}
use Rattle.std.specs.List.{IsDistinct, AllByRecursion}
use Rattle.std.specs.Prelude.{Contains, slice_index_or}
use Rattle.wcv_core.specs.Names.{Name, same, member}
use Rattle.std.proofs.lemmas.Bool.{false≢true, or_cases}
use Rattle.wcv_core.proofs.Names.{same-true, same-equal}
use Rattle.wcv_types.specs.Tree.{firsts}
use Rattle.wcv_lower.proofs.Given.{or_left, or_right, not_so}

module _ {X : Type 0} where
  -- the name stands in the list
  abbrev pub Has : List (Name × X) → Name → Type 0
  Has [] r = ⊥
  Has (d ∷ ds) r = (r ≡ d.0) ⊎ Has ds r

  pub has-left : (xs ys : List (Name × X)) (r : Name) → Has xs r → Has (xs ++ ys) r
  has-left [] ys r h = absurd h
  has-left (x ∷ xs) ys r (inl e) = inl e
  has-left (x ∷ xs) ys r (inr h) = inr (has-left xs ys r h)

  pub has-right : (xs ys : List (Name × X)) (r : Name) → Has ys r → Has (xs ++ ys) r
  has-right [] ys r h = h
  has-right (x ∷ xs) ys r h = inr (has-right xs ys r h)

  pub has-both : (xs ys : List (Name × X)) (r : Name) → Has (xs ++ ys) r → Has xs r ⊎ Has ys r
  has-both [] ys r h = inr h
  has-both (x ∷ xs) ys r (inl e) = inl (inl e)
  has-both (x ∷ xs) ys r (inr h) = further (has-both xs ys r h)
    where
      further : Has xs r ⊎ Has ys r → ((r ≡ x.0) ⊎ Has xs r) ⊎ Has ys r
      further (inl k) = inl (inr k)
      further (inr k) = inr k

  -- what stands beside it
  pub has-contains : (xs : List (Name × X)) (r : Name) → Has xs r → (x : X) × Contains xs (r, x)
  has-contains [] r h = absurd h
  has-contains (d ∷ ds) r (inl e) = (d.1, (0, omega arith, (λ j. (sym e j, d.1))))
  has-contains (d ∷ ds) r (inr h) =
      let p = has-contains ds r h in
      let l = p.1.1 in
      (p.0, (suc p.1.0, omega (arith, l), p.1.2))

  pub contains-has : (xs : List (Name × X)) (r : Name) (x : X) → Contains xs (r, x) → Has xs r
  contains-has xs r x c = go xs c.0 c.1 c.2
    where
      go : (ys : List (Name × X)) (k : ℕ) → k < length ys → slice_index_or ys k (r, x) ≡ (r, x) → Has ys r
      go [] k l e = absurd (omega (arith, l))
      go (d ∷ ds) zero l e = inl (sym (ap (λ (y : Name × X). y.0) e))
      go (d ∷ ds) (suc k) l e = inr (go ds k (omega (arith, l)) e)

  -- ## No name twice

  abbrev pub Once : List (Name × X) → Type 0
  Once [] = Unit {0}
  Once (d ∷ ds) = (Has ds d.0 → ⊥) × Once ds

  pub once-both : (xs ys : List (Name × X)) → Once xs → Once ys → ((r : Name) → Has xs r → Has ys r → ⊥) → Once (xs ++ ys)
  once-both [] ys o p n = p
  once-both (x ∷ xs) ys o p n = (λ h. apart (has-both xs ys x.0 h), once-both xs ys o.1 p (λ r h g. n r (inr h) g))
    where
      apart : Has xs x.0 ⊎ Has ys x.0 → ⊥
      apart (inl h) = o.0 h
      apart (inr g) = n x.0 (inl refl) g

  -- ## Renamed

  pub has-renamed : (f : Name → Name) (xs : List (Name × X)) (r : Name) → Has xs r → Has (map (λ d. (f d.0, d.1)) xs) (f r)
  has-renamed f [] r h = absurd h
  has-renamed f (x ∷ xs) r (inl e) = inl (ap f e)
  has-renamed f (x ∷ xs) r (inr h) = inr (has-renamed f xs r h)

  pub has-renamed_back : (f back : Name → Name) → ((x : Name) → back (f x) ≡ x) → (xs : List (Name × X)) (r : Name) → Has (map (λ d. (f d.0, d.1)) xs) (f r) → Has xs r
  has-renamed_back f back is_back [] r h = absurd h
  has-renamed_back f back is_back (x ∷ xs) r (inl e) = inl (sym (is_back r) ∙ ap back e ∙ is_back x.0)
  has-renamed_back f back is_back (x ∷ xs) r (inr h) = inr (has-renamed_back f back is_back xs r h)

  pub once-renamed_back : (f : Name → Name) (xs : List (Name × X)) → Once (map (λ d. (f d.0, d.1)) xs) → Once xs
  once-renamed_back f [] o = tt
  once-renamed_back f (x ∷ xs) o = (λ h. o.0 (has-renamed f xs x.0 h), once-renamed_back f xs o.1)

-- so no name is equal to a later one
others : (q : Name) (ds : List (Name × List ℕ)) → (Has ds q → ⊥) → AllByRecursion (λ r. same q r ≡ false) (firsts ds)
others q [] n = tt
others q (d ∷ ds) n = (not_so (same q d.0) (λ e. n (inl (same-true q d.0 e))), others q ds (λ h. n (inr h)))

pub distinct : (ds : List (Name × List ℕ)) → Once ds → IsDistinct same (firsts ds)
unfolding IsDistinct
distinct [] o = tt
distinct (d ∷ ds) o = (others d.0 ds o.0, distinct ds o.1)

-- ## Names alone

module _ {X : Type 0} where
  abbrev pub names_in : List (Name × X) → List Name
  names_in xs = map (λ d. d.0) xs

  pub member-has : (xs : List (Name × X)) (r : Name) → member r (names_in xs) ≡ true → Has xs r
  member-has [] r e = absurd (false≢true e)
  member-has (x ∷ xs) r e = go (or_cases (same r x.0) (member r (names_in xs)) e) (λ h. member-has xs r h)
    where
      go : (same r x.0 ≡ true) ⊎ (member r (names_in xs) ≡ true) → (member r (names_in xs) ≡ true → Has xs r) → (r ≡ x.0) ⊎ Has xs r
      go (inl h) further = inl (same-true r x.0 h)
      go (inr h) further = inr (further h)

  pub has-member : (xs : List (Name × X)) (r : Name) → Has xs r → member r (names_in xs) ≡ true
  has-member [] r h = absurd h
  has-member (x ∷ xs) r (inl e) = or_left (same r x.0) (member r (names_in xs)) (same-equal r x.0 e)
  has-member (x ∷ xs) r (inr h) = or_right (same r x.0) (member r (names_in xs)) (has-member xs r h)

-- ## Something else beside each

module _ {X Y : Type 0} (f : X → Y) where
  abbrev pub beside : List (Name × X) → List (Name × Y)
  beside xs = map (λ d. (d.0, f d.1)) xs

  pub has-beside : (xs : List (Name × X)) (r : Name) → Has xs r → Has (beside xs) r
  has-beside [] r h = absurd h
  has-beside (x ∷ xs) r (inl e) = inl e
  has-beside (x ∷ xs) r (inr h) = inr (has-beside xs r h)

  pub has-beside_back : (xs : List (Name × X)) (r : Name) → Has (beside xs) r → Has xs r
  has-beside_back [] r h = absurd h
  has-beside_back (x ∷ xs) r (inl e) = inl e
  has-beside_back (x ∷ xs) r (inr h) = inr (has-beside_back xs r h)

  pub once-beside : (xs : List (Name × X)) → Once xs → Once (beside xs)
  once-beside [] o = tt
  once-beside (x ∷ xs) o = (λ h. o.0 (has-beside_back xs x.0 h), once-beside xs o.1)
