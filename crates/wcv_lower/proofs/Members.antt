-- Which names stand in a list, and which resources a context imports and defines.
use Rattle.std.proofs.Common.{◌≡◌, ℕ, List, [], ◌∷◌, ◌++◌, map, length, refl, sym, ap, subst, true, false, ◌||◌, ◌⊎◌, inl, inr}
use Rattle.std.specs.Prelude.{Option, All}
use Rattle.std.proofs.lemmas.Bool.{false≢true, or_cases}
use Rattle.std.proofs.lemmas.List.Elements.{All-nil, All-cons, All-head, All-tail}
use Rattle.wcv_core.specs.Names.{Name, same, member}
use Rattle.wcv_core.specs.declared.core_types.ValType.{ValType}
use Rattle.wcv_core.proofs.Names.{same-true, same-refl}
use Rattle.wcv_types.specs.Tree.{firsts}
use Rattle.wcv_lower.specs.Context.{Side, importing, exporting, placed, unknown, introduce, define}
use Rattle.wcv_lower.specs.Owned.{IsOwn}
use Rattle.wcv_lower.specs.Trees.{Tree_context, tree_reader}
use Rattle.wcv_lower.proofs.Given.{or_left, or_right}

-- one of two lists has it
pub member_cases : (r : Name) (xs ys : List Name) → member r (xs ++ ys) ≡ true → (member r xs ≡ true) ⊎ (member r ys ≡ true)
member_cases r [] ys e = inr e
member_cases r (x ∷ xs) ys e = go (or_cases (same r x) (member r (xs ++ ys)) e) (member_cases r xs ys)
  where
    back : (member r xs ≡ true) ⊎ (member r ys ≡ true) → (member r (x ∷ xs) ≡ true) ⊎ (member r ys ≡ true)
    back (inl h) = inl (or_right (same r x) (member r xs) h)
    back (inr h) = inr h

    go : (same r x ≡ true) ⊎ (member r (xs ++ ys) ≡ true) → (member r (xs ++ ys) ≡ true → (member r xs ≡ true) ⊎ (member r ys ≡ true)) → (member r (x ∷ xs) ≡ true) ⊎ (member r ys ≡ true)
    go (inl h) later = inl (or_left (same r x) (member r xs) h)
    go (inr h) later = back (later h)

pub member_left : (r : Name) (xs ys : List Name) → member r xs ≡ true → member r (xs ++ ys) ≡ true
member_left r [] ys e = absurd (false≢true e)
member_left r (x ∷ xs) ys e = go (or_cases (same r x) (member r xs) e) (member_left r xs ys)
  where
    go : (same r x ≡ true) ⊎ (member r xs ≡ true) → (member r xs ≡ true → member r (xs ++ ys) ≡ true) → (same r x || member r (xs ++ ys)) ≡ true
    go (inl h) later = or_left (same r x) (member r (xs ++ ys)) h
    go (inr h) later = or_right (same r x) (member r (xs ++ ys)) (later h)

pub member_right : (r : Name) (xs ys : List Name) → member r ys ≡ true → member r (xs ++ ys) ≡ true
member_right r [] ys e = e
member_right r (x ∷ xs) ys e = or_right (same r x) (member r (xs ++ ys)) (member_right r xs ys e)

-- what holds of all holds of those that it has, and back
pub all_member : (P : Name → Type 0) (xs : List Name) → All P xs → (r : Name) → member r xs ≡ true → P r
all_member P [] a r e = absurd (false≢true e)
all_member P (x ∷ xs) a r e = go (or_cases (same r x) (member r xs) e) (all_member P xs (All-tail P x xs a) r)
  where
    go : (same r x ≡ true) ⊎ (member r xs ≡ true) → (member r xs ≡ true → P r) → P r
    go (inl h) later = subst P (sym (same-true r x h)) (All-head P x xs a)
    go (inr h) later = later h

pub all_from_members : (P : Name → Type 0) (xs : List Name) → ((r : Name) → member r xs ≡ true → P r) → All P xs
all_from_members P [] h = All-nil P
all_from_members P (x ∷ xs) h =
    All-cons P x xs (h x (or_left (same x x) (member x xs) (same-refl x))) (all_from_members P xs (λ r e. h r (or_right (same r x) (member r xs) e)))

pub firsts_map : (rs : List (Name × List ℕ)) → firsts rs ≡ map (λ r. r.0) rs
firsts_map [] = refl
firsts_map (r ∷ rs) = ap (λ (xs : List Name). r.0 ∷ xs) (firsts_map rs)

-- ## Of a context

pub placed_firsts : (k : ℕ) (is rs : List (Name × List ℕ)) → map (λ r. r.0) (is ++ placed k rs) ≡ map (λ r. r.0) is ++ map (λ r. r.0) rs
placed_firsts k [] [] = refl
placed_firsts k [] (r ∷ rs) = ap (λ (xs : List Name). r.0 ∷ xs) (placed_firsts k [] rs)
placed_firsts k (i ∷ is) rs = ap (λ (xs : List Name). i.0 ∷ xs) (placed_firsts k is rs)

pub unknown_firsts : (ds : List (Name × Option ValType)) (rs : List (Name × List ℕ)) → map (λ r. r.0) (ds ++ unknown rs) ≡ map (λ r. r.0) ds ++ map (λ r. r.0) rs
unknown_firsts [] [] = refl
unknown_firsts [] (r ∷ rs) = ap (λ (xs : List Name). r.0 ∷ xs) (unknown_firsts [] rs)
unknown_firsts (d ∷ ds) rs = ap (λ (xs : List Name). d.0 ∷ xs) (unknown_firsts ds rs)

pub defined_firsts : (ds : List (Name × Option ValType)) (r : Name) (v : Option ValType) → map (λ r. r.0) (ds ++ (r, v) ∷ []) ≡ map (λ r. r.0) ds ++ r ∷ []
defined_firsts [] r v = refl
defined_firsts (d ∷ ds) r v = ap (λ (xs : List Name). d.0 ∷ xs) (defined_firsts ds r v)

abbrev pub names_in : {B : Type 0} → List (Name × B) → List Name
names_in xs = map (λ r. r.0) xs

pub imported_own : (c : Tree_context) (r : Name) → member r (map (λ r. r.0) c.imported) ≡ true → IsOwn c r
imported_own c r e = member_left r (names_in c.imported) (names_in c.defined) e

pub defined_own : (c : Tree_context) (r : Name) → member r (map (λ r. r.0) c.defined) ≡ true → IsOwn c r
defined_own c r e = member_right r (names_in c.imported) (names_in c.defined) e

module _ (New : Name → Type 0) (c : Tree_context) where
  all_new : (rs : List (Name × List ℕ)) → All (λ r. New r.0) rs → (r : Name) → member r (names_in rs) ≡ true → New r
  all_new [] a r e = absurd (false≢true e)
  all_new (x ∷ xs) a r e = go (or_cases (same r x.0) (member r (names_in xs)) e) (all_new xs (All-tail (λ (y : Name × List ℕ). New y.0) x xs a) r)
    where
      go : (same r x.0 ≡ true) ⊎ (member r (names_in xs) ≡ true) → (member r (names_in xs) ≡ true → New r) → New r
      go (inl h) later = subst New (sym (same-true r x.0 h)) (All-head (λ (y : Name × List ℕ). New y.0) x xs a)
      go (inr h) later = later h

  -- a context that introduces resources, or defines one, has those that it had, and new ones
  pub introduced_own : (d : Side) (rs : List (Name × List ℕ)) → All (λ r. New r.0) rs → (r : Name) → IsOwn (introduce {X = tree_reader} d rs c) r → IsOwn c r ⊎ New r
  introduced_own importing rs a r e = go (member_cases r (names_in (c.imported ++ placed (length (c.side importing)) rs)) (names_in c.defined) e)
    where
      old : (member r (names_in c.imported) ≡ true) ⊎ (member r (names_in rs) ≡ true) → IsOwn c r ⊎ New r
      old (inl h) = inl (imported_own c r h)
      old (inr h) = inr (all_new rs a r h)

      go : (member r (names_in (c.imported ++ placed (length (c.side importing)) rs)) ≡ true) ⊎ (member r (names_in c.defined) ≡ true) → IsOwn c r ⊎ New r
      go (inl h) = old (member_cases r (names_in c.imported) (names_in rs) (subst (λ (xs : List Name). member r xs ≡ true) (placed_firsts (length (c.side importing)) c.imported rs) h))
      go (inr h) = inl (defined_own c r h)
  introduced_own exporting rs a r e = go (member_cases r (names_in c.imported) (names_in (c.defined ++ unknown rs)) e)
    where
      old : (member r (names_in c.defined) ≡ true) ⊎ (member r (names_in rs) ≡ true) → IsOwn c r ⊎ New r
      old (inl h) = inl (defined_own c r h)
      old (inr h) = inr (all_new rs a r h)

      go : (member r (names_in c.imported) ≡ true) ⊎ (member r (names_in (c.defined ++ unknown rs)) ≡ true) → IsOwn c r ⊎ New r
      go (inl h) = inl (imported_own c r h)
      go (inr h) = old (member_cases r (names_in c.defined) (names_in rs) (subst (λ (xs : List Name). member r xs ≡ true) (unknown_firsts c.defined rs) h))

  pub defines_own : (q : Name) (v : Option ValType) → New q → (r : Name) → IsOwn (define {X = tree_reader} q v c) r → IsOwn c r ⊎ New r
  defines_own q v n r e = go (member_cases r (names_in c.imported) (names_in (c.defined ++ (q, v) ∷ [])) e)
    where
      one : (same r q ≡ true) ⊎ (false ≡ true) → IsOwn c r ⊎ New r
      one (inl h) = inr (subst New (sym (same-true r q h)) n)
      one (inr h) = absurd (false≢true h)

      old : (member r (names_in c.defined) ≡ true) ⊎ (member r (q ∷ []) ≡ true) → IsOwn c r ⊎ New r
      old (inl h) = inl (defined_own c r h)
      old (inr h) = one (or_cases (same r q) false h)

      go : (member r (names_in c.imported) ≡ true) ⊎ (member r (names_in (c.defined ++ (q, v) ∷ [])) ≡ true) → IsOwn c r ⊎ New r
      go (inl h) = inl (imported_own c r h)
      go (inr h) = old (member_cases r (names_in c.defined) (q ∷ []) (subst (λ (xs : List Name). member r xs ≡ true) (defined_firsts c.defined q v) h))
