-- Lists of options, one option after the other.
use Rattle.std.proofs.Common.{◌≡◌, ℕ, zero, suc, ◌+◌, ◌<◌, ◌≤◌, List, [], ◌∷◌, ◌++◌, length, take, drop, map, get_or, refl, sym, ◌∙◌, ap, arith, Bool, true, false, ◌&&◌, ◌||◌, eqb, Some, None, slice_set, add-one}
use Rattle.std.specs.Prelude.{Option}
use Rattle.std.specs.Option.{option_or}
use Rattle.std.proofs.lemmas.Bool.{eq-eqb, eqb-true, false≢true}
use Rattle.std.proofs.lemmas.Grind.{get_or-set_at}
use Rattle.std.proofs.lemmas.List.{drop_more, get_or-set_other}
use Rattle.wcv_core.specs.declared.core_types.ValType.{ValType}
use Rattle.wcv_syntax.specs.declared.canonical.CanonicalOption.{CanonicalOption}
use Rattle.wcv_types.specs.Positions.{is_there}
use Rattle.wcv_types.proofs.Copying.{eqb-sym}
use Rattle.wcv_matching.specs.ItemTests.{same_val}
use Rattle.wcv_lower.specs.CanonOptions.{first, repeats}
use Rattle.wcv_lower.specs.Types.{same_vals}

nothing : {A : Type 0} (xs : List A) (i : ℕ) → length xs ≤ i → drop i xs ≡ []
nothing [] zero h = refl
nothing [] (suc i) h = refl
nothing (x ∷ xs) zero h = Prim.absurd (omega arith)
nothing (x ∷ xs) (suc i) h = nothing xs i (omega arith)

-- ## The first that gives something

module _ {A : Type 0} (f : CanonicalOption → Option A) (os : List CanonicalOption) (i : ℕ) where
  module _ (o : CanonicalOption) (h : i < length os) where
    pub first_goes : f (get_or os i o) ≡ None → first f (drop i os) ≡ first f (drop (i + 1) os)
    first_goes e = ap (first f) (drop_more os i o h) ∙ go (f (get_or os i o)) e
      where
        go : (x : Option A) → x ≡ None → option_or x (first f (drop (i + 1) os)) ≡ first f (drop (i + 1) os)
        go None e = refl
        go (Some x) e = absurd (cc)

    pub first_found : (x : A) → f (get_or os i o) ≡ Some x → first f (drop i os) ≡ Some x
    first_found x e = ap (first f) (drop_more os i o h) ∙ ap (λ (y : Option A). option_or y (first f (drop (i + 1) os))) e

  pub first_none : length os ≤ i → first f (drop i os) ≡ None
  first_none h = ap (first f) (nothing os i h)

-- ## Lists of value types that are equal

module _ (a b : List ValType) (i : ℕ) where
  module _ (v w : ValType) (h : i < length a) (k : i < length b) where
    vals_step : same_vals (drop i a) (drop i b) ≡ (same_val (get_or a i v) (get_or b i w) && same_vals (drop (i + 1) a) (drop (i + 1) b))
    vals_step = λ j. same_vals (drop_more a i v h j) (drop_more b i w k j)

    pub vals_fail : same_val (get_or a i v) (get_or b i w) ≡ false → same_vals (drop i a) (drop i b) ≡ false
    vals_fail e = vals_step ∙ ap (λ (x : Bool). x && same_vals (drop (i + 1) a) (drop (i + 1) b)) e

    pub vals_go : same_val (get_or a i v) (get_or b i w) ≡ true → same_vals (drop i a) (drop i b) ≡ same_vals (drop (i + 1) a) (drop (i + 1) b)
    vals_go e = vals_step ∙ ap (λ (x : Bool). x && same_vals (drop (i + 1) a) (drop (i + 1) b)) e

  pub vals_end : length a ≤ i → length b ≤ i → same_vals (drop i a) (drop i b) ≡ true
  vals_end h k = λ j. same_vals (nothing a i h j) (nothing b i k j)

pub vals_unequal : (a b : List ValType) → (length a ≡ length b → ⊥) → same_vals a b ≡ false
vals_unequal [] [] h = Prim.absurd (h refl)
vals_unequal [] (y ∷ ys) h = refl
vals_unequal (x ∷ xs) [] h = refl
vals_unequal (x ∷ xs) (y ∷ ys) h = go (same_val x y) (vals_unequal xs ys (λ e. h (ap suc e)))
  where
    go : (b : Bool) → same_vals xs ys ≡ false → (b && same_vals xs ys) ≡ false
    go true e = e
    go false e = refl

-- ## Numbers that stand twice

-- each number below 8 is marked where it is one of the list
abbrev pub Seen : List Bool → List ℕ → Type 0
Seen bs ns = (n : ℕ) → n < 8 → get_or bs n false ≡ is_there eqb n ns

or_true : (a : Bool) → (a || true) ≡ true
or_true true = refl
or_true false = refl

pub or_false : (a : Bool) → (a || false) ≡ a
or_false true = refl
or_false false = refl

there_push : (n k : ℕ) (ns : List ℕ) → is_there eqb n (ns ++ k ∷ []) ≡ (is_there eqb n ns || eqb n k)
there_push n k [] = or_false (eqb n k)
there_push n k (m ∷ ns) = ap (λ (b : Bool). eqb n m || b) (there_push n k ns) ∙ go (eqb n m)
  where
    go : (b : Bool) → (b || (is_there eqb n ns || eqb n k)) ≡ ((b || is_there eqb n ns) || eqb n k)
    go true = refl
    go false = refl

or_middle : (a b c d : Bool) → ((a || b) || (c || d)) ≡ ((a || c) || (b || d))
or_middle true b c d = refl
or_middle false true true d = refl
or_middle false true false d = refl
or_middle false false true d = refl
or_middle false false false d = refl

pub repeats_push : (k : ℕ) (ns : List ℕ) → repeats (ns ++ k ∷ []) ≡ (repeats ns || is_there eqb k ns)
repeats_push k [] = refl
repeats_push k (m ∷ ns) =
    ap (λ (b : Bool). b || repeats (ns ++ k ∷ [])) (there_push m k ns) ∙
    ap (λ (b : Bool). (is_there eqb m ns || eqb m k) || b) (repeats_push k ns) ∙
    or_middle (is_there eqb m ns) (eqb m k) (repeats ns) (is_there eqb k ns) ∙
    ap (λ (b : Bool). (is_there eqb m ns || repeats ns) || (b || is_there eqb k ns)) (eqb-sym m k)

pub seen_push : (bs : List Bool) (ns : List ℕ) (k : ℕ) → k < length bs → Seen bs ns → Seen (slice_set bs k true) (ns ++ k ∷ [])
seen_push bs ns k h s n w = go (eqb n k) refl
  where
    either : Bool → Bool
    either b = is_there eqb n ns || b

    go : (b : Bool) → eqb n k ≡ b → get_or (slice_set bs k true) n false ≡ is_there eqb n (ns ++ k ∷ [])
    go true e = get_or-set_at bs k n true false (eqb-true n k e) h ∙ sym (there_push n k ns ∙ ap either e ∙ or_true (is_there eqb n ns))
    go false e = get_or-set_other bs k n true false (λ q. false≢true (sym e ∙ eq-eqb n k q)) ∙ s n w ∙ sym (there_push n k ns ∙ ap either e ∙ or_false (is_there eqb n ns))

mapped_suc : {A B : Type 0} (f : A → B) (xs : List A) (i : ℕ) (x : A) → i < length xs → map f (take (suc i) xs) ≡ map f (take i xs) ++ f (get_or xs i x) ∷ []
mapped_suc f [] i x h = Prim.absurd (omega arith)
mapped_suc f (y ∷ xs) zero x h = refl
mapped_suc f (y ∷ xs) (suc i) x h = ap (λ ys. f y ∷ ys) (mapped_suc f xs i x (omega arith))

pub mapped_push : {A B : Type 0} (f : A → B) (xs : List A) (i : ℕ) (x : A) → i < length xs → map f (take (i + 1) xs) ≡ map f (take i xs) ++ f (get_or xs i x) ∷ []
mapped_push f xs i x h = ap (λ (n : ℕ). map f (take n xs)) (add-one i) ∙ mapped_suc f xs i x h

same_there : {A : Type 0} (xs : List A) (i : ℕ) (d e : A) → i < length xs → get_or xs i d ≡ get_or xs i e
same_there [] i d e h = Prim.absurd (omega arith)
same_there (x ∷ xs) zero d e h = refl
same_there (x ∷ xs) (suc i) d e h = same_there xs i d e (omega arith)

-- one more number stands twice, where it is marked
pub repeats_more : (r before : Bool) (bs : List Bool) (ns : List ℕ) (k : ℕ) (d : Bool) → length bs ≡ 8 → k < 8 → Seen bs ns → r ≡ (before || get_or bs k d) → before ≡ repeats ns → r ≡ repeats (ns ++ k ∷ [])
repeats_more r before bs ns k d l w s e h = e ∙ (λ j. h j || (same_there bs k d false (omega (arith, l, w)) ∙ s k w) j) ∙ sym (repeats_push k ns)
