-- Which of the defined resources a component type keeps: those that are free in its exports, each with a path that leads to it.
use Rattle.std.proofs.Common.{◌≡◌, ℕ, List, [], ◌∷◌, Bool, true, false, ◌||◌, cond, refl, sym, ◌∙◌, ap, subst, Some, ◌⊎◌, inl, inr}
use Rattle.std.specs.Prelude.{All, Option}
use Rattle.std.specs.Option.{option_map}
use Rattle.std.proofs.Math.Bool.{or-true}
use Rattle.std.proofs.lemmas.Bool.{false≢true}
use Rattle.std.proofs.lemmas.List.Elements.{All-nil, All-cons}
use Rattle.wcv_core.specs.Names.{Name}
use Rattle.wcv_core.specs.declared.core_types.ValType.{ValType}
use Rattle.wcv_types.specs.FirstPath.{first_path}
use Rattle.wcv_types.specs.Paths.{PathLeadsTo}
use Rattle.wcv_types.proofs.FirstPath.{first_path-leads}
use Rattle.wcv_types.proofs.Lists.{some-inj}
use Rattle.wcv_lower.specs.Ending.{is_free_among, any_free, keep, kept}
use Rattle.wcv_lower.specs.Trees.{Entries, tree_reader}
use Rattle.wcv_growth.proofs.Having.{Has, Once}
use Rattle.wcv_growth.proofs.Known.{mapped-some, then-some}

pub any-free : (ds : List (Name × Option ValType)) (es : Entries) (r : Name) → Has ds r → is_free_among tree_reader r es ≡ true → any_free tree_reader ds es ≡ true
any-free [] es r h e = absurd h
any-free (d ∷ ds) es r (inl s) e = ap (λ (b : Bool). b || any_free tree_reader ds es) (sym (ap (λ (q : Name). is_free_among tree_reader q es) s) ∙ e)
any-free (d ∷ ds) es r (inr h) e = ap (λ (b : Bool). is_free_among tree_reader d.0 es || b) (any-free ds es r h e) ∙ or-true (is_free_among tree_reader d.0 es)

module _ (es : Entries) where
  abbrev Paths : Type 0
  Paths = List (Name × List ℕ)

  keep-cases : (q : Name) (old new : Paths) → keep tree_reader q es old ≡ Some new →
      ((p : List ℕ) × (first_path q es ≡ Some p) × ((q, p) ∷ old ≡ new)) ⊎ ((is_free_among tree_reader q es ≡ false) × (old ≡ new))
  keep-cases q old new e = go (is_free_among tree_reader q es) refl e
    where
      go : (b : Bool) → is_free_among tree_reader q es ≡ b → cond b (option_map (λ p. (q, p) ∷ old) (first_path q es)) (Some old) ≡ Some new →
          ((p : List ℕ) × (first_path q es ≡ Some p) × ((q, p) ∷ old ≡ new)) ⊎ ((is_free_among tree_reader q es ≡ false) × (old ≡ new))
      go true f w = inl (mapped-some (λ (p : List ℕ). (q, p) ∷ old) (first_path q es) new w)
      go false f w = inr (f, some-inj w)

  -- each that is free in an entry
  pub kept-has : (ds : List (Name × Option ValType)) (ks : Paths) (r : Name) → kept tree_reader ds es ≡ Some ks → Has ds r → is_free_among tree_reader r es ≡ true → Has ks r
  kept-has [] ks r e h free = absurd h
  kept-has (d ∷ ds) ks r e h free =
      let m = then-some (keep tree_reader d.0 es) (kept tree_reader ds es) ks e in
      go m.0 (λ x. kept-has ds m.0 r m.1 x free) h (keep-cases d.0 m.0 ks m.2)
    where
      go : (old : Paths) → (Has ds r → Has old r) → (r ≡ d.0) ⊎ Has ds r → ((p : List ℕ) × (first_path d.0 es ≡ Some p) × ((d.0, p) ∷ old ≡ ks)) ⊎ ((is_free_among tree_reader d.0 es ≡ false) × (old ≡ ks)) → Has ks r
      go old more (inl s) (inl c) = subst (λ (rs : Paths). Has rs r) c.2 (inl s)
      go old more (inl s) (inr c) = absurd (false≢true (sym c.0 ∙ ap (λ (q : Name). is_free_among tree_reader q es) (sym s) ∙ free))
      go old more (inr x) (inl c) = subst (λ (rs : Paths). Has rs r) c.2 (inr (more x))
      go old more (inr x) (inr c) = subst (λ (rs : Paths). Has rs r) c.1 (more x)

  -- and no other
  pub kept-old : (ds : List (Name × Option ValType)) (ks : Paths) (r : Name) → kept tree_reader ds es ≡ Some ks → Has ks r → Has ds r
  kept-old [] ks r e h = subst (λ (rs : Paths). Has rs r) (sym (some-inj e)) h
  kept-old (d ∷ ds) ks r e h =
      let m = then-some (keep tree_reader d.0 es) (kept tree_reader ds es) ks e in
      go m.0 (λ x. kept-old ds m.0 r m.1 x) (keep-cases d.0 m.0 ks m.2)
    where
      first : (old : Paths) → (Has old r → Has ds r) → (r ≡ d.0) ⊎ Has old r → (r ≡ d.0) ⊎ Has ds r
      first old more (inl s) = inl s
      first old more (inr x) = inr (more x)

      go : (old : Paths) → (Has old r → Has ds r) → ((p : List ℕ) × (first_path d.0 es ≡ Some p) × ((d.0, p) ∷ old ≡ ks)) ⊎ ((is_free_among tree_reader d.0 es ≡ false) × (old ≡ ks)) → (r ≡ d.0) ⊎ Has ds r
      go old more (inl c) = first old more (subst (λ (rs : Paths). Has rs r) (sym c.2) h)
      go old more (inr c) = inr (more (subst (λ (rs : Paths). Has rs r) (sym c.1) h))

  pub kept-once : (ds : List (Name × Option ValType)) (ks : Paths) → kept tree_reader ds es ≡ Some ks → Once ds → Once ks
  kept-once [] ks e o = subst (λ (rs : Paths). Once rs) (some-inj e) tt
  kept-once (d ∷ ds) ks e o =
      let m = then-some (keep tree_reader d.0 es) (kept tree_reader ds es) ks e in
      go m.0 (λ x. o.0 (kept-old ds m.0 d.0 m.1 x)) (kept-once ds m.0 m.1 o.1) (keep-cases d.0 m.0 ks m.2)
    where
      go : (old : Paths) → (Has old d.0 → ⊥) → Once old → ((p : List ℕ) × (first_path d.0 es ≡ Some p) × ((d.0, p) ∷ old ≡ ks)) ⊎ ((is_free_among tree_reader d.0 es ≡ false) × (old ≡ ks)) → Once ks
      go old n x (inl c) = subst (λ (rs : Paths). Once rs) c.2 (n, x)
      go old n x (inr c) = subst (λ (rs : Paths). Once rs) c.1 x

  -- at a path that leads to it
  pub kept-leads : (ds : List (Name × Option ValType)) (ks : Paths) → kept tree_reader ds es ≡ Some ks → All (λ p. PathLeadsTo p.1 p.0 es) ks
  kept-leads [] ks e = subst (All (λ p. PathLeadsTo p.1 p.0 es)) (some-inj e) (All-nil _)
  kept-leads (d ∷ ds) ks e =
      let m = then-some (keep tree_reader d.0 es) (kept tree_reader ds es) ks e in
      go m.0 (kept-leads ds m.0 m.1) (keep-cases d.0 m.0 ks m.2)
    where
      go : (old : Paths) → All (λ p. PathLeadsTo p.1 p.0 es) old → ((p : List ℕ) × (first_path d.0 es ≡ Some p) × ((d.0, p) ∷ old ≡ ks)) ⊎ ((is_free_among tree_reader d.0 es ≡ false) × (old ≡ ks)) → All (λ p. PathLeadsTo p.1 p.0 es) ks
      go old a (inl c) = subst (All (λ p. PathLeadsTo p.1 p.0 es)) c.2 (All-cons (λ p. PathLeadsTo p.1 p.0 es) (d.0, c.0) old (first_path-leads d.0 es c.0 c.1) a)
      go old a (inr c) = subst (All (λ p. PathLeadsTo p.1 p.0 es)) c.1 a
