-- Declared supertypes of ids are those of closed forms.
use Rattle.std.proofs.Common.{◌≡◌, ℕ, zero, suc, ◌+◌, ◌<◌, List, [], ◌∷◌, get_or, eqb, Bool, true, false, ◌||◌, Option, Some, None, IfSome, refl, sym, ◌∙◌, ap, arith, subst, eq-eqb}
use Rattle.std.proofs.lemmas.Bool.{eqb-true}
use Rattle.wcv_core.specs.CoreAbove.{if_parent, climbs, is_declared}
use Rattle.wcv_core.specs.CoreForm.{Group}
use Rattle.wcv_core.specs.CoreGroups.{total, parents_from}
use Rattle.wcv_core.proofs.Climbing.{before}
use Rattle.wcv_closed.specs.ClosedType.{Closed, closed}
use Rattle.wcv_closed.specs.ClosedTable.{IsTable}
use Rattle.wcv_closed.specs.ClosedMatching.{form_word, Leads, IsBelow, KeepsForm, SupersKeepForm}
use Rattle.wcv_closed.proofs.Shown.{closed_parent, super_shown, word_shown}
use Rattle.wcv_closed.proofs.Unfolding.{told}

same_some : (c d : Closed) → Some c ≡ Some d → c ≡ d
same_some c d e = cc

module _ (gs : List Group) (t : IsTable gs) where
  abbrev parents : List (Option ℕ)
  parents = parents_from 0 gs

  -- ## From ids to closed forms

  climbs_leads : (n a b : ℕ) → a < total gs → climbs n parents a b ≡ true → IsBelow (closed gs a) (closed gs b)
  climbs_leads zero a b h e = cc
  climbs_leads (suc n) a b h e = go (eqb a b) refl (get_or parents a None) refl (before 0 gs t.closed a) e (λ p l c. climbs_leads n p b (omega (arith, l)) c)
    where
      go : (s : Bool) → eqb a b ≡ s → (o : Option ℕ) → get_or parents a None ≡ o → IfSome o (λ p. p < 0 + a) → (s || if_parent o (λ p. climbs n parents p b)) ≡ true
          → ((p : ℕ) → p < 0 + a → climbs n parents p b ≡ true → IsBelow (closed gs p) (closed gs b)) → IsBelow (closed gs a) (closed gs b)
      go true x o y l e r = ([], ap (closed gs) (eqb-true a b x))
      go false x None y l e r = cc
      go false x (Some p) y l e r =
          let w = r p l e in
          (closed gs p ∷ w.0, (super_shown gs a t h ∙ ap (closed_parent gs) y, w.1))

  -- ## From closed forms to ids

  leads_climbs : (xs : List Closed) (n a b : ℕ) → a < n → a < total gs → b < total gs → Leads (closed gs a) xs (closed gs b) → climbs n parents a b ≡ true
  leads_climbs xs zero a b l h k c = Prim.absurd (omega arith)
  leads_climbs [] (suc n) a b l h k c =
      let e : eqb a b ≡ true = eq-eqb a b (told gs a b t.closed t.distinct h k c) in
      ap (λ (s : Bool). s || if_parent (get_or parents a None) (λ p. climbs n parents p b)) e
  leads_climbs (x ∷ xs) (suc n) a b l h k c =
      go (get_or parents a None) refl (before 0 gs t.closed a) (λ p m d. leads_climbs xs n p b (omega arith) (omega arith) k d)
    where
      or_right : (s : Bool) (u : Bool) → u ≡ true → (s || u) ≡ true
      or_right true u e = refl
      or_right false u e = e

      go : (o : Option ℕ) → get_or parents a None ≡ o → IfSome o (λ p. p < 0 + a) → ((p : ℕ) → p < a → Leads (closed gs p) xs (closed gs b) → climbs n parents p b ≡ true)
          → (eqb a b || if_parent (get_or parents a None) (λ p. climbs n parents p b)) ≡ true
      go None y m r = let q : None ≡ Some x = sym (super_shown gs a t h ∙ ap (closed_parent gs) y) ∙ c.0 in cc
      go (Some p) y m r =
          let q : closed gs p ≡ x = same_some (closed gs p) x (sym (super_shown gs a t h ∙ ap (closed_parent gs) y) ∙ c.0) in
          let w : climbs n parents p b ≡ true = r p (omega (arith, m)) (subst (λ (z : Closed). Leads z xs (closed gs b)) (sym q) c.1) in
          or_right (eqb a b) (if_parent (get_or parents a None) (λ p. climbs n parents p b)) (ap (λ (o : Option ℕ). if_parent o (λ p. climbs n parents p b)) y ∙ w)

  pub declared_below : (a b : ℕ) → a < total gs → is_declared gs a b ≡ true → IsBelow (closed gs a) (closed gs b)
  unfolding is_declared
  declared_below a b h e = climbs_leads (suc a) a b h e

  pub below_declared : (a b : ℕ) → a < total gs → b < total gs → IsBelow (closed gs a) (closed gs b) → is_declared gs a b ≡ true
  unfolding is_declared
  below_declared a b h k w = leads_climbs w.0 (suc a) a b (omega arith) h k w.1

  -- ## Forms of supertypes

  leads_keeps : SupersKeepForm gs → (xs : List Closed) (a : ℕ) (b : Closed) → a < total gs → Leads (closed gs a) xs b → form_word b ≡ form_word (closed gs a)
  leads_keeps s [] a b h c = ap form_word (sym c)
  leads_keeps s (x ∷ xs) a b h c = go (get_or parents a None) refl (before 0 gs t.closed a) (λ p m d. leads_keeps s xs p b (omega arith) d)
    where
      go : (o : Option ℕ) → get_or parents a None ≡ o → IfSome o (λ p. p < 0 + a) → ((p : ℕ) → p < a → Leads (closed gs p) xs b → form_word b ≡ form_word (closed gs p)) → form_word b ≡ form_word (closed gs a)
      go None y m r = let q : None ≡ Some x = sym (super_shown gs a t h ∙ ap (closed_parent gs) y) ∙ c.0 in cc
      go (Some p) y m r =
          let l : p < total gs = omega (arith, m) in
          let q : closed gs p ≡ x = same_some (closed gs p) x (sym (super_shown gs a t h ∙ ap (closed_parent gs) y) ∙ c.0) in
          r p (omega (arith, m)) (subst (λ (z : Closed). Leads z xs b) (sym q) c.1) ∙ (word_shown gs p t l ∙ (s a p h y ∙ sym (word_shown gs a t h)))

  pub keeps_form : SupersKeepForm gs → (a : ℕ) → a < total gs → KeepsForm (closed gs a)
  keeps_form s a h b w = leads_keeps s w.0 a b h w.1
