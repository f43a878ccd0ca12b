-- The resources that are free in a list of entries are those that were gathered from it.
use Rattle.std.proofs.Common.{◌≡◌, List, [], ◌∷◌, refl, sym, ◌∙◌, ap, Bool, true, false, ◌||◌, inl, inr, ⊎_elim}
use Rattle.std.proofs.lemmas.Bool.{false≢true}
use Rattle.wcv_core.specs.Names.{Name, number, member}
use Rattle.wcv_types.specs.Gathering.{Gains, FreeAmong}
use Rattle.wcv_types.specs.Resources.{is_free}
use Rattle.wcv_types.specs.Sets.{has_resource, resource_names}
use Rattle.wcv_types.specs.declared.ids.ResourceId.{ResourceId}
use Rattle.wcv_types.proofs.Gaining.{has-member}
use Rattle.wcv_types.proofs.IsFree.{is_free-free, free-is_free}
use Rattle.wcv_lower.specs.Trees.{Entries, tree_reader}
use Rattle.wcv_lower.specs.Ending.{is_free_among}

either : (b c : Bool) → c ≡ true → (b || c) ≡ true
either true c e = refl
either false c e = e

same_truth : (b c : Bool) → (b ≡ true → c ≡ true) → (c ≡ true → b ≡ true) → b ≡ c
same_truth true c to from = sym (to refl)
same_truth false true to from = from refl
same_truth false false to from = refl

free_among : (r : Name) (es : Entries) → is_free_among tree_reader r es ≡ true → FreeAmong es r
free_among r [] h = absurd (false≢true h)
free_among r (e ∷ es) h = go (is_free r e.1) refl h (λ w. free_among r es w)
  where
    go : (b : Bool) → is_free r e.1 ≡ b → (b || is_free_among tree_reader r es) ≡ true → (is_free_among tree_reader r es ≡ true → FreeAmong es r) → FreeAmong (e ∷ es) r
    go true x w later = inl (is_free-free r e.1 x)
    go false x w later = inr (later w)

among_free : (r : Name) (es : Entries) → FreeAmong es r → is_free_among tree_reader r es ≡ true
among_free r [] h = absurd h
among_free r (e ∷ es) (inl x) = ap (λ (b : Bool). b || is_free_among tree_reader r es) (free-is_free r e.1 x)
among_free r (e ∷ es) (inr x) = either (is_free r e.1) (is_free_among tree_reader r es) (among_free r es x)

-- what was gathered in a set that had none
pub gathered_free : (es : Entries) (rs : List ResourceId) (q : ResourceId) → Gains (FreeAmong es) [] rs → has_resource rs q ≡ is_free_among tree_reader (number q.index) es
gathered_free es rs q g =
    has-member rs q ∙ same_truth (member (number q.index) (resource_names rs)) (is_free_among tree_reader (number q.index) es)
    (λ m. ⊎_elim (λ (x : false ≡ true). absurd (false≢true x)) (λ (x : FreeAmong es (number q.index)). among_free (number q.index) es x) (g.only (number q.index) m))
    (λ f. g.all (number q.index) (free_among (number q.index) es f))
