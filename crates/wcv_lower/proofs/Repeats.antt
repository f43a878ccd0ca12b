-- Texts of a list that repeat, or differ.
use Rattle.std.proofs.Common.{◌≡◌, List, [], ◌∷◌, ◌++◌, Bool, true, false, ◌||◌, refl, sym, ◌∙◌, ap, bytes_eq}
use Rattle.std.specs.List.{AllByRecursion, IsDistinct, list_any}
use Rattle.std.proofs.lemmas.Bool.{false≢true}
use Rattle.wcv_core.proofs.Among.{bytes_eq-sym, is_among-push}
use Rattle.wcv_types.specs.Tree.{Text}
use Rattle.wcv_lower.specs.Checks.{is_among, has_repeat}

-- a text is among others where it is equal to one
pub any_among : (t : Text) (ts : List Text) → list_any (bytes_eq t) ts ≡ is_among t ts
any_among t [] = refl
any_among t (u ∷ us) = ap (λ (b : Bool). bytes_eq t u || b) (any_among t us)

-- (a or b) or (c or d), with the inner ones exchanged
or_middle : (a b c d : Bool) → ((a || b) || (c || d)) ≡ ((a || c) || (b || d))
or_middle true b c d = refl
or_middle false true true d = refl
or_middle false true false d = refl
or_middle false false true d = refl
or_middle false false false d = refl

-- one more text at the end
pub has_repeat-push : (k : Text) (ks : List Text) → has_repeat (ks ++ k ∷ []) ≡ (has_repeat ks || is_among k ks)
has_repeat-push k [] = refl
has_repeat-push k (l ∷ ks) =
    ap (λ (b : Bool). b || has_repeat (ks ++ k ∷ [])) (is_among-push l k ks) ∙
    ap (λ (b : Bool). (is_among l ks || bytes_eq l k) || b) (has_repeat-push k ks) ∙
    or_middle (is_among l ks) (bytes_eq l k) (has_repeat ks) (is_among k ks) ∙
    ap (λ (b : Bool). (is_among l ks || has_repeat ks) || (b || is_among k ks)) (bytes_eq-sym l k)

pub neither_left : (a b : Bool) → (a || b) ≡ false → a ≡ false
neither_left true b h = absurd (false≢true (sym h))
neither_left false b h = refl

pub neither_right : (a b : Bool) → (a || b) ≡ false → b ≡ false
neither_right true b h = absurd (false≢true (sym h))
neither_right false b h = h

all_apart : (t : Text) (ts : List Text) → is_among t ts ≡ false → AllByRecursion (λ u. bytes_eq t u ≡ false) ts
all_apart t [] h = tt
all_apart t (u ∷ us) h = (neither_left (bytes_eq t u) (is_among t us) h, all_apart t us (neither_right (bytes_eq t u) (is_among t us) h))

-- those of which none repeats differ
pub repeats_differ : (ts : List Text) → has_repeat ts ≡ false → IsDistinct bytes_eq ts
unfolding IsDistinct
repeats_differ [] h = tt
repeats_differ (t ∷ ts) h = (all_apart t ts (neither_left (is_among t ts) (has_repeat ts) h), repeats_differ ts (neither_right (is_among t ts) (has_repeat ts) h))
