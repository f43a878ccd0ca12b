-- Names that are looked at one after the other, whether they differ.
use Rattle.std.proofs.Common.{◌≡◌, ◌<◌, ℕ, ◌+◌, suc, List, [], ◌∷◌, ◌++◌, length, take, drop, refl, sym, ◌∙◌, ap, Bool, true, false, ◌||◌, cond, Some, slice_index_or}
use Rattle.std.specs.Prelude.{slice_get, option_map, bytes_eq}
use Rattle.std.specs.List.{AllByRecursion, IsDistinct}
use Rattle.std.proofs.lemmas.Option.{slice_get-map, slice_get_read}
use Rattle.wcv_core.specs.TextSet.{with_text}
use Rattle.wcv_types.specs.ByName.{texts_in}
use Rattle.wcv_types.specs.Tree.{Text}
use Rattle.wcv_lower.specs.Checks.{is_among, has_repeat}
use Rattle.wcv_decls.proofs.Positions.{take-at, split-at}
use Rattle.wcv_lower.proofs.Repeats.{has_repeat-push}
use Rattle.wcv_decls.proofs.Repeats.{has_repeat-again}

pub name_at : {V : Type 0} (es : List (Text × V)) (i : ℕ) (x : Text × V) → i < length es → x ≡ slice_index_or es i x → slice_get (texts_in es) i ≡ Some x.0
name_at {V} es i x h e = slice_get-map (λ (y : Text × V). y.0) es i ∙ ap (option_map (λ (y : Text × V). y.0)) (slice_get_read es (length es) i x refl h e)

-- names that differ do not repeat
not_among : (t : Text) (ts : List Text) → AllByRecursion (λ u. bytes_eq t u ≡ false) ts → is_among t ts ≡ false
not_among t [] h = refl
not_among t (u ∷ us) h = λ j. h.0 j || not_among t us h.1 j

pub none_repeats : (ts : List Text) → IsDistinct bytes_eq ts → has_repeat ts ≡ false
unfolding IsDistinct
none_repeats [] h = refl
none_repeats (t ∷ ts) h = λ j. not_among t ts h.0 j || none_repeats ts h.1 j

module _ (ts : List Text) (i : ℕ) (t : Text) (at : slice_get ts i ≡ Some t) where
  -- a text that stood before
  pub repeats_here : is_among t (take i ts) ≡ true → has_repeat ts ≡ true
  repeats_here h = sym (ap has_repeat (split-at ts i t at)) ∙ has_repeat-again t (take i ts) (drop (suc i) ts) h

  -- one that did not
  pub apart_more : is_among t (take i ts) ≡ false → has_repeat (take i ts) ≡ false → has_repeat (take (i + 1) ts) ≡ false
  apart_more h f = ap has_repeat (take-at ts i t at) ∙ has_repeat-push t (take i ts) ∙ λ j. f j || h j

  pub seen_more : (set new : List Text) → set ≡ take i ts → new ≡ with_text t set → is_among t set ≡ false → new ≡ take (i + 1) ts
  seen_more set new e w h = w ∙ ap (λ (b : Bool). cond b set (set ++ t ∷ [])) h ∙ ap (λ (xs : List Text). xs ++ t ∷ []) e ∙ sym (take-at ts i t at)
