-- Lists of names that grow at the end, and the keys that the code keeps of them.
use Rattle.std.proofs.Common.{◌≡◌, ℕ, suc, ◌+◌, List, [], ◌∷◌, ◌++◌, take, drop, map, Bool, true, false, ◌||◌, ◌&&◌, refl, sym, ◌∙◌, ap, subst, Some, inl, inr}
use Rattle.std.specs.Prelude.{not, slice_get}
use Rattle.std.specs.List.{list_all}
use Rattle.std.specs.Str.{bytes_eq}
use Rattle.std.proofs.lemmas.Bool.{false≢true}
use Rattle.std.proofs.lemmas.List.{map-append}
use Rattle.std.proofs.lemmas.List.Folds.{list_all-append}
use Rattle.wcv_core.specs.Label.{is_label, lower_case}
use Rattle.wcv_core.specs.Refusal.{error_kind}
use Rattle.wcv_core.specs.declared.error.Error.{Error}
use Rattle.wcv_core.specs.declared.error.ErrorKind.{ErrorKind}
use Rattle.wcv_core.proofs.Names.{and_right}
use Rattle.wcv_core.proofs.Among.{bytes_eq-sym}
use Rattle.wcv_types.specs.Tree.{Text}
use Rattle.wcv_lower.specs.Checks.{Cause, IsFree, is_among, has_repeat, label_checks, bad_label}
use Rattle.wcv_lower.proofs.Repeats.{has_repeat-push}
use Rattle.wcv_spaces.specs.Parts.{AreKeys}
use Rattle.wcv_spaces.specs.Promises.{MemoryOrCausedBy}
use Rattle.wcv_spaces.proofs.Calls.{caused_more}
use Rattle.wcv_decls.proofs.Positions.{take-at, split-at}

-- ## Keys

or_right : (a b : Bool) → b ≡ true → (a || b) ≡ true
or_right true b h = refl
or_right false b h = h

-- what stands among the first stands twice, where it stands once more
pub has_repeat-again : (k : Text) (ks ls : List Text) → is_among k ks ≡ true → has_repeat (ks ++ k ∷ ls) ≡ true
has_repeat-again k [] ls h = absurd (cc)
has_repeat-again k (l ∷ ks) ls h = again (bytes_eq k l) refl h (has_repeat-again k ks ls)
  where
    among : (us : List Text) → bytes_eq l k ≡ true → is_among l (us ++ k ∷ ls) ≡ true
    among [] e = ap (λ (b : Bool). b || is_among l ls) e
    among (u ∷ us) e = or_right (bytes_eq l u) (is_among l (us ++ k ∷ ls)) (among us e)

    again : (b : Bool) → bytes_eq k l ≡ b → (b || is_among k ks) ≡ true → (is_among k ks ≡ true → has_repeat (ks ++ k ∷ ls) ≡ true) → (is_among l (ks ++ k ∷ ls) || has_repeat (ks ++ k ∷ ls)) ≡ true
    again true e i f = ap (λ (b : Bool). b || has_repeat (ks ++ k ∷ ls)) (among ks (bytes_eq-sym l k ∙ e))
    again false e i f = or_right (is_among l (ks ++ k ∷ ls)) (has_repeat (ks ++ k ∷ ls)) (f i)

-- ## Names

not_true : (b : Bool) → not b ≡ true → b ≡ false
not_true false e = refl
not_true true e = absurd (false≢true e)

not_false : (b : Bool) → not b ≡ false → b ≡ true
not_false true e = refl
not_false false e = absurd (false≢true (sym e))

and_false : (a : Bool) → (a && false) ≡ false
and_false true = refl
and_false false = refl

-- a label that conflicts with none is not among the keys
not_among : (n : Text) (set : List Text) → IsFree (bad_label set n) → is_among (lower_case n) set ≡ false
not_among n set f = ap (λ (b : Bool). b && is_among (lower_case n) set) (sym (not_false (is_label n) f.0)) ∙ f.1.0

module _ (set ns : List Text) (i : ℕ) (n : Text) (at : slice_get ns i ≡ Some n) where
  abbrev before : List Text
  before = take i ns

  abbrev after : List Text
  after = drop (suc i) ns

  -- a name that may not join those before it is a cause of the whole list
  names_fail : (k : ErrorKind) → AreKeys set (map lower_case before) → Cause (bad_label set n) k → Cause (label_checks ns) k
  names_fail k a c = subst (λ (xs : List Text). Cause (label_checks xs) k) (split-at ns i n at) (go c)
    where
      go : Cause (bad_label set n) k → Cause (label_checks (before ++ n ∷ after)) k
      go (inl p) =
          inl (
            p.0,
            ap not (list_all-append is_label before (n ∷ after) ∙
                ap (λ (b : Bool). list_all is_label before && (b && list_all is_label after)) (not_true (is_label n) p.1) ∙ and_false (list_all is_label before)),
          )
      go (inr (inl p)) =
          inr (inl (
            p.0,
            ap has_repeat (map-append lower_case before (n ∷ after)) ∙
                has_repeat-again (lower_case n) (map lower_case before) (map lower_case after) (sym (a (lower_case n)) ∙ and_right (is_label n) (is_among (lower_case n) set) p.1),
          ))
      go (inr (inr p)) = absurd p

  pub names_caused : {M : Type 0} (offset : ℕ) (e : Error M) → AreKeys set (map lower_case (take i ns)) → MemoryOrCausedBy (bad_label set n) offset e → MemoryOrCausedBy (label_checks ns) offset e
  names_caused offset e a t = caused_more (bad_label set n) (label_checks ns) offset e (names_fail (error_kind e) a) t

  -- one more name that may join
  pub names_push : AreKeys set (map lower_case (take i ns)) → IsFree (label_checks (take i ns)) → IsFree (bad_label set n) → IsFree (label_checks (take (i + 1) ns))
  names_push a f g = subst (λ (xs : List Text). IsFree (label_checks xs)) (sym (take-at ns i n at)) (
    ap not (list_all-append is_label before (n ∷ []) ∙ ap (λ (b : Bool). b && (is_label n && true)) (not_false (list_all is_label before) f.0) ∙ ap (λ (b : Bool). b && true) (not_false (is_label n) g.0)),
    (
      ap has_repeat (map-append lower_case before (n ∷ [])) ∙ has_repeat-push (lower_case n) (map lower_case before) ∙
          ap (λ (b : Bool). b || is_among (lower_case n) (map lower_case before)) f.1.0 ∙ (sym (a (lower_case n)) ∙ not_among n set g),
      tt,
    ),
  )

pub keys_push : (set ns : List Text) (i : ℕ) (n : Text) → slice_get ns i ≡ Some n → AreKeys set (map lower_case (take i ns) ++ lower_case n ∷ []) → AreKeys set (map lower_case (take (i + 1) ns))
keys_push set ns i n at a t = a t ∙ ap (is_among t) (sym (ap (map lower_case) (take-at ns i n at) ∙ map-append lower_case (take i ns) (n ∷ [])))
