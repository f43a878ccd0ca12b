-- Entries as contracts see them.
use Rattle.std.proofs.Common.{◌≡◌, List, [], ◌∷◌, ◌++◌, map, refl, sym, ◌∙◌, ap, Bool, true, false, cond, ◌||◌, Some, None}
use Rattle.std.proofs.Math.Bool.{or-false}
use Rattle.std.proofs.lemmas.List.{map-append}
use Rattle.std.proofs.lemmas.List.Folds.{list_any-append}
use Rattle.std.specs.Prelude.{Option, option_map}
use Rattle.std.specs.List.{IsDistinct, AllByRecursion, list_any}
use Rattle.std.specs.Map.{keys_of, lookup}
use Rattle.wcv_types.specs.Unfold.{any_part}
use Rattle.wcv_types.specs.contracts.ids.ComponentAnyTypeIdPartialEq.TheImpl.{eq-value}
use Rattle.wcv_types.specs.declared.ids.ComponentAnyTypeId.TheVariants as any
use Rattle.wcv_types.specs.declared.ids.ComponentAnyTypeId.{ComponentAnyTypeId}
use Rattle.wcv_types.specs.declared.ids.Part.{Part}
use Rattle.wcv_types.specs.declared.ids.ResourceId.{ResourceId}
use Rattle.wcv_remap.specs.Map.{Sent, Map, gives_types, sent, sent_to, same_part}
use Rattle.wcv_remap.specs.declared.map.Kept.{Kept}

abbrev pub Keyed : Type 0
Keyed = List (ComponentAnyTypeId × Kept)

-- what is kept, as contracts see it
abbrev pub as_sent : Kept → Sent
as_sent k = record { to = any_part k.to; given = k.given }

module _ (eq : ComponentAnyTypeId → ComponentAnyTypeId → Bool) (same : (i j : ComponentAnyTypeId) → eq i j ≡ same_part (any_part i) (any_part j)) where
  choose : (b c : Bool) (k : Kept) (x : Option Sent) (y : Option Kept) → b ≡ c → x ≡ option_map as_sent y → cond b (Some (as_sent k)) x ≡ option_map as_sent (cond c (Some k) y)
  choose true true k x y e h = refl
  choose false false k x y e h = h
  choose true false k x y e h = absurd (let f = e in cc)
  choose false true k x y e h = absurd (let f = e in cc)

  pub lookup_sent : (i : ComponentAnyTypeId) (es : Keyed) → lookup (same_part (any_part i)) (map sent es) ≡ option_map as_sent (lookup (eq i) es)
  lookup_sent i [] = refl
  lookup_sent i (e ∷ es) = choose (same_part (any_part i) (any_part e.0)) (eq i e.0) e.1 (lookup (same_part (any_part i)) (map sent es)) (lookup (eq i) es) (sym (same i e.0)) (lookup_sent i es)

  none_of : (o : Option Kept) → option_map as_sent o ≡ None → o ≡ None
  none_of None e = refl
  none_of (Some k) e = absurd (let f = e in cc)

  -- what has no entry is no key
  pub lookup_absent : (i : ComponentAnyTypeId) (q : Part) (es : Keyed) → any_part i ≡ q → lookup (same_part q) (map sent es) ≡ None → lookup (eq i) es ≡ None
  lookup_absent i q es e n = none_of (lookup (eq i) es) (sym (lookup_sent i es) ∙ ap (λ (r : Part). lookup (same_part r) (map sent es)) e ∙ n)

  differs : (i : ComponentAnyTypeId) (es : Keyed) → AllByRecursion (λ j. eq i j ≡ false) (keys_of es) → AllByRecursion (λ r. same_part (any_part i) r ≡ false) (keys_of (map sent es))
  differs i [] h = tt
  differs i (e ∷ es) h = (sym (same i e.0) ∙ h.0, differs i es h.1)

  pub sent_distinct : (es : Keyed) → IsDistinct eq (keys_of es) → IsDistinct same_part (keys_of (map sent es))
  unfolding IsDistinct
  sent_distinct [] h = tt
  sent_distinct (e ∷ es) h = (differs e.0 es h.0, sent_distinct es h.1)

  fuse : (o : Option Kept) → option_map (λ (s : Sent). s.to) (option_map as_sent o) ≡ option_map (λ (k : Kept). any_part k.to) o
  fuse None = refl
  fuse (Some k) = refl

  -- where an id goes
  pub sent_view : (i : ComponentAnyTypeId) (rs : List (ResourceId × ResourceId)) (es : Keyed) (v : Map) → record { resources = rs; types = map sent es } ≡ v → sent_to v (any_part i) ≡ option_map (λ (k : Kept). any_part k.to) (lookup (eq i) es)
  sent_view i rs es v h = ap (λ (w : Map). sent_to w (any_part i)) (sym h) ∙ ap (option_map (λ (s : Sent). s.to)) (lookup_sent i es) ∙ fuse (lookup (eq i) es)

-- ids are told apart as their parts are
pub as_parts : (i j : ComponentAnyTypeId) → eq-value.it i j ≡ same_part (any_part i) (any_part j)
as_parts (any.Resource q) (any.Resource r) = refl
as_parts (any.Defined i) (any.Defined j) = refl
as_parts (any.Func i) (any.Func j) = refl
as_parts (any.Instance i) (any.Instance j) = refl
as_parts (any.Component i) (any.Component j) = refl
as_parts _ _ = refl

-- ## Whether some type was given

abbrev is_given : Part × Sent → Bool
is_given e = e.1.given

pub gives_push : (rs : List (ResourceId × ResourceId)) (es : Keyed) (e : ComponentAnyTypeId × Kept) → gives_types (record { resources = rs; types = map sent (es ++ e ∷ []) }) ≡ (gives_types (record { resources = rs; types = map sent es }) || e.1.given)
gives_push rs es e =
    ap (list_any is_given) (map-append sent es (e ∷ [])) ∙ list_any-append is_given (map sent es) (sent e ∷ []) ∙ ap (λ (b : Bool). list_any is_given (map sent es) || b) (or-false e.1.given)
