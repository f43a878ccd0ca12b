-- Whether no two resources of a list go to one, by a map from what they go to.
use Rattle.std.proofs.Common.{◌≡◌, ℕ, ◌+◌, List, [], ◌∷◌, ◌++◌, map, take, drop, Bool, true, false, ◌||◌, cond, eqb, Option, Some, None, is_some, option_map, refl, sym, ◌∙◌, ap, nat_cmp, ◌≤◌, ◌<◌, length, get_or, subst, arith, eq-eqb, unwrap_or}
use Rattle.std.specs.Prelude.{slice_get}
use Rattle.std.specs.BTreeMap.{BTreeMap, get_by, Updates}
use Rattle.std.specs.List.{list_all}
use Rattle.std.proofs.lemmas.Bool.{eqb-true}
use Rattle.std.specs.Map.{lookup}
use Rattle.std.proofs.lemmas.List.{take-append-drop}
use Rattle.std.proofs.lemmas.List.{length-map}
use Rattle.std.proofs.lemmas.Bool.Decides.{nat_tests}
use Rattle.std.proofs.lemmas.Option.{slice_get-get_or, slice_get-map}
use Rattle.wcv_core.specs.Names.{Name, number, same, member}
use Rattle.wcv_core.proofs.Names.{same-true, same-refl}
use Rattle.wcv_matching.specs.OnePass.{first_to, goes, one_to_one}
use Rattle.wcv_matching.proofs.ByName.{some_one}
use Rattle.wcv_types.specs.Replacing.{or_same}
use Rattle.wcv_types.specs.Sets.{same_resource}
use Rattle.wcv_types.specs.Tree.{firsts}
use Rattle.wcv_types.specs.Unfold.{resource_path}
use Rattle.wcv_types.specs.declared.ids.ResourceId.{ResourceId}
use Rattle.wcv_types.proofs.Copying.{eqb-sym as eqb-swap}
use Rattle.wcv_counterparts.specs.IdCounterparts.{lands_on}
use Rattle.wcv_counterparts.specs.OwnResources.{going}
use Rattle.wcv_atoms.specs.Readings.{resource_name}
use Rattle.wcv_atoms.proofs.AtomLists.{number_told}
use Rattle.wcv_atoms.proofs.Walking.{at_drop, each_held, each_holds, one_does_not, take_more}

-- the first of the list that goes to q, if one does
abbrev pub first_of : (Name → Bool) → (Name → Name) → Name → List Name → Option Name
first_of skip to q [] = None
first_of skip to q (r ∷ rs) = cond (goes skip to q r) (Some r) (first_of skip to q rs)

-- whether r is the first of the list that goes where it goes, or is skipped
abbrev pub is_first : (Name → Bool) → (Name → Name) → List Name → Name → Bool
is_first skip to rs r = skip r || same (first_to skip to (to r) rs) r

module _ (skip : Name → Bool) (to : Name → Name) where
  first_split : (q : Name) (xs ys : List Name) → first_to skip to q (xs ++ ys) ≡ or_same (first_to skip to q ys) (first_of skip to q xs)
  first_split q [] ys = refl
  first_split q (x ∷ xs) ys = go (goes skip to q x) (first_split q xs ys)
    where
      go : (b : Bool) → first_to skip to q (xs ++ ys) ≡ or_same (first_to skip to q ys) (first_of skip to q xs) → cond b x (first_to skip to q (xs ++ ys)) ≡ or_same (first_to skip to q ys) (cond b (Some x) (first_of skip to q xs))
      go true h = refl
      go false h = h

  first_next : (q r : Name) (xs : List Name) → first_of skip to q (xs ++ r ∷ []) ≡ elim (first_of skip to q xs) [ None ↦ cond (goes skip to q r) (Some r) None | Some x ↦ Some x ]
  first_next q r [] = refl
  first_next q r (x ∷ xs) = go (goes skip to q x) (first_next q r xs)
    where
      go : (b : Bool) → first_of skip to q (xs ++ r ∷ []) ≡ elim (first_of skip to q xs) [ None ↦ cond (goes skip to q r) (Some r) None | Some y ↦ Some y ] →
          cond b (Some x) (first_of skip to q (xs ++ r ∷ [])) ≡ elim (cond b (Some x) (first_of skip to q xs)) [ None ↦ cond (goes skip to q r) (Some r) None | Some x ↦ Some x ]
      go true h = refl
      go false h = h

  module _ (rs : List Name) (k : ℕ) (r : Name) (here : slice_get rs k ≡ Some r) where
    -- that one is skipped
    pub first-skipped : (q : Name) → skip r ≡ true → first_of skip to q (take (k + 1) rs) ≡ first_of skip to q (take k rs)
    first-skipped q s = ap (first_of skip to q) (take_more rs k r here) ∙ first_next q r (take k rs) ∙ go (first_of skip to q (take k rs))
      where
        go : (o : Option Name) → elim o [ None ↦ cond (goes skip to q r) (Some r) None | Some x ↦ Some x ] ≡ o
        go None = ap (λ (b : Bool). cond (cond b false (same (to r) q)) (Some r) None) s
        go (Some x) = refl

    pub is_first-skipped : skip r ≡ true → is_first skip to rs r ≡ true
    is_first-skipped s = ap (λ (b : Bool). b || same (first_to skip to (to r) rs) r) s

    module _ (n : skip r ≡ false) where
      goes_there : goes skip to (to r) r ≡ true
      goes_there = ap (λ (b : Bool). cond b false (same (to r) (to r))) n ∙ same-refl (to r)

      first_is : first_to skip to (to r) rs ≡ or_same r (first_of skip to (to r) (take k rs))
      first_is =
          ap (first_to skip to (to r)) (sym (take-append-drop k rs)) ∙ first_split (to r) (take k rs) (drop k rs) ∙
          ap (λ (w : Name). or_same w (first_of skip to (to r) (take k rs)))
          (ap (first_to skip to (to r)) (at_drop rs k r here) ∙ ap (λ (b : Bool). cond b r (first_to skip to (to r) (drop (k + 1) rs))) goes_there)

      pub is_first-told : (w : Name) → or_same r (first_of skip to (to r) (take k rs)) ≡ w → is_first skip to rs r ≡ same w r
      is_first-told w e = ap (λ (b : Bool). b || same (first_to skip to (to r) rs) r) n ∙ ap (λ (x : Name). same x r) (first_is ∙ e)

      -- the list is known by the map, with this one too
      pub seen_more : (m l : BTreeMap ℕ ℕ) (i j : ℕ) → r ≡ number i → to r ≡ number j → or_same r (first_of skip to (to r) (take k rs)) ≡ r → Updates nat_cmp m l j (Some i) →
          ((q : ℕ) → option_map number (get_by (λ x. nat_cmp q x) m) ≡ first_of skip to (number q) (take k rs)) → (q : ℕ) → option_map number (get_by (λ x. nat_cmp q x) l) ≡ first_of skip to (number q) (take (k + 1) rs)
      seen_more m l i j ri tj f u seen q =
          ap (option_map number) (u.0 q ∙ ap (λ (b : Bool). cond b (Some i) (get_by (λ x. nat_cmp q x) m)) (number_told j q)) ∙
          go (eqb q j) refl ∙
          sym (ap (first_of skip to (number q)) (take_more rs k r here) ∙ first_next (number q) r (take k rs) ∙
          ap (λ (b : Bool). elim (first_of skip to (number q) (take k rs)) [ None ↦ cond b (Some r) None | Some x ↦ Some x ]) (ap (λ (b : Bool). cond b false (same (to r) (number q))) n ∙ ap (λ (w : Name). same w (number q)) tj))
        where
          at_first : (o : Option Name) → or_same r o ≡ r → Some r ≡ elim o [ None ↦ cond true (Some r) None | Some x ↦ Some x ]
          at_first None e = refl
          at_first (Some x) e = ap Some (sym e)

          at_other : (o : Option Name) → o ≡ elim o [ None ↦ cond false (Some r) None | Some x ↦ Some x ]
          at_other None = refl
          at_other (Some x) = refl

          go : (b : Bool) → eqb q j ≡ b → option_map number (cond b (Some i) (get_by (λ x. nat_cmp q x) m)) ≡ elim (first_of skip to (number q) (take k rs)) [ None ↦ cond (eqb j q) (Some r) None | Some x ↦ Some x ]
          go true e =
              let is : q ≡ j = eqb-true q j e in
              ap Some (sym ri) ∙ at_first (first_of skip to (number q) (take k rs)) (ap (λ (w : Name). or_same r (first_of skip to w (take k rs))) (ap number is ∙ sym tj) ∙ f) ∙
              ap (λ (b : Bool). elim (first_of skip to (number q) (take k rs)) [ None ↦ cond b (Some r) None | Some x ↦ Some x ]) (sym (eqb-swap j q ∙ e))
          go false e = seen q ∙ at_other (first_of skip to (number q) (take k rs)) ∙
              ap (λ (b : Bool). elim (first_of skip to (number q) (take k rs)) [ None ↦ cond b (Some r) None | Some x ↦ Some x ]) (sym (eqb-swap j q ∙ e))

-- ## By ids

pub at_place : (ws : List (ResourceId × ResourceId)) (to : Name → Name) (rs : List Name) (k : ℕ) (w : ResourceId × ResourceId) → map lands_on ws ≡ going to rs → slice_get ws k ≡ Some w →
    (slice_get rs k ≡ Some (resource_name w.0)) × (to (resource_name w.0) ≡ resource_name w.1)
at_place ws to rs k w e h =
    go (slice_get rs k) (sym (slice_get-map (λ (r : Name). (r, to r)) rs k) ∙ sym (ap (λ (ps : List (Name × Name)). slice_get ps k) e) ∙ slice_get-map lands_on ws k ∙ ap (option_map lands_on) h)
  where
    go : (o : Option Name) → option_map (λ (r : Name). (r, to r)) o ≡ Some (lands_on w) → (o ≡ Some (resource_name w.0)) × (to (resource_name w.0) ≡ resource_name w.1)
    go None e = cc
    go (Some r) e =
        let is : (r, to r) ≡ lands_on w = some_one _ _ e in
        let first : r ≡ resource_name w.0 = ap (λ (p : Name × Name). p.0) is in
        (ap Some first, ap to (sym first) ∙ ap (λ (p : Name × Name). p.1) is)

-- whether it has a path is whether it is among the names
pub among_paths : (r : ResourceId) (ps : List (ResourceId × List ℕ)) → member (resource_name r) (firsts (map resource_path ps)) ≡ is_some (lookup (same_resource r) ps)
among_paths r [] = refl
among_paths r (p ∷ ps) = go (eqb r.index p.0.index) (among_paths r ps)
  where
    go : (b : Bool) → member (resource_name r) (firsts (map resource_path ps)) ≡ is_some (lookup (same_resource r) ps) → (b || member (resource_name r) (firsts (map resource_path ps))) ≡ is_some (cond b (Some p.1) (lookup (same_resource r) ps))
    go true h = refl
    go false h = h

module _ (skipped : List (ResourceId × List ℕ)) (ws : List (ResourceId × ResourceId)) (to : Name → Name) (rs : List Name) (all : map lands_on ws ≡ going to rs) where
  abbrev pub skips : Name → Bool
  skips r = member r (firsts (map resource_path skipped))

  abbrev Left : ℕ → Type 0
  Left i = list_all (is_first skips to rs) rs ≡ list_all (is_first skips to rs) (drop i rs)

  abbrev Seen : ℕ → BTreeMap ℕ ℕ → Type 0
  Seen i m = (q : ℕ) → option_map number (get_by (λ x. nat_cmp q x) m) ≡ first_of skips to (number q) (take i rs)

  -- at the end of the list
  pub each_first : (k : ℕ) → length ws ≤ k → Left k → true ≡ one_to_one skips to rs
  each_first k l m = each_held (is_first skips to rs) rs k (subst (λ (n : ℕ). n ≤ k) (sym (length-map ws lands_on) ∙ ap (λ (ps : List (Name × Name)). length ps) all ∙ length-map rs (λ (r : Name). (r, to r))) l) m

  module _ (k : ℕ) (d : ResourceId × ResourceId) (within : k < length ws) where
    abbrev here : ResourceId × ResourceId
    here = get_or ws k d

    place : (slice_get rs k ≡ Some (resource_name here.0)) × (to (resource_name here.0) ≡ resource_name here.1)
    place = at_place ws to rs k here all (slice_get-get_or ws k d within)

    -- that one is skipped
    pub left-skipped : is_some (lookup (same_resource here.0) skipped) ≡ true → Left k → Left (k + 1)
    left-skipped s m = each_holds (is_first skips to rs) rs k (resource_name here.0) place.0 m (is_first-skipped skips to rs k (resource_name here.0) place.0 (among_paths here.0 skipped ∙ s))

    pub seen-skipped : (m : BTreeMap ℕ ℕ) → is_some (lookup (same_resource here.0) skipped) ≡ true → Seen k m → Seen (k + 1) m
    seen-skipped m s h q = h q ∙ sym (first-skipped skips to rs k (resource_name here.0) place.0 (number q) (among_paths here.0 skipped ∙ s))

    module _ (n : is_some (lookup (same_resource here.0) skipped) ≡ false) (m : BTreeMap ℕ ℕ) (seen : Seen k m) (o : Option ℕ) (held : o ≡ get_by (λ x. nat_cmp here.1.index x) m) (first : ℕ) (is : first ≡ unwrap_or o here.0.index) where
      not_skipped : skips (resource_name here.0) ≡ false
      not_skipped = among_paths here.0 skipped ∙ n

      read : (o : Option ℕ) (i : ℕ) → or_same (number i) (option_map number o) ≡ number (unwrap_or o i)
      read None i = refl
      read (Some x) i = refl

      first_read : or_same (resource_name here.0) (first_of skips to (to (resource_name here.0)) (take k rs)) ≡ number first
      first_read =
          ap (or_same (resource_name here.0)) (ap (λ (q : Name). first_of skips to q (take k rs)) place.1 ∙ sym (seen here.1.index)) ∙
          read (get_by (λ x. nat_cmp here.1.index x) m) here.0.index ∙ ap number (sym (is ∙ ap (λ (w : Option ℕ). unwrap_or w here.0.index) held))

      told : is_first skips to rs (resource_name here.0) ≡ eqb first here.0.index
      told = is_first-told skips to rs k (resource_name here.0) place.0 not_skipped (number first) first_read

      -- another goes there
      pub two_go : (first ≡ here.0.index → ⊥) → Left k → false ≡ one_to_one skips to rs
      two_go h l = one_does_not (is_first skips to rs) rs k (resource_name here.0) place.0 l (told ∙ differs first here.0.index h)
        where
          differs : (i j : ℕ) → (i ≡ j → ⊥) → eqb i j ≡ false
          differs i j h = grind (arith, nat_tests)

      pub left-first : first ≡ here.0.index → Left k → Left (k + 1)
      left-first h l = each_holds (is_first skips to rs) rs k (resource_name here.0) place.0 l (told ∙ eq-eqb first here.0.index h)

      pub seen-first : first ≡ here.0.index → (new : BTreeMap ℕ ℕ) → Updates nat_cmp m new here.1.index (Some first) → Seen (k + 1) new
      seen-first h new u = seen_more skips to rs k (resource_name here.0) place.0 not_skipped m new first here.1.index (ap number (sym h)) place.1 (first_read ∙ ap number h) u seen
