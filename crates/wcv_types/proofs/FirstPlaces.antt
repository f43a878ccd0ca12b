-- Looking up a text in a list of pairs.
use Rattle.std.proofs.Common.{◌≡◌, ◌⊎◌, inl, inr, ℕ, suc, List, [], ◌∷◌, ◌++◌, length, Bool, true, false, cond, Option, Some, None, is_some, option_map, String, string_bytes, bytes_eq, refl, ap, sym, ◌∙◌, subst, take, drop, drop-cons, get_or, add-one, ◌<◌, ◌≤◌, ◌+◌}
use Rattle.std.proofs.Math.ListN.{drop_of_length-le}
use Rattle.std.proofs.lemmas.List.{map-append}
use Rattle.std.proofs.lemmas.Option.{slice_get_read}
use Rattle.std.proofs.lemmas.Map.Text.{btree_map_updates_text}
use Rattle.std.specs.BTreeMap.{BTreeMap, Updates, get, get_by_text}
use Rattle.std.specs.Map.{lookup}
use Rattle.std.specs.Ordering.{nat_cmp, is_eq}
use Rattle.std.specs.Prelude.{slice_get}
use Rattle.std.specs.String.{string_cmp}
use Rattle.std.specs.declared.alloc.Global.{Global}
use Rattle.wcv_core.proofs.Among.{own_bytes, same_bytes}
use Rattle.wcv_core.proofs.Texts.{checked_stands, number_leads, number_others, bytes_lead, bytes_others}
use Rattle.wcv_core.specs.LabelSet.{mixed}
use Rattle.wcv_core.specs.TextSet.{LeadsTo, checked, is_text}
use Rattle.wcv_types.specs.ByName.{AreFirsts, IsFirst, first_place, texts_in, value_at}
use Rattle.wcv_types.specs.Tree.{Text}
use Rattle.wcv_types.proofs.Lists.{take-next}

-- one pair on
pub next_entry : {A : Type 0} (es : List A) (i : ℕ) (e : A) → i < length es → e ≡ get_or es i e → drop i es ≡ e ∷ drop (i + 1) es
next_entry es i e h r = drop-cons es i e h ∙ ap (λ g. g ∷ drop (suc i) es) (sym r) ∙ rw add-one refl

pub no_entry : {A : Type 0} (es : List A) (i : ℕ) → length es ≤ i → drop i es ≡ []
no_entry es i h = drop_of_length-le es h

-- ## One more text

-- the texts of the pairs before, and one more
pub texts_next : {V : Type 0} (es : List (Text × V)) (k : ℕ) (e : Text × V) (t : Text) → k < length es → e ≡ get_or es k e → t ≡ e.0 → texts_in (take (k + 1) es) ≡ texts_in (take k es) ++ t ∷ []
texts_next es k e t w r n =
    ap (λ j. texts_in (take j es)) (add-one k) ∙ ap texts_in (take-next es k e (slice_get_read es (length es) k e refl w r)) ∙ map-append (λ e. e.0) (take k es) (e ∷ []) ∙ ap (λ (u : Text). texts_in (take k es) ++ u ∷ []) (sym n)

-- where it stands first with one more behind
abbrev with_last : Text → Text → ℕ → Option ℕ → Option ℕ
with_last t u n None = cond (bytes_eq t u) (Some n) None
with_last t u n (Some k) = Some k

with_last-suc : (t u : Text) (n : ℕ) (o : Option ℕ) → option_map suc (with_last t u n o) ≡ with_last t u (suc n) (option_map suc o)
with_last-suc t u n (Some k) = refl
with_last-suc t u n None = go (bytes_eq t u)
  where
    go : (b : Bool) → option_map suc (cond b (Some n) None) ≡ cond b (Some (suc n)) None
    go true = refl
    go false = refl

place_behind : (t u : Text) (us : List Text) → first_place t (us ++ u ∷ []) ≡ with_last t u (length us) (first_place t us)
place_behind t u [] = refl
place_behind t u (v ∷ us) = go (bytes_eq t v) (ap (option_map suc) (place_behind t u us) ∙ with_last-suc t u (length us) (first_place t us))
  where
    go : (b : Bool) → option_map suc (first_place t (us ++ u ∷ [])) ≡ with_last t u (suc (length us)) (option_map suc (first_place t us)) → cond b (Some 0) (option_map suc (first_place t (us ++ u ∷ []))) ≡ with_last t u (suc (length us)) (cond b (Some 0) (option_map suc (first_place t us)))
    go true later = refl
    go false later = later

-- a text that has a place keeps it
stays : (t u : Text) (us : List Text) (k : ℕ) → first_place t us ≡ Some k → first_place t (us ++ u ∷ []) ≡ Some k
stays t u us k h = place_behind t u us ∙ ap (with_last t u (length us)) h

first_stays : (u : Text) (us : List Text) (k : ℕ) → IsFirst us k → IsFirst (us ++ u ∷ []) k
first_stays u us k (t, h) = (t, stays t u us k h)

-- what has a place then had it, or is the new text at the end
stood : (t u : Text) (us : List Text) (k : ℕ) → first_place t (us ++ u ∷ []) ≡ Some k → (first_place t us ≡ Some k) ⊎ ((first_place t us ≡ None) × (t ≡ u) × (k ≡ length us))
stood t u us k h = go (first_place t us) refl (sym (place_behind t u us) ∙ h)
  where
    last : (b : Bool) → first_place t us ≡ None → bytes_eq t u ≡ b → cond b (Some (length us)) None ≡ Some k → (first_place t us ≡ Some k) ⊎ ((first_place t us ≡ None) × (t ≡ u) × (k ≡ length us))
    last true n e l = inr (n, same_bytes t u e, cc l)
    last false n e l = cc l

    go : (o : Option ℕ) → first_place t us ≡ o → with_last t u (length us) o ≡ Some k → (first_place t us ≡ Some k) ⊎ ((first_place t us ≡ None) × (t ≡ u) × (k ≡ length us))
    go (Some j) e l = inl (e ∙ l)
    go None e l = last (bytes_eq t u) e refl l

-- ## Look-ups

-- a text stands at its place
first_stands : (t : Text) (us : List Text) (k : ℕ) → first_place t us ≡ Some k → slice_get us k ≡ Some t
first_stands t [] k h = cc h
first_stands t (u ∷ us) k h = go (bytes_eq t u) refl h (first_stands t us)
  where
    deeper : (o : Option ℕ) → option_map suc o ≡ Some k → ((j : ℕ) → o ≡ Some j → slice_get us j ≡ Some t) → slice_get (u ∷ us) k ≡ Some t
    deeper None f later = cc f
    deeper (Some j) f later =
        let next : k ≡ suc j = cc f in
        ap (slice_get (u ∷ us)) next ∙ later j refl

    go : (b : Bool) → bytes_eq t u ≡ b → cond b (Some 0) (option_map suc (first_place t us)) ≡ Some k → ((j : ℕ) → first_place t us ≡ Some j → slice_get us j ≡ Some t) → slice_get (u ∷ us) k ≡ Some t
    go true e f later =
        let here : k ≡ 0 = cc f in
        ap (slice_get (u ∷ us)) here ∙ ap Some (sym (same_bytes t u e))
    go false e f later = deeper (first_place t us) f later

-- what is checked is what was given
checked_is : (k : ℕ) (t : Text) (us : List Text) (o : Option ℕ) → Some k ≡ checked us t o → o ≡ Some k
checked_is k t us None h = cc h
checked_is k t us (Some p) h = go (is_text t (slice_get us p)) h
  where
    go : (b : Bool) → Some k ≡ cond b (Some p) None → Some p ≡ Some k
    go true h = sym h
    go false h = cc h

-- and what stands there is checked
checked_here : (k : ℕ) (t : Text) (us : List Text) (o : Option ℕ) → slice_get us k ≡ Some t → o ≡ Some k → checked us t o ≡ Some k
checked_here k t us o h e = ap (checked us t) e ∙ ap (λ (u : Option Text). cond (is_text t u) (Some k) None) h ∙ ap (λ (b : Bool). cond b (Some k) None) (own_bytes t)

module _ (n : BTreeMap ℕ ℕ) (b : BTreeMap (String Global) ℕ) (us : List Text) (f : AreFirsts n b us) (t : Text) where
  -- where the text stands at a place to which it is led, it stands first there
  led : (k : ℕ) → LeadsTo n b t k → slice_get us k ≡ Some t → first_place t us ≡ Some k
  led k l h =
      let first = f.firsts t k l in
      let here : slice_get us k ≡ Some first.0 = first_stands first.0 us k first.1 in
      let same : t ≡ first.0 = cc (h, here) in
      ap (λ (u : Text). first_place u us) same ∙ first.1

  pub by_number : (k : ℕ) → Some k ≡ checked us t (get nat_cmp n (mixed t)) → Some k ≡ first_place t us
  by_number k h =
      let o : Option ℕ = get nat_cmp n (mixed t) in
      sym (led k (inl (checked_is k t us o h)) (checked_stands k t us o h))

  -- where its number does not lead to it
  pub by_bytes : None ≡ checked us t (get nat_cmp n (mixed t)) → checked us t (get_by_text b t) ≡ first_place t us
  by_bytes absent = go (checked us t (get_by_text b t)) refl
    where
      o : Option ℕ
      o = get_by_text b t

      found : (k : ℕ) → first_place t us ≡ Some k → LeadsTo n b t k → checked us t o ≡ Some k
      found k h (inr e) = checked_here k t us o (first_stands t us k h) e
      found k h (inl e) =
          let there : checked us t (get nat_cmp n (mixed t)) ≡ Some k = checked_here k t us (get nat_cmp n (mixed t)) (first_stands t us k h) e in
          cc (there, absent)

      none : (p : Option ℕ) → first_place t us ≡ p → checked us t o ≡ None → None ≡ first_place t us
      none None e h = sym e
      none (Some k) e h =
          let there : checked us t o ≡ Some k = found k e (f.leads t k e) in
          cc (there, h)

      go : (p : Option ℕ) → checked us t o ≡ p → p ≡ first_place t us
      go (Some k) e = sym (led k (inr (checked_is k t us o (sym e))) (checked_stands k t us o (sym e)))
      go None e = none (first_place t us) refl e

-- ## Maps with one more text

module _ (n : BTreeMap ℕ ℕ) (b : BTreeMap (String Global) ℕ) (us : List Text) (u : Text) (f : AreFirsts n b us) where
  -- a text that stands there already
  pub joins_old : is_some (first_place u us) ≡ true → AreFirsts n b (us ++ u ∷ [])
  joins_old h = record { leads = λ t k e. leads t k (stood t u us k e); firsts = λ t k l. first_stays u us k (f.firsts t k l) }
    where
      leads : (t : Text) (k : ℕ) → (first_place t us ≡ Some k) ⊎ ((first_place t us ≡ None) × (t ≡ u) × (k ≡ length us)) → LeadsTo n b t k
      leads t k (inl e) = f.leads t k e
      leads t k (inr e) =
          let none : is_some (first_place u us) ≡ false = ap (λ (v : Text). is_some (first_place v us)) (sym e.1) ∙ ap is_some e.0 in
          cc (none, h)

  module _ (new : is_some (first_place u us) ≡ false) where
    -- one that does not, where it is led to its place
    joins : (m : BTreeMap ℕ ℕ) (c : BTreeMap (String Global) ℕ) → LeadsTo m c u (length us)
        → ((t : Text) (k : ℕ) → bytes_eq u t ≡ false → LeadsTo n b t k → LeadsTo m c t k) → ((t : Text) (k : ℕ) → LeadsTo m c t k → LeadsTo n b t k ⊎ (k ≡ length us)) → AreFirsts m c (us ++ u ∷ [])
    joins m c to kept back = record { leads = λ t k e. leads t k (stood t u us k e); firsts = λ t k l. firsts k (first t k (back t k l)) }
      where
        none : first_place u us ≡ None
        none = go (first_place u us) new
          where
            go : (o : Option ℕ) → is_some o ≡ false → o ≡ None
            go None h = refl
            go (Some k) h = cc h

        apart : (t : Text) (k : ℕ) → first_place t us ≡ Some k → (d : Bool) → bytes_eq u t ≡ d → bytes_eq u t ≡ false
        apart t k e false h = h
        apart t k e true h =
            let there : first_place u us ≡ Some k = ap (λ (v : Text). first_place v us) (same_bytes u t h) ∙ e in
            cc (there, none)

        leads : (t : Text) (k : ℕ) → (first_place t us ≡ Some k) ⊎ ((first_place t us ≡ None) × (t ≡ u) × (k ≡ length us)) → LeadsTo m c t k
        leads t k (inl e) = kept t k (apart t k e (bytes_eq u t) refl) (f.leads t k e)
        leads t k (inr e) = subst (λ (v : Text). LeadsTo m c v k) (sym e.1) (subst (λ (j : ℕ). LeadsTo m c u j) (sym e.2) to)

        firsts : (k : ℕ) → IsFirst us k ⊎ (k ≡ length us) → IsFirst (us ++ u ∷ []) k
        firsts k (inl e) = first_stays u us k e
        firsts k (inr e) = (u, place_behind u u us ∙ ap (with_last u u (length us)) none ∙ ap (λ (d : Bool). cond d (Some (length us)) None) (own_bytes u) ∙ ap Some (sym e))

        first : (t : Text) (k : ℕ) → LeadsTo n b t k ⊎ (k ≡ length us) → IsFirst us k ⊎ (k ≡ length us)
        first t k (inl l) = inl (f.firsts t k l)
        first t k (inr e) = inr e

    -- by its number
    pub number_joins : (m : BTreeMap ℕ ℕ) (x : ℕ) (p : ℕ) → x ≡ mixed u → p ≡ length us → is_some (get nat_cmp n x) ≡ false → Updates nat_cmp n m x (Some p) → AreFirsts m b (us ++ u ∷ [])
    number_joins m x p e l free w =
        joins m b (subst (λ (k : ℕ). LeadsTo m b u k) l (number_leads n m b x u p w e)) (λ t k d h. number_others n m b x p t k free w h) back
      where
        back : (t : Text) (k : ℕ) → LeadsTo m b t k → LeadsTo n b t k ⊎ (k ≡ length us)
        back t k (inr h) = inl (inr h)
        back t k (inl h) = go (is_eq (nat_cmp x (mixed t))) (sym (w.0 (mixed t)) ∙ h)
          where
            go : (d : Bool) → cond d (Some p) (get nat_cmp n (mixed t)) ≡ Some k → LeadsTo n b t k ⊎ (k ≡ length us)
            go false g = inl (inl g)
            go true g = inr (cc (g, l))

    -- by its bytes
    pub bytes_join : (c : BTreeMap (String Global) ℕ) (s : String Global) (p : ℕ) → string_bytes s ≡ u → p ≡ length us → Updates string_cmp b c s (Some p) → AreFirsts n c (us ++ u ∷ [])
    bytes_join c s p e l w =
        joins n c (subst (λ (k : ℕ). LeadsTo n c u k) l (bytes_lead n b c s u p w e)) (λ t k d h. bytes_others n b c s u p t k w e d h) back
      where
        back : (t : Text) (k : ℕ) → LeadsTo n c t k → LeadsTo n b t k ⊎ (k ≡ length us)
        back t k (inl h) = inl (inl h)
        back t k (inr h) = go (bytes_eq (string_bytes s) t) (sym (btree_map_updates_text (string_bytes s) b c (Some p) w t) ∙ h)
          where
            go : (d : Bool) → cond d (Some p) (get_by_text b t) ≡ Some k → LeadsTo n b t k ⊎ (k ≡ length us)
            go false g = inl (inr g)
            go true g = inr (cc (g, l))

-- ## Values

-- what stands first has the value that a look-up finds
pub found : {V : Type 0} (t : Text) (es : List (Text × V)) → value_at es (first_place t (texts_in es)) ≡ lookup (bytes_eq t) es
found t [] = refl
found t (e ∷ es) = go (bytes_eq t e.0) (found t es)
  where
    later : (o : Option ℕ) → value_at (e ∷ es) (option_map suc o) ≡ value_at es o
    later None = refl
    later (Some k) = refl

    go : (b : Bool) → value_at es (first_place t (texts_in es)) ≡ lookup (bytes_eq t) es → value_at (e ∷ es) (cond b (Some 0) (option_map suc (first_place t (texts_in es)))) ≡ cond b (Some e.1) (lookup (bytes_eq t) es)
    go true rest = refl
    go false rest = later (first_place t (texts_in es)) ∙ rest
