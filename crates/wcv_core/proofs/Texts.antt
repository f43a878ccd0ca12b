-- A set of texts finds each that it has, and no other.
use Rattle.std.proofs.Common.{◌≡◌, ◌⊎◌, inl, inr, ℕ, zero, suc, List, [], ◌∷◌, ◌++◌, length, Bool, true, false, ◌||◌, cond, String, string_bytes, Option, Some, None, is_some, bytes_eq, refl, sym, ◌∙◌, ap, subst, arith}
use Rattle.std.specs.Prelude.{slice_get, IsSome}
use Rattle.std.specs.List.{IsDistinct, list_any}
use Rattle.std.specs.Map.{lookup}
use Rattle.std.specs.BTreeMap.{BTreeMap, is_at, get, get_by_text, Updates}
use Rattle.std.specs.Cmp.Lexicographic.{slice_cmp}
use Rattle.std.specs.Ordering.{nat_cmp, is_eq}
use Rattle.std.specs.String.{string_cmp}
use Rattle.std.specs.declared.alloc.Global.{Global}
use Rattle.std.proofs.lemmas.Bool.{false≢true}
use Rattle.std.proofs.lemmas.Bool.Decides.{nat_tests}
use Rattle.std.proofs.lemmas.Cmp.{nat_list_eq_equiv}
use Rattle.std.proofs.lemmas.Map.Keys.{IsDistinct-push}
use Rattle.std.proofs.lemmas.Map.Text.{btree_map_updates_text}
use Rattle.wcv_core.proofs.Among.{is_among-joined, own_bytes, same_bytes}
use Rattle.wcv_core.specs.Label.{is_among}
use Rattle.wcv_core.specs.LabelSet.{mixed}
use Rattle.wcv_core.specs.TextSet.{Text, is_text, with_text, checked, LeadsTo, IsIndexed}

abbrev Numbers : Type 0
Numbers = BTreeMap ℕ ℕ

abbrev Bytes : Type 0
Bytes = BTreeMap (String Global) ℕ

-- ## Texts among others

-- what stands somewhere is among them
pub among_at : (k : ℕ) (t : Text) (ts : List Text) → slice_get ts k ≡ Some t → is_among t ts ≡ true
among_at k t [] h = cc h
among_at zero t (u ∷ us) h =
    let same : u ≡ t = cc h in
    ap (λ (v : Text). bytes_eq t v || is_among t us) same ∙ ap (λ (b : Bool). b || is_among t us) (own_bytes t)
among_at (suc k) t (u ∷ us) h = go (bytes_eq t u) (among_at k t us h)
  where
    go : (b : Bool) → is_among t us ≡ true → (b || is_among t us) ≡ true
    go true m = refl
    go false m = m

-- and what is among them stands somewhere
record Stands (t : Text) (ts : List Text) : Type 0 where
  at : ℕ
  is : slice_get ts at ≡ Some t

among_stands : (t : Text) (ts : List Text) → is_among t ts ≡ true → Stands t ts
among_stands t [] h = cc h
among_stands t (u ∷ us) h = go (bytes_eq t u) refl h (among_stands t us)
  where
    go : (b : Bool) → bytes_eq t u ≡ b → (b || is_among t us) ≡ true → (is_among t us ≡ true → Stands t us) → Stands t (u ∷ us)
    go true e k later = record { at = 0; is = ap Some (sym (same_bytes t u e)) }
    go false e k later = record { at = suc (later k).at; is = (later k).is }

-- a text that is not among them is another than each
apart_at : (x t : Text) (k : ℕ) (ts : List Text) → is_among x ts ≡ false → slice_get ts k ≡ Some t → bytes_eq x t ≡ false
apart_at x t k ts new h = go (bytes_eq x t) refl
  where
    go : (b : Bool) → bytes_eq x t ≡ b → bytes_eq x t ≡ false
    go false e = e
    go true e =
        let among : is_among x ts ≡ true = ap (λ (y : Text). is_among y ts) (same_bytes x t e) ∙ among_at k t ts h in
        cc (among, new)

any_among : (t : Text) (ts : List Text) → list_any (bytes_eq t) ts ≡ is_among t ts
any_among t [] = refl
any_among t (u ∷ us) = ap (λ (b : Bool). bytes_eq t u || b) (any_among t us)

-- ## Look-ups

pub checked_stands : (k : ℕ) (t : Text) (ts : List Text) (o : Option ℕ) → Some k ≡ checked ts t o → slice_get ts k ≡ Some t
checked_stands k t ts None h = cc h
checked_stands k t ts (Some p) h = go (slice_get ts p) refl h
  where
    go : (o : Option Text) → slice_get ts p ≡ o → Some k ≡ cond (is_text t o) (Some p) None → slice_get ts k ≡ Some t
    go None e h = cc h
    go (Some u) e h = more (bytes_eq u t) refl h
      where
        more : (b : Bool) → bytes_eq u t ≡ b → Some k ≡ cond b (Some p) None → slice_get ts k ≡ Some t
        more false f h = cc h
        more true f h =
            let same : k ≡ p = cc h in
            ap (slice_get ts) same ∙ e ∙ ap Some (same_bytes u t f)

pub checked_among : (k : ℕ) (t : Text) (ts : List Text) (o : Option ℕ) → Some k ≡ checked ts t o → true ≡ is_among t ts
checked_among k t ts o h = sym (among_at k t ts (checked_stands k t ts o h))

checked_at : (k : ℕ) (t : Text) (ts : List Text) (o : Option ℕ) → slice_get ts k ≡ Some t → o ≡ Some k → checked ts t o ≡ Some k
checked_at k t ts o h e = ap (checked ts t) e ∙ ap (λ (u : Option Text). cond (is_text t u) (Some k) None) h ∙ ap (λ (b : Bool). cond b (Some k) None) (own_bytes t)

-- a text is found by its bytes where its number does not lead to it
pub found : (n : Numbers) (b : Bytes) (t : Text) (ts : List Text) → IsIndexed n b ts → None ≡ checked ts t (get nat_cmp n (mixed t)) → is_some (checked ts t (get_by_text b t)) ≡ is_among t ts
found n b t ts i absent = go (is_among t ts) refl
  where
    with_place : (o : Option ℕ) → checked ts t (get_by_text b t) ≡ o → is_among t ts ≡ false → is_some o ≡ false
    with_place None e h = refl
    with_place (Some k) e h =
        let among : true ≡ is_among t ts = checked_among k t ts (get_by_text b t) (sym e) in
        cc (among, h)

    leads : (s : Stands t ts) → LeadsTo n b t s.at → is_some (checked ts t (get_by_text b t)) ≡ true
    leads s (inl e) =
        let there : checked ts t (get nat_cmp n (mixed t)) ≡ Some s.at = checked_at s.at t ts (get nat_cmp n (mixed t)) s.is e in
        cc (there, absent)
    leads s (inr e) = ap is_some (checked_at s.at t ts (get_by_text b t) s.is e)

    go : (a : Bool) → is_among t ts ≡ a → is_some (checked ts t (get_by_text b t)) ≡ is_among t ts
    go false h = with_place (checked ts t (get_by_text b t)) refl h ∙ sym h
    go true h = let s = among_stands t ts h in leads s (i.leads s.at t s.is) ∙ sym h

-- a text is found where it is among the texts that are seen
pub found_seen : (n : Numbers) (b : Bytes) (t : Text) (ts us : List Text) (m : ℕ) → IsIndexed n b ts → ts ≡ us → m ≡ mixed t → None ≡ checked us t (get nat_cmp n m) → is_some (checked us t (get_by_text b t)) ≡ is_among t us
found_seen n b t ts us m i e f h =
    let absent : None ≡ checked ts t (get nat_cmp n (mixed t)) = h ∙ ap (λ (k : ℕ). checked us t (get nat_cmp n k)) f ∙ ap (λ (vs : List Text). checked vs t (get nat_cmp n (mixed t))) (sym e) in
    subst (λ (vs : List Text). is_some (checked vs t (get_by_text b t)) ≡ is_among t vs) e (found n b t ts i absent)

-- ## One more text

number_differs : (m n : ℕ) → is_eq (nat_cmp m n) ≡ true → m ≡ n
number_differs m n e = grind (arith, nat_tests)

-- what leads to a place does so while the maps are the same
pub unchanged_leads : (n m : Numbers) (b c : Bytes) → m.entries ≡ n.entries → c.entries ≡ b.entries → (t : Text) (k : ℕ) → LeadsTo n b t k → LeadsTo m c t k
unchanged_leads n m b c e f t k (inl h) = inl (ap (lookup (is_at (nat_cmp (mixed t)))) e ∙ h)
unchanged_leads n m b c e f t k (inr h) = inr (ap (lookup (is_at (λ (s : String Global). slice_cmp nat_cmp t (string_bytes s)))) f ∙ h)

pub number_leads : (n m : Numbers) (b : Bytes) (x : ℕ) (t : Text) (p : ℕ) → Updates nat_cmp n m x (Some p) → x ≡ mixed t → LeadsTo m b t p
number_leads n m b x t p u e = inl (ap (get nat_cmp m) (sym e) ∙ u.1)

pub bytes_lead : (n : Numbers) (b c : Bytes) (s : String Global) (t : Text) (p : ℕ) → Updates string_cmp b c s (Some p) → string_bytes s ≡ t → LeadsTo n c t p
bytes_lead n b c s t p u e = inr (ap (get_by_text c) (sym e) ∙ u.1)

-- and where the number of another text leads to a place
pub number_others : (n m : Numbers) (b : Bytes) (x : ℕ) (p : ℕ) (t : Text) (k : ℕ) → is_some (get nat_cmp n x) ≡ false → Updates nat_cmp n m x (Some p) → LeadsTo n b t k → LeadsTo m b t k
number_others n m b x p t k new u (inr e) = inr e
number_others n m b x p t k new u (inl e) = go (is_eq (nat_cmp x (mixed t))) refl
  where
    go : (c : Bool) → is_eq (nat_cmp x (mixed t)) ≡ c → LeadsTo m b t k
    go false f = inl (u.2 (mixed t) f ∙ e)
    go true f =
        let there : get nat_cmp n x ≡ Some k = ap (get nat_cmp n) (number_differs x (mixed t) f) ∙ e in
        cc (ap is_some there, new)

-- or its bytes do
pub bytes_others : (n : Numbers) (b c : Bytes) (s : String Global) (x : Text) (p : ℕ) (t : Text) (k : ℕ) → Updates string_cmp b c s (Some p) → string_bytes s ≡ x → bytes_eq x t ≡ false → LeadsTo n b t k → LeadsTo n c t k
bytes_others n b c s x p t k u f d (inl e) = inl e
bytes_others n b c s x p t k u f d (inr e) =
    let apart : bytes_eq (string_bytes s) t ≡ false = ap (λ (y : Text). bytes_eq y t) f ∙ d in
    inr (btree_map_updates_text (string_bytes s) b c (Some p) u t ∙ ap (λ (f : Bool). cond f (Some p) (get_by_text b t)) apart ∙ e)

-- the text joins as the next
module _ (n : Numbers) (b : Bytes) (m : Numbers) (c : Bytes) (x : Text) (ts : List Text)
    (new : is_among x ts ≡ false) (others : (t : Text) (k : ℕ) → bytes_eq x t ≡ false → LeadsTo n b t k → LeadsTo m c t k) (i : IsIndexed n b ts) where
  pub still_indexed : IsIndexed m c ts
  still_indexed = record { once = i.once; leads = λ k t h. others t k (apart_at x t k ts new h) (i.leads k t h) }

  -- what stands then stood before, or is new
  stood : (k : ℕ) (t : Text) (us : List Text) → slice_get (us ++ x ∷ []) k ≡ Some t → (slice_get us k ≡ Some t) ⊎ ((k ≡ length us) × (x ≡ t))
  stood zero t [] h = inr (refl, cc h)
  stood (suc k) t [] h = cc h
  stood zero t (u ∷ us) h = inl h
  stood (suc k) t (u ∷ us) h = go (stood k t us h)
    where
      go : (slice_get us k ≡ Some t) ⊎ ((k ≡ length us) × (x ≡ t)) → (slice_get us k ≡ Some t) ⊎ ((suc k ≡ suc (length us)) × (x ≡ t))
      go (inl e) = inl e
      go (inr e) = inr (ap suc e.0, e.1)

  pub joins_indexed : LeadsTo m c x (length ts) → IsIndexed m c (ts ++ x ∷ [])
  joins_indexed to = record { once = IsDistinct-push nat_list_eq_equiv ts x i.once (any_among x ts ∙ new); leads = λ k t h. go k t (stood k t ts h) }
    where
      go : (k : ℕ) (t : Text) → (slice_get ts k ≡ Some t) ⊎ ((k ≡ length ts) × (x ≡ t)) → LeadsTo m c t k
      go k t (inl e) = still_indexed.leads k t e
      go k t (inr e) = subst (λ (u : Text). LeadsTo m c u k) e.1 (subst (λ (l : ℕ). LeadsTo m c x l) (sym e.0) to)

-- ## What a set with one more text has

pub with_new : (t : Text) (ts : List Text) → is_among t ts ≡ false → ts ++ t ∷ [] ≡ with_text t ts
with_new t ts h = sym (ap (λ (b : Bool). cond b ts (ts ++ t ∷ [])) h)

pub with_old : (t : Text) (ts : List Text) → is_among t ts ≡ true → ts ≡ with_text t ts
with_old t ts h = sym (ap (λ (b : Bool). cond b ts (ts ++ t ∷ [])) h)

pub among_with : (t x : Text) (ts : List Text) → is_among t (with_text x ts) ≡ (bytes_eq t x || is_among t ts)
among_with t x ts = go (is_among x ts) refl
  where
    go : (b : Bool) → is_among x ts ≡ b → is_among t (cond b ts (ts ++ x ∷ [])) ≡ (bytes_eq t x || is_among t ts)
    go false e = sym (is_among-joined t x ts)
    go true e = more (bytes_eq t x) refl
      where
        more : (d : Bool) → bytes_eq t x ≡ d → is_among t ts ≡ (d || is_among t ts)
        more false f = refl
        more true f = ap (λ (y : Text). is_among y ts) (same_bytes t x f) ∙ e

-- the new text stands behind the others, which stay
stands_last : (t : Text) (ts : List Text) → slice_get (ts ++ t ∷ []) (length ts) ≡ Some t
stands_last t [] = refl
stands_last t (u ∷ us) = stands_last t us

pub last_of : (t : Text) (ts us : List Text) (k : ℕ) → us ≡ ts ++ t ∷ [] → k ≡ length ts → slice_get us k ≡ Some t
last_of t ts us k e f = (λ j. slice_get (e j) (f j)) ∙ stands_last t ts

stays_first : (t : Text) (ts : List Text) (k : ℕ) → IsSome (slice_get ts k) → slice_get (ts ++ t ∷ []) k ≡ slice_get ts k
stays_first t [] k h = absurd (false≢true h)
stays_first t (u ∷ us) zero h = refl
stays_first t (u ∷ us) (suc k) h = stays_first t us k h

pub stays : (t : Text) (ts : List Text) (k : ℕ) → IsSome (slice_get ts k) → slice_get (with_text t ts) k ≡ slice_get ts k
stays t ts k h = go (is_among t ts)
  where
    go : (b : Bool) → slice_get (cond b ts (ts ++ t ∷ [])) k ≡ slice_get ts k
    go true = refl
    go false = stays_first t ts k h

pub none_indexed : (n : Numbers) (b : Bytes) (ts : List Text) → ts ≡ [] → IsIndexed n b ts
unfolding IsDistinct
none_indexed n b ts e = subst (IsIndexed n b) (sym e) (record { once = tt; leads = λ k t h. cc h })
