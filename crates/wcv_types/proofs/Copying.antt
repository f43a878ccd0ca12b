-- Copies of lists whose keys are distinct, one key after another.
use Rattle.std.proofs.Common.{◌≡◌, ℕ, zero, suc, ◌+◌, ◌<◌, List, [], ◌∷◌, ◌++◌, length, take, refl, sym, ◌∙◌, ap, subst, arith, Bool, false, cond, ◌||◌, Some, None, add-one}
use Rattle.std.specs.Prelude.{slice_get, eqb}
use Rattle.std.specs.List.{AllByRecursion, IsDistinct, list_any}
use Rattle.std.specs.Map.{keys_of, lookup}
use Rattle.std.proofs.lemmas.Map.{lookup-none}
use Rattle.std.proofs.lemmas.Map.Keys.{IsDistinct-head, IsDistinct-tail}
use Rattle.wcv_types.specs.Sets.{same_resource, has_resource, with_resource}
use Rattle.wcv_types.specs.declared.ids.ResourceId.{ResourceId}
use Rattle.wcv_types.proofs.Knowing.{take-next}

pub eqb-sym : (m n : ℕ) → eqb m n ≡ eqb n m
eqb-sym m n = grind arith

at_each : {X : Type 0} (P : X → Type 0) (xs : List X) (k : ℕ) (x : X) → AllByRecursion P xs → slice_get xs k ≡ Some x → P x
at_each P [] k x a h = absurd (cc)
at_each P (y ∷ xs) zero x a h =
    let e : y ≡ x = cc in
    subst P e a.0
at_each P (y ∷ xs) (suc k) x a h = at_each P xs k x a.1 h

key_at : {K X : Type 0} (es : List (K × X)) (k : ℕ) (x : K × X) → slice_get es k ≡ Some x → slice_get (keys_of es) k ≡ Some x.0
key_at [] k x h = absurd (cc)
key_at (y ∷ es) zero x h =
    let e : y ≡ x = cc in
    ap (λ z. Some z.0) e
key_at (y ∷ es) (suc k) x h = key_at es k x h

-- a key is equal to none before it
module _ {K : Type 0} (e f : K → K → Bool) (turned : (x y : K) → f x y ≡ e y x) where
  pub fresh_key : (ks : List K) (k : ℕ) (x : K) → IsDistinct e ks → slice_get ks k ≡ Some x → list_any (f x) (take k ks) ≡ false
  fresh_key [] k x d h = absurd (cc)
  fresh_key (y ∷ ks) zero x d h = refl
  fresh_key (y ∷ ks) (suc k) x d h =
      let first : f x y ≡ false = turned x y ∙ at_each (λ z. e y z ≡ false) ks k x (IsDistinct-head e y ks d) h in
      let rest : list_any (f x) (take k ks) ≡ false = fresh_key ks k x (IsDistinct-tail e y ks d) h in
      λ j. first j || rest j

  pub fresh_entry : {X : Type 0} (es : List (K × X)) (k : ℕ) (x : K × X) → IsDistinct e (keys_of es) → slice_get es k ≡ Some x → lookup (f x.0) (take k es) ≡ None
  fresh_entry {X} es k x d h = lookup-none (f x.0) (take k es) (go es k d h)
    where
      go : (es : List (K × X)) (k : ℕ) → IsDistinct e (keys_of es) → slice_get es k ≡ Some x → AllByRecursion (λ z. f x.0 z.0 ≡ false) (take k es)
      go [] k d h = absurd (cc)
      go (y ∷ es) zero d h = tt
      go (y ∷ es) (suc k) d h =
          (turned x.0 y.0 ∙ at_each (λ z. e y.0 z ≡ false) (keys_of es) k x.0 (IsDistinct-head e y.0 (keys_of es) d) (key_at es k x h), go es k (IsDistinct-tail e y.0 (keys_of es) d) h)

-- one more resource
pub set_next : (rs : List ResourceId) (k : ℕ) (r : ResourceId) (copied new : List ResourceId) → IsDistinct same_resource rs → slice_get rs k ≡ Some r → copied ≡ take k rs → new ≡ with_resource copied r → new ≡ take (k + 1) rs
set_next rs k r copied new d there c n =
    let fresh : has_resource (take k rs) r ≡ false = fresh_key same_resource same_resource (λ x y. eqb-sym x.index y.index) rs k r d there in
    n ∙ ap (λ (cs : List ResourceId). with_resource cs r) c ∙ ap (λ (b : Bool). cond b (take k rs) (take k rs ++ r ∷ [])) fresh ∙
    sym (take-next rs k r there) ∙ ap (λ (j : ℕ). take j rs) (sym (add-one k))

-- one more resource and its place
pub path_next : {X : Type 0} (es : List (ResourceId × X)) (k : ℕ) (r : ResourceId) (v w : X) (copied new : List (ResourceId × X)) → slice_get es k ≡ Some (r, v) → copied ≡ take k es → w ≡ v → new ≡ copied ++ (r, w) ∷ [] → new ≡ take (k + 1) es
path_next es k r v w copied new h c e n =
    n ∙ (λ j. c j ++ (r, e j) ∷ []) ∙ sym (take-next es k (r, v) h) ∙ ap (λ (j : ℕ). take j es) (sym (add-one k))

pub none_past : {X : Type 0} (xs : List X) (k : ℕ) → None ≡ slice_get xs k → k < length xs → ⊥
none_past [] k h l = absurd (omega (arith, l))
none_past (x ∷ xs) zero h l = cc
none_past (x ∷ xs) (suc k) h l = none_past xs k h (omega (arith, l))
