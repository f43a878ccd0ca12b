-- Resources that are recorded one after another.
use Rattle.std.proofs.Common.{◌≡◌, ℕ, ◌+◌, ◌≤◌, List, [], ◌∷◌, ◌++◌, map, take, length, take_all, append-nil, append_assoc, add-one, refl, sym, ◌∙◌, ap, Bool, true, false, ◌||◌, eqb, Some, None}
use Rattle.std.specs.Prelude.{Option, slice_get, cond}
use Rattle.std.specs.List.{IsDistinct}
use Rattle.std.specs.Map.{keys_of, lookup}
use Rattle.std.proofs.lemmas.List.{map-append}
use Rattle.wcv_core.specs.declared.core_types.ValType.{ValType}
use Rattle.wcv_types.specs.Sets.{same_resource}
use Rattle.wcv_types.specs.declared.ids.ResourceId.{ResourceId}
use Rattle.wcv_types.proofs.Copying.{eqb-sym, fresh_entry}
use Rattle.wcv_types.proofs.Lists.{take-next}
use Rattle.wcv_lower.specs.Context.{placed, unknown}
use Rattle.wcv_spaces.specs.Bringing.{Paths, AreNewIn}
use Rattle.wcv_spaces.specs.Looking.{has_resource}
use Rattle.wcv_spaces.proofs.Walks.{found_holds}

or_neither : (a b : Bool) → a ≡ false → b ≡ false → (a || b) ≡ false
or_neither true b h k = h
or_neither false b h k = k

or_assoc : (a b c : Bool) → (a || (b || c)) ≡ ((a || b) || c)
or_assoc true b c = refl
or_assoc false b c = refl

has-append : {X : Type 0} (r : ResourceId) (ps qs : List (ResourceId × X)) → has_resource r (ps ++ qs) ≡ (has_resource r ps || has_resource r qs)
has-append r [] qs = refl
has-append r (p ∷ ps) qs = ap (λ (b : Bool). eqb r.index p.0.index || b) (has-append r ps qs) ∙ or_assoc (eqb r.index p.0.index) (has_resource r ps) (has_resource r qs)

none_has : {X : Type 0} (r : ResourceId) (ps : List (ResourceId × X)) → lookup (same_resource r) ps ≡ None → has_resource r ps ≡ false
none_has r [] h = refl
none_has {X} r (p ∷ ps) h = go (eqb r.index p.0.index) h (λ k. none_has r ps k)
  where
    go : (b : Bool) → cond b (Some p.1) (lookup (same_resource r) ps) ≡ None → (lookup (same_resource r) ps ≡ None → has_resource r ps ≡ false) → (b || has_resource r ps) ≡ false
    go true k later = cc
    go false k later = later k

placed_has : (k : ℕ) (r : ResourceId) (rs : Paths) → has_resource r (placed k rs) ≡ has_resource r rs
placed_has k r [] = refl
placed_has k r (q ∷ rs) = ap (λ (b : Bool). eqb r.index q.0.index || b) (placed_has k r rs)

unknown_has : (r : ResourceId) (rs : Paths) → has_resource r (unknown {R = ResourceId} rs) ≡ has_resource r rs
unknown_has r [] = refl
unknown_has r (q ∷ rs) = ap (λ (b : Bool). eqb r.index q.0.index || b) (unknown_has r rs)

-- none before is the same resource
before : (new : Paths) (j : ℕ) (x : ResourceId × List ℕ) → IsDistinct same_resource (keys_of new) → slice_get new j ≡ Some x → has_resource x.0 (take j new) ≡ false
before new j x d h = none_has x.0 (take j new) (fresh_entry same_resource same_resource (λ y z. eqb-sym y.index z.index) new j x d h)

next_taken : {X Y : Type 0} (f : X → Y) (new : List X) (j : ℕ) (x : X) → slice_get new j ≡ Some x → map f (take (j + 1) new) ≡ map f (take j new) ++ f x ∷ []
next_taken f new j x h = ap (λ (n : ℕ). map f (take n new)) (add-one j) ∙ ap (map f) (take-next new j x h) ∙ map-append f (take j new) (x ∷ [])

-- ## Imported

module _ (k : ℕ) (old : Paths) where
  pub placed_none : (new : Paths) → old ≡ old ++ placed k (take 0 new)
  placed_none new = sym (append-nil old)

  pub placed_new : (rs new : Paths) (j : ℕ) (x : ResourceId × List ℕ) → AreNewIn old new → IsDistinct same_resource (keys_of new) → slice_get new j ≡ Some x → rs ≡ old ++ placed k (take j new) → has_resource x.0 rs ≡ false
  placed_new rs new j x h d g e =
      ap (has_resource x.0) e ∙ has-append x.0 old (placed k (take j new)) ∙
      or_neither _ _ (found_holds (λ (r : ResourceId × List ℕ). has_resource r.0 old ≡ false) new j x h g) (placed_has k x.0 (take j new) ∙ before new j x d g)

  pub placed_next : (rs rs' new : Paths) (j : ℕ) (x : ResourceId × List ℕ) → slice_get new j ≡ Some x → rs ≡ old ++ placed k (take j new) → rs' ≡ rs ++ (x.0, k ∷ x.1) ∷ [] → rs' ≡ old ++ placed k (take (j + 1) new)
  placed_next rs rs' new j x g e n =
      n ∙ ap (λ (l : Paths). l ++ (x.0, k ∷ x.1) ∷ []) e ∙ append_assoc old (placed k (take j new)) ((x.0, k ∷ x.1) ∷ []) ∙ ap (λ (l : Paths). old ++ l) (sym (next_taken (λ (r : ResourceId × List ℕ). (r.0, k ∷ r.1)) new j x g))

  pub placed_all : (rs new : Paths) (j : ℕ) → length new ≤ j → rs ≡ old ++ placed k (take j new) → rs ≡ old ++ placed k new
  placed_all rs new j h e = e ∙ ap (λ (l : Paths). old ++ placed k l) (take_all j new h)

-- ## Defined

abbrev pub Defined : Type 0
Defined = List (ResourceId × Option ValType)

module _ (old : Defined) where
  pub unknown_none : (new : Paths) → old ≡ old ++ unknown (take 0 new)
  unknown_none new = sym (append-nil old)

  pub unknown_new : (rs : Defined) (new : Paths) (j : ℕ) (x : ResourceId × List ℕ) → AreNewIn old new → IsDistinct same_resource (keys_of new) → slice_get new j ≡ Some x → rs ≡ old ++ unknown (take j new) → has_resource x.0 rs ≡ false
  unknown_new rs new j x h d g e =
      ap (has_resource x.0) e ∙ has-append x.0 old (unknown (take j new)) ∙
      or_neither _ _ (found_holds (λ (r : ResourceId × List ℕ). has_resource r.0 old ≡ false) new j x h g) (unknown_has x.0 (take j new) ∙ before new j x d g)

  pub unknown_next : (rs rs' : Defined) (new : Paths) (j : ℕ) (x : ResourceId × List ℕ) → slice_get new j ≡ Some x → rs ≡ old ++ unknown (take j new) → rs' ≡ rs ++ (x.0, None) ∷ [] → rs' ≡ old ++ unknown (take (j + 1) new)
  unknown_next rs rs' new j x g e n =
      n ∙ ap (λ (l : Defined). l ++ (x.0, None) ∷ []) e ∙ append_assoc old (unknown (take j new)) ((x.0, None) ∷ []) ∙ ap (λ (l : Defined). old ++ l) (sym (next_taken (λ (r : ResourceId × List ℕ). (r.0, None)) new j x g))

  pub unknown_all : (rs : Defined) (new : Paths) (j : ℕ) → length new ≤ j → rs ≡ old ++ unknown (take j new) → rs ≡ old ++ unknown new
  unknown_all rs new j h e = e ∙ ap (λ (l : Paths). old ++ unknown l) (take_all j new h)
