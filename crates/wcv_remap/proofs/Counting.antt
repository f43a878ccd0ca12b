-- How many nodes a rebuilding reads.
use Rattle.std.proofs.Common.{◌≡◌, ℕ, zero, suc, ◌+◌, ◌<◌, ◌≤◌, List, [], ◌∷◌, ◌++◌, length, length-append, refl, sym, ◌∙◌, ap, subst, arith, get_or, Bool, true, false, ◌||◌}
use Rattle.std.specs.Prelude.{Contains}
use Rattle.std.specs.Cmp.{IsEquivalence}
use Rattle.std.specs.List.{IsDistinct}
use Rattle.std.specs.Map.{keys_of}
use Rattle.std.specs.Set.{is_member}
use Rattle.std.proofs.lemmas.List.{map-append}
use Rattle.std.proofs.lemmas.List.Elements.{Contains-append_right}
use Rattle.std.proofs.lemmas.Map.Keys.{IsDistinct-tail}
use Rattle.std.proofs.lemmas.Map.Made.{length-le_from_is_member}
use Rattle.wcv_types.proofs.Each.{length-mapped}
use Rattle.wcv_types.specs.Arena.{Arena}
use Rattle.wcv_types.specs.Entities.{entity_slot}
use Rattle.wcv_types.specs.Unfold.{slot_refs}
use Rattle.wcv_types.specs.declared.ids.Part.{Part}
use Rattle.wcv_types.specs.declared.shapes.ComponentEntityType.{ComponentEntityType}
use Rattle.wcv_remap.specs.Entities.{EntityRemapped, top_rank}
use Rattle.wcv_remap.specs.Map.{Sent, Map, same_part}
use Rattle.wcv_remap.specs.Remap.{ReachedFrom, Visits}
use Rattle.wcv_remap.proofs.Maps.{Entries}
use Rattle.wcv_remap.proofs.Parts.{same_part-true, same_part-refl}

same_turned : (q r : Part) → same_part q r ≡ same_part r q
same_turned q r = go (same_part q r) refl (same_part r q) refl
  where
    go : (b : Bool) → same_part q r ≡ b → (c : Bool) → same_part r q ≡ c → same_part q r ≡ same_part r q
    go true e true f = e ∙ sym f
    go false e false f = e ∙ sym f
    go true e false f = ap (λ (x : Part). same_part x r) (same_part-true q r e) ∙ ap (same_part r) (sym (same_part-true q r e))
    go false e true f = ap (λ (x : Part). same_part q x) (same_part-true r q f) ∙ ap (λ (x : Part). same_part x q) (sym (same_part-true r q f))

one_id : IsEquivalence same_part
one_id = record { refl = same_part-refl; symm = same_turned; congr = λ q r s e. ap (λ (x : Part). same_part x s) (same_part-true q r e) }

member_of : (xs : List Part) (q : Part) (k : ℕ) → k < length xs → get_or xs k q ≡ q → is_member same_part xs q ≡ true
member_of [] q k l e = absurd (omega (arith, l))
member_of (x ∷ xs) q zero l e = ap (λ (b : Bool). b || is_member same_part xs q) (ap (same_part q) e ∙ same_part-refl q)
member_of (x ∷ xs) q (suc k) l e = right_true (same_part q x) (is_member same_part xs q) (member_of xs q k (omega (arith, l)) e)
  where
    right_true : (a b : Bool) → b ≡ true → (a || b) ≡ true
    right_true a b h = grind arith

-- the entry of a key
key_of : (es : Entries) (q : Part) → is_member same_part (keys_of es) q ≡ true → (s : Sent) × Contains es (q, s)
key_of [] q h = absurd (let e = h in cc)
key_of (e ∷ es) q h = go (same_part q e.0) refl h (key_of es q)
  where
    go : (b : Bool) → same_part q e.0 ≡ b → (b || is_member same_part (keys_of es) q) ≡ true → (is_member same_part (keys_of es) q ≡ true → (s : Sent) × Contains es (q, s)) → (s : Sent) × Contains (e ∷ es) (q, s)
    go true f g rest = let x : e.0 ≡ q = sym (same_part-true q e.0 f) in (e.1, (0, omega arith, λ j. (x j, e.1)))
    go false f g rest = let w = rest g in (w.0, Contains-append_right (e ∷ []) es (q, w.0) w.1)

distinct_right : (xs ys : List Part) → IsDistinct same_part (xs ++ ys) → IsDistinct same_part ys
distinct_right [] ys d = d
distinct_right (x ∷ xs) ys d = distinct_right xs ys (IsDistinct-tail same_part x (xs ++ ys) d)

visits_at_most : {P : Part → Type 0} (o b : ℕ) (map map' : Map) (reached : List Part) (x : Visits P o b map map') → IsDistinct same_part (keys_of map'.types) → ((q : Part) → P q → Contains reached q) → length x.more ≤ length reached
visits_at_most o b map map' reached x d f =
    let all : keys_of map'.types ≡ keys_of map.types ++ keys_of x.more = ap (λ (es : Entries). keys_of es) x.types ∙ map-append (λ (e : Part × Sent). e.0) map.types x.more in
    let more : IsDistinct same_part (keys_of x.more) = distinct_right (keys_of map.types) (keys_of x.more) (subst (λ (ks : List Part). IsDistinct same_part ks) all d) in
    let le : length (keys_of x.more) ≤ length reached =
    length-le_from_is_member one_id (keys_of x.more) reached more (λ q h. let w = key_of x.more q h in let c : Contains reached q = f q (x.visited q w.0 w.1).reached in member_of reached q c.0 c.1 c.2) in
    omega (arith, le, length-mapped (λ (e : Part × Sent). e.0) x.more)

pub reads_reached : (a b : Arena) (map map' : Map) (s s' : ℕ) (x y : ComponentEntityType) (reached : List Part) → EntityRemapped a b map map' s s' x y → IsDistinct same_part (keys_of map'.types) →
    ((q : Part) → ReachedFrom b (slot_refs (entity_slot x)) q → Contains reached q) → (s' ≤ s + length reached) × (length b.nodes ≤ length a.nodes + length reached)
reads_reached a b map map' s s' x y reached r d f =
    let le : length r.visits.more ≤ length reached = visits_at_most (length a.nodes) (suc (top_rank (slot_refs (entity_slot x)))) map map' reached r.visits d f in
    let l : length map'.types ≡ length map.types + length r.visits.more = ap (λ (es : Entries). length es) r.visits.types ∙ length-append map.types r.visits.more in
    (omega (arith, le, l, r.steps), omega (arith, le, l, r.nodes))
