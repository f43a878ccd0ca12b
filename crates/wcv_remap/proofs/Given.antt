-- A map whose entries were all given.
use Rattle.std.proofs.Common.{◌≡◌, ℕ, zero, suc, ◌<◌, [], ◌∷◌, length, refl, sym, ◌∙◌, ap, subst, arith, get_or, Bool, true, false, cond, ◌&&◌}
use Rattle.std.specs.Prelude.{Option, Some, None, Contains}
use Rattle.std.specs.List.{IsDistinct, AllByRecursion}
use Rattle.std.specs.Map.{keys_of}
use Rattle.std.proofs.lemmas.List.Elements.{Contains-append_right}
use Rattle.std.proofs.lemmas.Map.Keys.{IsDistinct-head, IsDistinct-tail}
use Rattle.wcv_core.proofs.Names.{and_left, and_right, same-true, same-refl}
use Rattle.wcv_core.specs.Names.{same}
use Rattle.wcv_types.specs.Arena.{Arena}
use Rattle.wcv_types.specs.Identity.{Identity, of_node, of_reference, same_identity}
use Rattle.wcv_types.specs.Replacing.{Replacement}
use Rattle.wcv_types.specs.Standing.{identity_of}
use Rattle.wcv_types.specs.Unfold.{Type_tree, tree_at}
use Rattle.wcv_types.specs.declared.ids.Part.{Part}
use Rattle.wcv_types.specs.declared.ids.ResourceId.{ResourceId}
use Rattle.wcv_remap.specs.Map.{Sent, Map, same_part, resources_by}
use Rattle.wcv_remap.specs.Remap.{EntryServed, Serves, Sends, Sound}
use Rattle.wcv_remap.proofs.Maps.{Entries}
use Rattle.wcv_remap.proofs.Parts.{same_part-refl, one_identity, type_identity}

pub identity_true : (i j : Identity) → same_identity i j ≡ true → i ≡ j
identity_true (of_node a) (of_node b) h = ap of_node (same-true a b h)
identity_true (of_reference q a) (of_reference r b) h =
    let x : q ≡ r = same-true q r (and_left (same q r) (same a b) h) in
    let y : a ≡ b = same-true a b (and_right (same q r) (same a b) h) in
    λ j. of_reference (x j) (y j)
identity_true (of_node a) (of_reference r b) h = absurd (let e = h in cc)
identity_true (of_reference q a) (of_node b) h = absurd (let e = h in cc)

pub identity_refl : (i : Identity) → same_identity i i ≡ true
identity_refl (of_node a) = same-refl a
identity_refl (of_reference q a) = both (same q q) (same a a) (same-refl q) (same-refl a)
  where
    both : (a b : Bool) → a ≡ true → b ≡ true → (a && b) ≡ true
    both a b h k = grind arith

-- the tree that is given for an identity
abbrev pub given_tree : Arena → Entries → Identity → Option Type_tree
given_tree a [] i = None
given_tree a (e ∷ es) i = cond (same_identity (identity_of e.0) i) (Some (tree_at a e.1.to)) (given_tree a es i)

abbrev pub as_given : Arena → Map → Replacement
as_given a map = record { resources = resources_by map; nodes = given_tree a map.types; again = λ i. i }

key_at : (P : Part → Type 0) (es : Entries) (q : Part) (s : Sent) (k : ℕ) → AllByRecursion P (keys_of es) → k < length es → get_or es k (q, s) ≡ (q, s) → P q
key_at P [] q s k h l g = absurd (omega (arith, l))
key_at P (e ∷ es) q s zero h l g = subst P (ap (λ (z : Part × Sent). z.0) g) h.0
key_at P (e ∷ es) q s (suc k) h l g = key_at P es q s k h.1 (omega (arith, l)) g

module _ (a : Arena) where
  gives : (es : Entries) (q : Part) (s : Sent) (k : ℕ) → ((r : Part) (t : Sent) → Contains es (r, t) → Sends a r t.to) → IsDistinct same_part (keys_of es) → k < length es → get_or es k (q, s) ≡ (q, s) →
      given_tree a es (identity_of q) ≡ Some (tree_at a s.to)
  gives [] q s k h d l g = absurd (omega (arith, l))
  gives (e ∷ es) q s zero h d l g =
      let b : same_identity (identity_of e.0) (identity_of q) ≡ true = ap (λ (z : Part × Sent). same_identity (identity_of z.0) (identity_of q)) g ∙ identity_refl (identity_of q) in
      ap (λ (c : Bool). cond c (Some (tree_at a e.1.to)) (given_tree a es (identity_of q))) b ∙ ap (λ (z : Part × Sent). Some (tree_at a z.1.to)) g
  gives (e ∷ es) q s (suc k) h d l g =
      let rest : given_tree a es (identity_of q) ≡ Some (tree_at a s.to) =
      gives es q s k (λ r t c. h r t (Contains-append_right (e ∷ []) es (r, t) c)) (IsDistinct-tail same_part e.0 (keys_of es) d) (omega (arith, l)) g in
      let apart : same_part e.0 q ≡ false = key_at (λ r. same_part e.0 r ≡ false) es q s k (IsDistinct-head same_part e.0 (keys_of es) d) (omega (arith, l)) g in
      ap (λ (c : Bool). cond c (Some (tree_at a e.1.to)) (given_tree a es (identity_of q))) (other apart (h e.0 e.1 (0, omega arith, refl)) (h q s (suc k, l, g)) (same_identity (identity_of e.0) (identity_of q)) refl) ∙ rest
    where
      other : same_part e.0 q ≡ false → Sends a e.0 e.1.to → Sends a q s.to → (c : Bool) → same_identity (identity_of e.0) (identity_of q) ≡ c → same_identity (identity_of e.0) (identity_of q) ≡ false
      other n x y false f = f
      other n x y true f =
          let o : e.0 ≡ q = one_identity a e.0 q x.stands y.stands x.inside (type_identity q y.inside) (identity_true (identity_of e.0) (identity_of q) f) in
          let z : true ≡ false = sym (ap (same_part e.0) (sym o) ∙ same_part-refl e.0) ∙ n in
          absurd (let w = z in cc)

  gives_none : (es : Entries) (i : Identity) → ((q : Part) (s : Sent) → Contains es (q, s) → identity_of q ≡ i → ⊥) → given_tree a es i ≡ None
  gives_none [] i n = refl
  gives_none (e ∷ es) i n =
      ap (λ (c : Bool). cond c (Some (tree_at a e.1.to)) (given_tree a es i)) (none (same_identity (identity_of e.0) i) refl) ∙ gives_none es i (λ q s c. n q s (Contains-append_right (e ∷ []) es (q, s) c))
    where
      none : (c : Bool) → same_identity (identity_of e.0) i ≡ c → same_identity (identity_of e.0) i ≡ false
      none false f = f
      none true f = absurd (n e.0 e.1 (0, omega arith, refl) (identity_true (identity_of e.0) i f))

pub sound_given : (a : Arena) (map : Map) → ((q : Part) (s : Sent) → Contains map.types (q, s) → (s.given ≡ true) × Sends a q s.to) → IsDistinct same_part (keys_of map.types) →
    ((r q : ResourceId) → Contains map.resources (r, q) → q.index < a.resources) → Sound a map
sound_given a map h d rs = record {
  some = (as_given a map, serves);
  resources = rs;
  sends = λ q s c. (h q s c).1;
  visited = λ q s c g. absurd (never q s c g);
  apart = λ q r t u v. absurd (never q u.sent u.there u.kept);
}
  where
    never : (q : Part) (s : Sent) → Contains map.types (q, s) → s.given ≡ false → ⊥
    never q s c g = let e : true ≡ false = sym (h q s c).0 ∙ g in cc

    served : (q : Part) (s : Sent) → Contains map.types (q, s) → EntryServed a (as_given a map) q s.given s.to
    served q s c = subst (λ (b : Bool). EntryServed a (as_given a map) q b s.to) (sym (h q s c).0) (gives a map.types q s c.0 (λ r t w. (h r t w).1) d c.1 c.2)

    serves : Serves a map (as_given a map)
    serves = record { resources = λ r. refl; entries = served; others = λ i n. gives_none a map.types i (λ q s c e. n q s c (h q s c).0 e) }
