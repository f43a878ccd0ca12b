-- A grammar whose values have each number in range is JSON's grammar with the other values left out.
use Rattle.std.proofs.Common.{◌≡◌, ℕ, zero, suc, ◌-◌, ◌<◌, List, [], ◌∷◌, length, Bool, true, false, ◌&&◌, if◌then◌else◌, Option, Some, None, IfSome, option_and_then, refl, sym, ap, ◌∙◌, subst}
use Rattle.json.specs.Token.{Token}
use Rattle.json.specs.Json.{Json, array, object, Items, item, Members, member, Parse, parse_map, after_end_array, read_key, items_step, members_step, items, members, value}
use Rattle.json.proofs.Grammar.{value_is, value-begin_array, value-begin_object}
use Rattle.wcv_listing.specs.Parsed.{in_range, items_in_range, members_in_range, value_in_range}

-- what was read, where it passes the test
abbrev pub kept : {A : Type 0} → (A → Bool) → Option (A × List Token) → Option (A × List Token)
kept test r = option_and_then (λ p. if test p.0 then Some p else None) r

kept_test : {A B : Type 0} → (f : A → B) (inner : A → Bool) (first whole : Bool) (p : A × List Token) → whole ≡ (first && inner p.0)
    → (if whole then Some (f p.0, p.1) else None) ≡ (if first then parse_map f (if inner p.0 then Some p else None) else None)
kept_test f inner true whole p e = rw e (passed (inner p.0))
  where
    passed : (b : Bool) → (if b then Some (f p.0, p.1) else None) ≡ parse_map f (if b then Some p else None)
    passed true = refl
    passed false = refl
kept_test f inner false whole p e = rw e refl

-- the test of a whole is that of its first part and that of the rest
kept_map : {A B : Type 0} → (f : A → B) (test : B → Bool) (inner : A → Bool) (first : Bool) → ((a : A) → test (f a) ≡ (first && inner a)) → (r : Option (A × List Token))
    → kept test (parse_map f r) ≡ (if first then parse_map f (kept inner r) else None)
kept_map f test inner true e None = refl
kept_map f test inner false e None = refl
kept_map f test inner first e (Some p) = kept_test f inner first (test (f p.0)) p (e p.0)

then_if : {A B : Type 0} → (b : Bool) (f : A → Option B) (a : A) → option_and_then f (if b then Some a else None) ≡ (if b then f a else None)
then_if true f a = refl
then_if false f a = refl

module _ (p : Parse Json) where
  abbrev p_kept : Parse Json
  p_kept ts = kept in_range (p ts)

  kept_item : (more more' : Parse Items) → ((ts : List Token) → kept items_in_range (more ts) ≡ more' ts) → (r : Option (Json × List Token))
      → kept items_in_range (option_and_then (λ q. parse_map (item q.0) (more q.1)) r) ≡ option_and_then (λ q. parse_map (item q.0) (more' q.1)) (kept in_range r)
  kept_item more more' e None = refl
  kept_item more more' e (Some q) =
      kept_map (item q.0) items_in_range items_in_range (in_range q.0) (λ js. refl) (more q.1)
      ∙ ap (λ (r : Option (Items × List Token)). if in_range q.0 then parse_map (item q.0) r else None) (e q.1)
      ∙ sym (then_if (in_range q.0) (λ (x : Json × List Token). parse_map (item x.0) (more' x.1)) q)

  kept_items_step : (more more' : Parse Items) → ((ts : List Token) → kept items_in_range (more ts) ≡ more' ts) → (ts : List Token) (o : Option (List Token))
      → kept items_in_range (items_step p more ts o) ≡ items_step p_kept more' ts o
  kept_items_step more more' e ts (Some rest) = refl
  kept_items_step more more' e ts None = kept_item more more' e (p ts)

  kept_items : (n : ℕ) (ts : List Token) → kept items_in_range (items p n ts) ≡ items p_kept n ts
  unfolding items
  kept_items zero ts = refl
  kept_items (suc n) ts = kept_items_step (items p n) (items p_kept n) (kept_items n) ts (after_end_array ts)

  kept_member : (k : List ℕ) (more more' : Parse Members) → ((ts : List Token) → kept members_in_range (more ts) ≡ more' ts) → (r : Option (Json × List Token))
      → kept members_in_range (option_and_then (λ q. parse_map (member k q.0) (more q.1)) r) ≡ option_and_then (λ q. parse_map (member k q.0) (more' q.1)) (kept in_range r)
  kept_member k more more' e None = refl
  kept_member k more more' e (Some q) =
      kept_map (member k q.0) members_in_range members_in_range (in_range q.0) (λ ms. refl) (more q.1)
      ∙ ap (λ (r : Option (Members × List Token)). if in_range q.0 then parse_map (member k q.0) r else None) (e q.1)
      ∙ sym (then_if (in_range q.0) (λ (x : Json × List Token). parse_map (member k x.0) (more' x.1)) q)

  kept_members_step : (more more' : Parse Members) → ((ts : List Token) → kept members_in_range (more ts) ≡ more' ts) → (key : Option (Option (List ℕ) × List Token))
      → kept members_in_range (option_and_then (λ q. members_step p more q.0 q.1) key) ≡ option_and_then (λ q. members_step p_kept more' q.0 q.1) key
  kept_members_step more more' e None = refl
  kept_members_step more more' e (Some (None, rest)) = refl
  kept_members_step more more' e (Some (Some k, rest)) = kept_member k more more' e (p rest)

  kept_members : (n : ℕ) (ts : List Token) → kept members_in_range (members p n ts) ≡ members p_kept n ts
  unfolding members
  kept_members zero ts = refl
  kept_members (suc n) ts = kept_members_step (members p n) (members p_kept n) (kept_members n) (read_key ts)

kept_is : {A : Type 0} → (test : A → Bool) (r : Option (A × List Token)) (p : A × List Token) → kept test r ≡ Some p → (r ≡ Some p) × (test p.0 ≡ true)
kept_is test None p e = absurd (cc)
kept_is {A} test (Some q) p e = passes (test q.0) refl e
  where
    passes : (b : Bool) → test q.0 ≡ b → (if b then Some q else None) ≡ Some p → (Some q ≡ Some p) × (test p.0 ≡ true)
    passes true is e = (e, subst (λ (x : Option (A × List Token)). IfSome x (λ y. test y.0 ≡ true)) e is)
    passes false is e = absurd (cc)

-- a value that is in range
pub value_is_in_range : (depth : ℕ) (ts rest : List Token) (j : Json) → value_in_range depth ts ≡ Some (j, rest) → (value depth ts ≡ Some (j, rest)) × (in_range j ≡ true)
value_is_in_range depth ts rest j e = kept_is in_range (value depth ts) (j, rest) e

pub nothing_read : (depth : ℕ) → value_in_range depth [] ≡ None
nothing_read depth = ap (kept in_range) (value_is depth [])

pub array_read : (depth : ℕ) (ts : List Token) → 0 < depth → value_in_range depth (Token.begin_array ∷ ts) ≡ parse_map array (items (value_in_range (depth - 1)) (length ts) ts)
array_read depth ts h =
    ap (kept in_range) (value-begin_array depth ts h) ∙ kept_map array in_range items_in_range true (λ js. refl) (items (value (depth - 1)) (length ts) ts)
    ∙ ap (parse_map array) (kept_items (value (depth - 1)) (length ts) ts)

pub object_read : (depth : ℕ) (ts : List Token) → 0 < depth → value_in_range depth (Token.begin_object ∷ ts) ≡ parse_map object (members (value_in_range (depth - 1)) (length ts) ts)
object_read depth ts h =
    ap (kept in_range) (value-begin_object depth ts h) ∙ kept_map object in_range members_in_range true (λ ms. refl) (members (value (depth - 1)) (length ts) ts)
    ∙ ap (parse_map object) (kept_members (value (depth - 1)) (length ts) ts)
