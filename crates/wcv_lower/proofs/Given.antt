-- Names of one call and names of another are those of both, where neither gives any at the places of the other.
use Rattle.std.proofs.Common.{◌≡◌, [], ◌∷◌, ◌++◌, Bool, true, false, cond, ◌||◌, refl, sym, ◌∙◌, ap, subst, arith, Some, None}
use Rattle.std.specs.Prelude.{Option}
use Rattle.std.proofs.lemmas.Bool.{false≢true}
use Rattle.wcv_core.specs.Names.{Name, Place, number, stamp, base, at, stamped, aside, same}
use Rattle.wcv_core.proofs.Names.{and_left, and_right, same_place-true, same_place-refl, same-true, same-refl}
use Rattle.wcv_lower.specs.Given.{Given, find, or_by_place, named, GivenNames, both_given, Numbers, AtMost, IsNewResource, IsNewIdentity, has_origin, has_name, AreGiven, GivesAt}
use Rattle.wcv_lower.specs.Names.{Origin, introduced, again, stamp_at, place_of, same_origin}

-- ## Origins

pub same_origin-true : (o q : Origin) → same_origin o q ≡ true → o ≡ q
same_origin-true (introduced p) (introduced q) h = ap introduced (same_place-true p q h)
same_origin-true (again p x) (again q y) h =
    let e : p ≡ q = same_place-true p q (and_left _ _ h) in
    let f : x ≡ y = same-true x y (and_right _ _ h) in
    λ j. again (e j) (f j)
same_origin-true (stamp_at p) (stamp_at q) h = ap stamp_at (same_place-true p q h)
same_origin-true _ _ h = cc

pub same_origin-refl : (o : Origin) → same_origin o o ≡ true
same_origin-refl (introduced p) = same_place-refl p
same_origin-refl (again p x) =
    let e = same_place-refl p in
    let f = same-refl x in
    cc
same_origin-refl (stamp_at p) = same_place-refl p

-- ## Booleans

pub or_left : (a b : Bool) → a ≡ true → (a || b) ≡ true
or_left true b h = refl
or_left false b h = absurd (false≢true h)

pub or_right : (a b : Bool) → b ≡ true → (a || b) ≡ true
or_right true b h = refl
or_right false b h = h

or_none : (a b : Bool) → a ≡ false → b ≡ false → (a || b) ≡ false
or_none true b h k = h
or_none false b h k = k

or_assoc : (a b c : Bool) → (a || (b || c)) ≡ ((a || b) || c)
or_assoc true b c = refl
or_assoc false b c = refl

-- it is not so, or it is
pub not_so : (b : Bool) → (b ≡ true → ⊥) → b ≡ false
not_so true h = absurd (h refl)
not_so false h = refl

-- ## What is given

module _ (New New' : Name → Type 0) (In In' : Place → Type 0) (n : (x : Name) → New x → New' x) (i : (p : Place) → In p → In' p) where
  pub given_weaker : (gs : Given) → AreGiven New In gs → AreGiven New' In' gs
  given_weaker [] h = tt
  given_weaker (g ∷ gs) h = (n g.1 h.0, i (place_of g.0) h.1, h.2, h.3, h.4, given_weaker gs h.5)

module _ (New : Name → Type 0) (In : Place → Type 0) where
  origin_in : (gs : Given) (o : Origin) → AreGiven New In gs → has_origin o gs ≡ true → In (place_of o)
  origin_in [] o a h = absurd (false≢true h)
  origin_in (g ∷ gs) o a h = go (same_origin o g.0) refl h (λ k. origin_in gs o a.5 k)
    where
      go : (b : Bool) → same_origin o g.0 ≡ b → (b || has_origin o gs) ≡ true → (has_origin o gs ≡ true → In (place_of o)) → In (place_of o)
      go true e k later = subst (λ (z : Origin). In (place_of z)) (sym (same_origin-true o g.0 e)) a.1
      go false e k later = later k

  pub name_new : (gs : Given) (x : Name) → AreGiven New In gs → has_name x gs ≡ true → New x
  name_new [] x a h = absurd (false≢true h)
  name_new (g ∷ gs) x a h = go (same x g.1) refl h (λ k. name_new gs x a.5 k)
    where
      go : (b : Bool) → same x g.1 ≡ b → (b || has_name x gs) ≡ true → (has_name x gs ≡ true → New x) → New x
      go true e k later = subst New (sym (same-true x g.1 e)) a.0
      go false e k later = later k

  -- an origin elsewhere is given none
  pub no_origin : (gs : Given) (o : Origin) → AreGiven New In gs → (In (place_of o) → ⊥) → has_origin o gs ≡ false
  no_origin gs o a h = not_so (has_origin o gs) (λ k. h (origin_in gs o a k))

  has_origin-append : (o : Origin) (gs hs : Given) → has_origin o (gs ++ hs) ≡ (has_origin o gs || has_origin o hs)
  has_origin-append o [] hs = refl
  has_origin-append o (g ∷ gs) hs = ap (λ (b : Bool). same_origin o g.0 || b) (has_origin-append o gs hs) ∙ or_assoc (same_origin o g.0) (has_origin o gs) (has_origin o hs)

  has_name-append : (x : Name) (gs hs : Given) → has_name x (gs ++ hs) ≡ (has_name x gs || has_name x hs)
  has_name-append x [] hs = refl
  has_name-append x (g ∷ gs) hs = ap (λ (b : Bool). same x g.1 || b) (has_name-append x gs hs) ∙ or_assoc (same x g.1) (has_name x gs) (has_name x hs)

  given_both : (gs hs : Given) → AreGiven New In gs → AreGiven New In hs → ((o : Origin) → has_origin o gs ≡ true → has_origin o hs ≡ false) → ((x : Name) → has_name x gs ≡ true → has_name x hs ≡ false) → AreGiven New In (gs ++ hs)
  given_both [] hs a b o n = b
  given_both (g ∷ gs) hs a b o n = (
    a.0,
    a.1,
    a.2,
    has_origin-append g.0 gs hs ∙ or_none (has_origin g.0 gs) (has_origin g.0 hs) a.3 (o g.0 (or_left (same_origin g.0 g.0) (has_origin g.0 gs) (same_origin-refl g.0))),
    has_name-append g.1 gs hs ∙ or_none (has_name g.1 gs) (has_name g.1 hs) a.4 (n g.1 (or_left (same g.1 g.1) (has_name g.1 gs) (same-refl g.1))),
    given_both gs hs a.5 b (λ q h. o q (or_right (same_origin q g.0) (has_origin q gs) h)) (λ x h. n x (or_right (same x g.1) (has_name x gs) h)),
  )

-- ## Two calls

module _ (A B C : Place → Type 0) (a m b : Numbers) (l : AtMost a m) (l' : AtMost m b) (apart : (p : Place) → A p → B p → ⊥) (i : (p : Place) → A p → C p) (k : (p : Place) → B p → C p) where
  resource_first : (x : Name) → IsNewResource a m x → IsNewResource a b x
  resource_first (number n) h = (h.0, let x = l'.resources in omega (arith, x, h.1))
  resource_first (stamp n) h = absurd h
  resource_first (base p) h = absurd h
  resource_first (at p x) h = absurd h
  resource_first (stamped p) h = absurd h
  resource_first (aside x) h = absurd h

  resource_second : (x : Name) → IsNewResource m b x → IsNewResource a b x
  resource_second (number n) h = (let x = l.resources in omega (arith, x, h.0), h.1)
  resource_second (stamp n) h = absurd h
  resource_second (base p) h = absurd h
  resource_second (at p x) h = absurd h
  resource_second (stamped p) h = absurd h
  resource_second (aside x) h = absurd h

  resource_apart : (x : Name) → IsNewResource a m x → IsNewResource m b x → ⊥
  resource_apart (number n) h g = omega (arith, h.1, g.0)
  resource_apart (stamp n) h g = h
  resource_apart (base p) h g = h
  resource_apart (at p x) h g = h
  resource_apart (stamped p) h g = h
  resource_apart (aside x) h g = h

  identity_first : (x : Name) → IsNewIdentity a m x → IsNewIdentity a b x
  identity_first (number n) h = (h.0, let x = l'.nodes in omega (arith, x, h.1))
  identity_first (stamp n) h = (h.0, let x = l'.stamps in omega (arith, x, h.1))
  identity_first (base p) h = absurd h
  identity_first (at p x) h = absurd h
  identity_first (stamped p) h = absurd h
  identity_first (aside x) h = absurd h

  identity_second : (x : Name) → IsNewIdentity m b x → IsNewIdentity a b x
  identity_second (number n) h = (let x = l.nodes in omega (arith, x, h.0), h.1)
  identity_second (stamp n) h = (let x = l.stamps in omega (arith, x, h.0), h.1)
  identity_second (base p) h = absurd h
  identity_second (at p x) h = absurd h
  identity_second (stamped p) h = absurd h
  identity_second (aside x) h = absurd h

  identity_apart : (x : Name) → IsNewIdentity a m x → IsNewIdentity m b x → ⊥
  identity_apart (number n) h g = omega (arith, h.1, g.0)
  identity_apart (stamp n) h g = omega (arith, h.1, g.0)
  identity_apart (base p) h g = h
  identity_apart (at p x) h g = h
  identity_apart (stamped p) h g = h
  identity_apart (aside x) h g = h

  one_kind : (New Newer Both : Name → Type 0) → ((x : Name) → New x → Both x) → ((x : Name) → Newer x → Both x) → ((x : Name) → New x → Newer x → ⊥) →
      (gs hs : Given) → AreGiven New A gs → AreGiven Newer B hs → AreGiven Both C (gs ++ hs)
  one_kind New Newer Both f s d gs hs x y =
      given_both Both C gs hs (given_weaker New Both A C f i gs x) (given_weaker Newer Both B C s k hs y)
      (λ o h. no_origin Newer B hs o y (λ q. apart (place_of o) (origin_in New A gs o x h) q))
      (λ n h. not_so (has_name n hs) (λ q. d n (name_new New A gs n x h) (name_new Newer B hs n y q)))

  pub gives_both : (n n' : GivenNames) → GivesAt A a m n → GivesAt B m b n' → GivesAt C a b (both_given n n')
  gives_both n n' x y = record {
    resources = one_kind (IsNewResource a m) (IsNewResource m b) (IsNewResource a b) resource_first resource_second resource_apart n.resources n'.resources x.resources y.resources;
    identities = one_kind (IsNewIdentity a m) (IsNewIdentity m b) (IsNewIdentity a b) identity_first identity_second identity_apart n.identities n'.identities x.identities y.identities;
  }

-- at other places, at least these
pub gives_wider : (In In' : Place → Type 0) (a b : Numbers) (n : GivenNames) → ((p : Place) → In p → In' p) → GivesAt In a b n → GivesAt In' a b n
gives_wider In In' a b n h g = record {
  resources = given_weaker (IsNewResource a b) (IsNewResource a b) In In' (λ x k. k) h n.resources g.resources;
  identities = given_weaker (IsNewIdentity a b) (IsNewIdentity a b) In In' (λ x k. k) h n.identities g.identities;
}

-- ## Names of origins

pub find_none : (gs : Given) (o : Origin) → has_origin o gs ≡ false → find gs o ≡ None
find_none [] o h = refl
find_none (g ∷ gs) o h = go (same_origin o g.0) refl h (λ k. find_none gs o k)
  where
    go : (b : Bool) → same_origin o g.0 ≡ b → (b || has_origin o gs) ≡ false → (has_origin o gs ≡ false → find gs o ≡ None) → cond (same_origin o g.0) (Some g.1) (find gs o) ≡ None
    go true e k later = absurd (false≢true (sym k))
    go false e k later = ap (λ (b : Bool). cond b (Some g.1) (find gs o)) e ∙ later k

-- where the second call gives none, it is that of the first
pub named_first : (gs hs : Given) (o : Origin) → has_origin o hs ≡ false → named (gs ++ hs) o ≡ named gs o
named_first gs hs o h = ap (or_by_place o) (found gs)
  where
    found : (gs : Given) → find (gs ++ hs) o ≡ find gs o
    found [] = find_none hs o h
    found (g ∷ gs) = ap (λ (x : Option Name). cond (same_origin o g.0) (Some g.1) x) (found gs)

pub named_second : (gs hs : Given) (o : Origin) → has_origin o gs ≡ false → named (gs ++ hs) o ≡ named hs o
named_second [] hs o h = refl
named_second (g ∷ gs) hs o h = go (same_origin o g.0) refl h (λ k. named_second gs hs o k)
  where
    go : (b : Bool) → same_origin o g.0 ≡ b → (b || has_origin o gs) ≡ false → (has_origin o gs ≡ false → named (gs ++ hs) o ≡ named hs o) → or_by_place o (cond (same_origin o g.0) (Some g.1) (find (gs ++ hs) o)) ≡ named hs o
    go true e k later = absurd (false≢true (sym k))
    go false e k later = ap (λ (b : Bool). or_by_place o (cond b (Some g.1) (find (gs ++ hs) o))) e ∙ later k
