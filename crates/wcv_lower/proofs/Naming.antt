-- Names that are given stand for those by place: one renaming with a way back sends each to the name of its origin.
use Rattle.std.proofs.Common.{◌≡◌, ℕ, zero, suc, ◌<◌, [], ◌∷◌, Bool, true, false, cond, ◌||◌, refl, sym, ◌∙◌, ap, subst, arith, Some, None}
use Rattle.std.specs.Prelude.{Option}
use Rattle.std.proofs.lemmas.Bool.{false≢true}
use Rattle.wcv_core.specs.Names.{Name, Place, number, stamp, base, at, stamped, aside, same}
use Rattle.wcv_core.proofs.Names.{same-true, same-refl}
use Rattle.wcv_lower.specs.Given.{Given, find, or_by_place, named, GivenNames, names_of, Numbers, IsNewResource, IsNewIdentity, age, IsYounger, has_origin, has_name, AreGiven, GivesAt}
use Rattle.wcv_lower.specs.Names.{Origin, introduced, again, stamp_at, same_origin, by_place, names_by_place, rename_origin, AreRenamed}
use Rattle.wcv_lower.specs.Renamed.{Injection, Renaming}
use Rattle.wcv_lower.proofs.Given.{same_origin-true, same_origin-refl}

-- a name that an arena gives
abbrev pub IsCode : Name → Type 0
IsCode (number k) = Unit {0}
IsCode (stamp k) = Unit {0}
IsCode (base p) = ⊥
IsCode (at p x) = ⊥
IsCode (stamped p) = ⊥
IsCode (aside x) = ⊥

-- the origin that a name by place tells
abbrev origin_of : Name → Option Origin
origin_of (number k) = None
origin_of (stamp k) = None
origin_of (base p) = Some (introduced p)
origin_of (at p x) = Some (again p x)
origin_of (stamped p) = Some (stamp_at p)
origin_of (aside x) = None

origin_of-by_place : (o : Origin) → origin_of (by_place o) ≡ Some o
origin_of-by_place (introduced p) = refl
origin_of-by_place (again p x) = refl
origin_of-by_place (stamp_at p) = refl

by_origin : (x : Name) (o : Origin) → origin_of x ≡ Some o → x ≡ by_place o
by_origin (number k) o h = cc
by_origin (stamp k) o h = cc
by_origin (base p) (introduced q) h = cc
by_origin (base p) (again q x) h = cc
by_origin (base p) (stamp_at q) h = cc
by_origin (at p x) (introduced q) h = cc
by_origin (at p x) (again q y) h = cc
by_origin (at p x) (stamp_at q) h = cc
by_origin (stamped p) (introduced q) h = cc
by_origin (stamped p) (again q x) h = cc
by_origin (stamped p) (stamp_at q) h = cc
by_origin (aside x) o h = cc

not_code : (o : Origin) → IsCode (by_place o) → ⊥
not_code (introduced p) h = h
not_code (again p x) h = h
not_code (stamp_at p) h = h

made_younger : (o : Origin) → IsYounger o (by_place o)
made_younger (introduced p) = tt
made_younger (again p x) = omega arith
made_younger (stamp_at p) = tt

-- a name that no origin has
abbrev set_aside : Name → Name
set_aside (number k) = number k
set_aside (stamp k) = stamp k
set_aside (base p) = aside (base p)
set_aside (at p x) = aside (at p x)
set_aside (stamped p) = aside (stamped p)
set_aside (aside x) = aside (aside x)

not_both : (b : Bool) → b ≡ true → b ≡ false → ⊥
not_both b h k = false≢true (sym k ∙ h)

module _ (New : Name → Type 0) (In : Place → Type 0) (code : (x : Name) → New x → IsCode x) where
  -- ## Which origin has a name

  abbrev given_read : Given → Name → Option Origin
  given_read [] x = None
  given_read (g ∷ gs) x = cond (same x g.1) (Some g.0) (given_read gs x)

  -- what is given is read, and what is read is given
  given_is_read : (gs : Given) → AreGiven New In gs → (o : Origin) (x : Name) → find gs o ≡ Some x → (given_read gs x ≡ Some o) × New x × IsYounger o x × (has_name x gs ≡ true)
  given_is_read [] a o x h = cc
  given_is_read (g ∷ gs) a o x h = go (same_origin o g.0) refl h (λ k. given_is_read gs a.5 o x k)
    where
      Result : Type 0
      Result = (cond (same x g.1) (Some g.0) (given_read gs x) ≡ Some o) × New x × IsYounger o x × ((same x g.1 || has_name x gs) ≡ true)

      go : (b : Bool) → same_origin o g.0 ≡ b → cond b (Some g.1) (find gs o) ≡ Some x → (find gs o ≡ Some x → (given_read gs x ≡ Some o) × New x × IsYounger o x × (has_name x gs ≡ true)) →
          (cond (same x g.1) (Some g.0) (given_read gs x) ≡ Some o) × New x × IsYounger o x × ((same x g.1 || has_name x gs) ≡ true)
      go true e k later =
          let ex : g.1 ≡ x = cc in
          let eo : o ≡ g.0 = same_origin-true o g.0 e in
          let s : same x g.1 ≡ true = ap (λ (z : Name). same z g.1) (sym ex) ∙ same-refl g.1 in (
            ap (λ (b : Bool). cond b (Some g.0) (given_read gs x)) s ∙ ap Some (sym eo),
            subst New ex a.0,
            subst (λ (z : Origin). IsYounger z x) (sym eo) (subst (IsYounger g.0) ex a.2),
            ap (λ (b : Bool). b || has_name x gs) s,
          )
      go false e k later =
          let w = later k in
          let d : same x g.1 ≡ false = other (same x g.1) refl w.3 in (
            ap (λ (b : Bool). cond b (Some g.0) (given_read gs x)) d ∙ w.0,
            w.1,
            w.2,
            ap (λ (b : Bool). b || has_name x gs) d ∙ w.3,
          )
        where
          other : (b : Bool) → same x g.1 ≡ b → has_name x gs ≡ true → b ≡ false
          other false q m = refl
          other true q m = absurd (not_both (has_name g.1 gs) (ap (λ (z : Name). has_name z gs) (sym (same-true x g.1 q)) ∙ m) a.4)

  read_is_given : (gs : Given) → AreGiven New In gs → (x : Name) (o : Origin) → given_read gs x ≡ Some o → (find gs o ≡ Some x) × (has_origin o gs ≡ true)
  read_is_given [] a x o h = cc
  read_is_given (g ∷ gs) a x o h = go (same x g.1) refl h (λ k. read_is_given gs a.5 x o k)
    where
      go : (b : Bool) → same x g.1 ≡ b → cond b (Some g.0) (given_read gs x) ≡ Some o → (given_read gs x ≡ Some o → (find gs o ≡ Some x) × (has_origin o gs ≡ true)) →
          (cond (same_origin o g.0) (Some g.1) (find gs o) ≡ Some x) × ((same_origin o g.0 || has_origin o gs) ≡ true)
      go true e k later =
          let eo : g.0 ≡ o = cc in
          let ex : x ≡ g.1 = same-true x g.1 e in
          let s : same_origin o g.0 ≡ true = ap (λ (z : Origin). same_origin z g.0) (sym eo) ∙ same_origin-refl g.0 in
          (ap (λ (b : Bool). cond b (Some g.1) (find gs o)) s ∙ ap Some (sym ex), ap (λ (b : Bool). b || has_origin o gs) s)
      go false e k later =
          let w = later k in
          let d : same_origin o g.0 ≡ false = other (same_origin o g.0) refl w.1 in
          (ap (λ (b : Bool). cond b (Some g.1) (find gs o)) d ∙ w.0, ap (λ (b : Bool). b || has_origin o gs) d ∙ w.1)
        where
          other : (b : Bool) → same_origin o g.0 ≡ b → has_origin o gs ≡ true → b ≡ false
          other false q m = refl
          other true q m = absurd (not_both (has_origin g.0 gs) (ap (λ (z : Origin). has_origin z gs) (sym (same_origin-true o g.0 q)) ∙ m) a.3)

  module _ (gs : Given) (a : AreGiven New In gs) where
    -- where no name is given, it is the one by place
    abbrev if_free : Option Name → Origin → Option Origin
    if_free None o = Some o
    if_free (Some x) o = None

    abbrev read_place : Option Origin → Option Origin
    read_place None = None
    read_place (Some o) = if_free (find gs o) o

    abbrev or_read : Option Origin → Name → Option Origin
    or_read (Some o) x = Some o
    or_read None x = read_place (origin_of x)

    -- the origin that has the name
    abbrev read : Name → Option Origin
    read x = or_read (given_read gs x) x

    given_code : (x : Name) (o : Origin) → given_read gs x ≡ Some o → IsCode x
    given_code x o h = code x (given_is_read gs a o x (read_is_given gs a x o h).0).1

    not_given : (o : Origin) → given_read gs (by_place o) ≡ None
    not_given o = go (given_read gs (by_place o)) refl
      where
        go : (r : Option Origin) → given_read gs (by_place o) ≡ r → r ≡ None
        go None e = refl
        go (Some q) e = absurd (not_code o (given_code (by_place o) q e))

    -- each origin is read from its name
    pub reads : (o : Origin) → read (named gs o) ≡ Some o
    reads o = go (find gs o) refl
      where
        go : (x : Option Name) → find gs o ≡ x → read (or_by_place o x) ≡ Some o
        go (Some x) e = ap (λ (r : Option Origin). or_read r x) (given_is_read gs a o x e).0
        go None e =
            ap (λ (r : Option Origin). or_read r (by_place o)) (not_given o) ∙ ap read_place (origin_of-by_place o) ∙ ap (λ (x : Option Name). if_free x o) e

    -- and is what has that name
    pub is_read : (x : Name) (o : Origin) → read x ≡ Some o → x ≡ named gs o
    is_read x o h = go (given_read gs x) refl h
      where
        by_free : (q : Origin) (y : Option Name) → find gs q ≡ y → origin_of x ≡ Some q → if_free y q ≡ Some o → x ≡ named gs o
        by_free q None e p k =
            let s : q ≡ o = cc in
            by_origin x q p ∙ ap by_place s ∙ sym (ap (or_by_place o) (ap (find gs) (sym s) ∙ e))
        by_free q (Some y) e p k = cc

        by_place_read : (r : Option Origin) → origin_of x ≡ r → read_place r ≡ Some o → x ≡ named gs o
        by_place_read None p k = cc
        by_place_read (Some q) p k = by_free q (find gs q) refl p k

        go : (r : Option Origin) → given_read gs x ≡ r → or_read r x ≡ Some o → x ≡ named gs o
        go (Some q) e k =
            let s : q ≡ o = cc in
            let w = read_is_given gs a x q e in
            sym (ap (or_by_place o) (ap (find gs) (sym s) ∙ w.0))
        go None e k = by_place_read (origin_of x) refl k

    pub younger : (o : Origin) → IsYounger o (named gs o)
    younger o = go (find gs o) refl
      where
        go : (x : Option Name) → find gs o ≡ x → IsYounger o (or_by_place o x)
        go (Some x) e = (given_is_read gs a o x e).2
        go None e = made_younger o

    read_older : (x : Name) (p : Place) (y : Name) → read x ≡ Some (again p y) → age y < age x
    read_older x p y h = subst (λ (z : Name). age y < age z) (sym (is_read x (again p y) h)) (younger (again p y))

    -- ## The renaming

    abbrev by_read : (Name → Name) → Name → Option Origin → Name
    by_read t x None = set_aside x
    by_read t x (Some o) = by_place (rename_origin t o)

    -- the older names that stand in a name are renamed too, and are fewer than its age
    abbrev to_within : ℕ → Name → Name
    to_within zero x = x
    to_within (suc n) x = by_read (to_within n) x (read x)

    abbrev pub to : Name → Name
    to x = to_within (suc (age x)) x

    abbrev pub back : Name → Name
    back (number k) = number k
    back (stamp k) = stamp k
    back (base p) = named gs (introduced p)
    back (at p x) = named gs (again p (back x))
    back (stamped p) = named gs (stamp_at p)
    back (aside x) = x

    within : (n m : ℕ) (x : Name) → age x < n → age x < m → to_within n x ≡ to_within m x
    within zero m x h k = absurd (omega (arith, h))
    within (suc n) zero x h k = absurd (omega (arith, k))
    within (suc n) (suc m) x h k = go (read x) refl (λ y l. within n m y (omega (arith, l, h)) (omega (arith, l, k)))
      where
        go : (r : Option Origin) → read x ≡ r → ((y : Name) → age y < age x → to_within n y ≡ to_within m y) → by_read (to_within n) x r ≡ by_read (to_within m) x r
        go None e older = refl
        go (Some (introduced p)) e older = refl
        go (Some (again p y)) e older = ap (at p) (older y (read_older x p y e))
        go (Some (stamp_at p)) e older = refl

    back_aside : (x : Name) → back (set_aside x) ≡ x
    back_aside (number k) = refl
    back_aside (stamp k) = refl
    back_aside (base p) = refl
    back_aside (at p x) = refl
    back_aside (stamped p) = refl
    back_aside (aside x) = refl

    back_within : (n : ℕ) (x : Name) → age x < n → back (to_within n x) ≡ x
    back_within zero x h = absurd (omega (arith, h))
    back_within (suc n) x h = go (read x) refl (λ y l. back_within n y (omega (arith, l, h)))
      where
        go : (r : Option Origin) → read x ≡ r → ((y : Name) → age y < age x → back (to_within n y) ≡ y) → back (by_read (to_within n) x r) ≡ x
        go None e older = back_aside x
        go (Some (introduced p)) e older = sym (is_read x (introduced p) e)
        go (Some (again p y)) e older = ap (λ (z : Name). named gs (again p z)) (older y (read_older x p y e)) ∙ sym (is_read x (again p y) e)
        go (Some (stamp_at p)) e older = sym (is_read x (stamp_at p) e)

    is_back : (x : Name) → back (to x) ≡ x
    is_back x = back_within (suc (age x)) x (omega arith)

    pub injection : Injection
    injection = record { to = to; back = back; is_back = is_back }

    -- the name of an origin goes to the one by place
    pub renamed : (o : Origin) → by_place (rename_origin to o) ≡ to (named gs o)
    renamed o = go o (younger o) ∙ sym (ap (by_read (to_within (age (named gs o))) (named gs o)) (reads o))
      where
        go : (o : Origin) → IsYounger o (named gs o) → by_place (rename_origin to o) ≡ by_place (rename_origin (to_within (age (named gs o))) o)
        go (introduced p) l = refl
        go (again p y) l = ap (at p) (within (suc (age y)) (age (named gs (again p y))) y (omega arith) l)
        go (stamp_at p) l = refl

resource_code : (a b : Numbers) (x : Name) → IsNewResource a b x → IsCode x
resource_code a b (number k) h = tt
resource_code a b (stamp k) h = tt
resource_code a b (base p) h = h
resource_code a b (at p x) h = h
resource_code a b (stamped p) h = h
resource_code a b (aside x) h = h

identity_code : (a b : Numbers) (x : Name) → IsNewIdentity a b x → IsCode x
identity_code a b (number k) h = tt
identity_code a b (stamp k) h = tt
identity_code a b (base p) h = h
identity_code a b (at p x) h = h
identity_code a b (stamped p) h = h
identity_code a b (aside x) h = h

module _ (In : Place → Type 0) (a b : Numbers) (n : GivenNames) (g : GivesAt In a b n) where
  pub to_places : Renaming
  to_places = record {
    resources = injection (IsNewResource a b) In (resource_code a b) n.resources g.resources;
    identities = injection (IsNewIdentity a b) In (identity_code a b) n.identities g.identities;
  }

  -- by it the names that are given are those by place, wherever
  pub renamed_places : (Where : Place → Type 0) → AreRenamed Where to_places.resources.to to_places.identities.to (names_of n) names_by_place
  unfolding to_places injection
  renamed_places at_those = record {
    resource = λ o h. renamed (IsNewResource a b) In (resource_code a b) n.resources g.resources o;
    identity = λ o h. renamed (IsNewIdentity a b) In (identity_code a b) n.identities g.identities o;
  }
