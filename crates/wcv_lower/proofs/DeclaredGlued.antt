-- Declarations that calls read, each by names of its own, are read by the names of all; and so is the type, which takes a name at the end.
use Rattle.std.proofs.Common.{◌≡◌, ℕ, suc, ◌++◌, sym, ◌∙◌, ap, subst, inl, inr, arith, Some, refl, true}
use Rattle.std.specs.Option.{option_and_then}
use Rattle.wcv_core.specs.Names.{Place, deeper, under}
use Rattle.wcv_core.specs.declared.error.ErrorKind.{ErrorKind}
use Rattle.wcv_core.specs.declared.features.WasmFeatures.{WasmFeatures}
use Rattle.wcv_core.proofs.Places.{one-item, under-refl, under-deeper, not-inside}
use Rattle.wcv_syntax.specs.Model.{Decl, Decls, no_decls, declare, component_type, instance_type}
use Rattle.wcv_lower.specs.Checks.{Checks, Cause, IsFree, no_type_room}
use Rattle.wcv_lower.specs.Context.{Kind, declares_instance, declares_component, counts}
use Rattle.wcv_lower.specs.Declared.{read_decl, read_decls, on_read, decl_checks, decls_checks, inside, ended, full_stack}
use Rattle.wcv_lower.specs.DeclaredCalls.{FromDecl, DeclsRead, DeclsRefused, TypeRead, TypeRefused}
use Rattle.wcv_lower.specs.Ending.{end_checks, declared_end_checks}
use Rattle.wcv_lower.specs.Given.{GivenNames, names_of, none_given, both_given, Numbers, AtMost, IsNewResource, IsNewIdentity, GivesAt}
use Rattle.wcv_lower.specs.Names.{place_of, Under}
use Rattle.wcv_lower.specs.Trees.{Tree_stack, tree_reader, tree_maker}
use Rattle.wcv_lower.proofs.Agreeing.{SameNames}
use Rattle.wcv_lower.proofs.Causes.{cause_left, cause_right, free_both}
use Rattle.wcv_lower.proofs.DeclaredNames.{MakeSame, makers_agree, read_decl-agrees, read_decls-agree, decl_checks-agree, decls_checks-agree}
use Rattle.wcv_lower.proofs.Given.{gives_both, gives_wider, no_origin, named_first, named_second}
use Rattle.std.proofs.lemmas.Bool.{false≢true}
use Rattle.std.specs.Prelude.{Bool}

-- ## The names of two calls

module _ (A B : Place → Type 0) (a m b : Numbers) (apart : (p : Place) → A p → B p → ⊥) (n k : GivenNames) (g : GivesAt A a m n) (h : GivesAt B m b k) where
  pub first_same : SameNames A (names_of n) (names_of (both_given n k))
  first_same = record {
    resource = λ o u. named_first n.resources k.resources o (no_origin (IsNewResource m b) B k.resources o h.resources (apart (place_of o) u));
    identity = λ o u. named_first n.identities k.identities o (no_origin (IsNewIdentity m b) B k.identities o h.identities (apart (place_of o) u));
  }

  pub second_same : SameNames B (names_of k) (names_of (both_given n k))
  second_same = record {
    resource = λ o u. named_second n.resources k.resources o (no_origin (IsNewResource a m) A n.resources o g.resources (λ x. apart (place_of o) x u));
    identity = λ o u. named_second n.identities k.identities o (no_origin (IsNewIdentity a m) A n.identities o g.identities (λ x. apart (place_of o) x u));
  }

-- ## Declarations

pub later_item : (p : Place) (n : ℕ) (q : Place) → Under (deeper p n) q → FromDecl p (suc n) q → ⊥
later_item p n q u w =
    let e : n ≡ w.0 = one-item p n w.0 q u w.2 in
    let l = w.1 in
    omega (arith, e, l)

most_read : (fs : WasmFeatures) (p : Place) (n : ℕ) (s u : Tree_stack) (ds : Decls) (a b : Numbers) → DeclsRead fs p n s ds u a b → AtMost a b
most_read fs p n s u no_decls a b r = r.1
most_read fs p n s u (declare d ds) a b r =
    let x = r.2 in
    let y = r.3 in
    record { resources = omega (arith, x.resources, y.resources); nodes = omega (arith, x.nodes, y.nodes); stamps = omega (arith, x.stamps, y.stamps) }

pub none_gives : (In : Place → Type 0) (a b : Numbers) → GivesAt In a b none_given
none_gives In a b = record { resources = tt; identities = tt }

module _ (fs : WasmFeatures) (p : Place) where
  -- a declaration and those behind it, by the names of all
  module _ (n : ℕ) (a m b : Numbers) (l : AtMost a m) (l' : AtMost m b) (one rest : GivenNames) (g : GivesAt (Under (deeper p n)) a m one) (h : GivesAt (FromDecl p (suc n)) m b rest) where
    abbrev both : GivenNames
    both = both_given one rest

    pub both_given_at : GivesAt (FromDecl p n) a b both
    both_given_at =
        gives_both (Under (deeper p n)) (FromDecl p (suc n)) (FromDecl p n) a m b l l' (later_item p n) (λ q u. (n, omega arith, u)) (λ q w. let x = w.1 in (w.0, omega (arith, x), w.2)) one rest g h

    first_made : MakeSame {X = tree_reader} (tree_maker (names_of one)) (tree_maker (names_of both)) (Under (deeper p n))
    first_made = makers_agree (names_of one) (names_of both) (Under (deeper p n)) (first_same (Under (deeper p n)) (FromDecl p (suc n)) a m b (later_item p n) one rest g h)

    rest_made : MakeSame {X = tree_reader} (tree_maker (names_of rest)) (tree_maker (names_of both)) (FromDecl p (suc n))
    rest_made = makers_agree (names_of rest) (names_of both) (FromDecl p (suc n)) (second_same (Under (deeper p n)) (FromDecl p (suc n)) a m b (later_item p n) one rest g h)

    first_read : (s : Tree_stack) (d : Decl) → read_decl fs (tree_maker (names_of both)) (deeper p n) s d ≡ read_decl fs (tree_maker (names_of one)) (deeper p n) s d
    first_read s d = read_decl-agrees fs (tree_maker (names_of one)) (tree_maker (names_of both)) (deeper p n) s d first_made

    first_checks : (s : Tree_stack) (d : Decl) → decl_checks fs (tree_maker (names_of both)) (deeper p n) s d ≡ decl_checks fs (tree_maker (names_of one)) (deeper p n) s d
    first_checks s d = decl_checks-agree fs (tree_maker (names_of one)) (tree_maker (names_of both)) (deeper p n) s d first_made

    rest_read : (s : Tree_stack) (ds : Decls) → read_decls fs (tree_maker (names_of both)) p (suc n) s ds ≡ read_decls fs (tree_maker (names_of rest)) p (suc n) s ds
    rest_read s ds = read_decls-agree fs (tree_maker (names_of rest)) (tree_maker (names_of both)) p (suc n) s ds rest_made

    rest_checks : (k : Kind) (s : Tree_stack) (ds : Decls) → decls_checks fs (tree_maker (names_of both)) p (suc n) k s ds ≡ decls_checks fs (tree_maker (names_of rest)) p (suc n) k s ds
    rest_checks k s ds = decls_checks-agree fs (tree_maker (names_of rest)) (tree_maker (names_of both)) p (suc n) k s ds rest_made

    -- the causes of the declaration, and then of those behind it
    both_checks : (k : Kind) (s t : Tree_stack) (d : Decl) (ds : Decls) → read_decl fs (tree_maker (names_of one)) (deeper p n) s d ≡ Some t →
        decls_checks fs (tree_maker (names_of both)) p n k s (declare d ds) ≡ decl_checks fs (tree_maker (names_of one)) (deeper p n) s d ++ decls_checks fs (tree_maker (names_of rest)) p (suc n) k t ds
    both_checks k s t d ds e = λ j. first_checks s d j ++ (ap (on_read (λ u. decls_checks fs (tree_maker (names_of both)) p (suc n) k u ds)) (first_read s d ∙ e) ∙ rest_checks k t ds) j

  -- calls that read them one after another read them all
  pub decls_read : (n : ℕ) (k : Kind) (s u : Tree_stack) (ds : Decls) (a b : Numbers) → DeclsRead fs p n s ds u a b → IsFree (declared_end_checks k u.top) →
      (g : GivenNames) × GivesAt (FromDecl p n) a b g × IsFree (decls_checks fs (tree_maker (names_of g)) p n k s ds) × (read_decls fs (tree_maker (names_of g)) p n s ds ≡ Some u)
  decls_read n k s u no_decls a b r f = (none_given, none_gives (FromDecl p n) a b, subst (λ (t : Tree_stack). IsFree (declared_end_checks k t.top)) (sym r.0) f, ap Some r.0)
  decls_read n k s u (declare d ds) a b r f =
      let t : Tree_stack = r.0 in
      let m : Numbers = r.1 in
      let one = r.4 in
      let rest = decls_read (suc n) k t u ds m b r.5 f in
      let free : IsFree (decl_checks fs (tree_maker (names_of one.0)) (deeper p n) s d ++ decls_checks fs (tree_maker (names_of rest.0)) p (suc n) k t ds) =
      free_both (decl_checks fs (tree_maker (names_of one.0)) (deeper p n) s d) (decls_checks fs (tree_maker (names_of rest.0)) p (suc n) k t ds) one.2 rest.2 in (
        both_given one.0 rest.0,
        both_given_at n a m b r.2 r.3 one.0 rest.0 one.1 rest.1,
        subst IsFree (sym (both_checks n a m b r.2 r.3 one.0 rest.0 one.1 rest.1 k s t d ds one.3)) free,
        ap (option_and_then (λ x. read_decls fs (tree_maker (names_of (both_given one.0 rest.0))) p (suc n) x ds)) (first_read n a m b r.2 r.3 one.0 rest.0 one.1 rest.1 s d ∙ one.3) ∙
            (rest_read n a m b r.2 r.3 one.0 rest.0 one.1 rest.1 t ds ∙ rest.3),
      )

  -- where calls refuse one, or the end, that is a cause of all
  pub decls_refused : (n : ℕ) (k : Kind) (s : Tree_stack) (ds : Decls) (e : ErrorKind) (a b : Numbers) → DeclsRefused fs p n k s ds e a b →
      (g : GivenNames) × GivesAt (FromDecl p n) a b g × Cause (decls_checks fs (tree_maker (names_of g)) p n k s ds) e
  decls_refused n k s no_decls e a b r = (none_given, none_gives (FromDecl p n) a b, r)
  decls_refused n k s (declare d ds) e a b (inl r) = (
    r.0,
    gives_wider (Under (deeper p n)) (FromDecl p n) a b r.0 (λ q u. (n, omega arith, u)) r.1,
    cause_left (decl_checks fs (tree_maker (names_of r.0)) (deeper p n) s d) (on_read (λ t. decls_checks fs (tree_maker (names_of r.0)) p (suc n) k t ds) (read_decl fs (tree_maker (names_of r.0)) (deeper p n) s d)) e r.2,
  )
  decls_refused n k s (declare d ds) e a b (inr r) =
      let t : Tree_stack = r.0 in
      let m : Numbers = r.1 in
      let one = r.4 in
      let rest = decls_refused (suc n) k t ds e m b r.5 in
      let cause : Cause (decl_checks fs (tree_maker (names_of one.0)) (deeper p n) s d ++ decls_checks fs (tree_maker (names_of rest.0)) p (suc n) k t ds) e =
      cause_right (decl_checks fs (tree_maker (names_of one.0)) (deeper p n) s d) (decls_checks fs (tree_maker (names_of rest.0)) p (suc n) k t ds) e rest.2 in
      (both_given one.0 rest.0, both_given_at n a m b r.2 r.3 one.0 rest.0 one.1 rest.1, subst (λ (cs : Checks). Cause cs e) (sym (both_checks n a m b r.2 r.3 one.0 rest.0 one.1 rest.1 k s t d ds one.3)) cause)

  -- ## The type

  pub own_place : (q : Place) → FromDecl p 0 q → q ≡ p → ⊥
  own_place q w e = false≢true (sym (not-inside p w.0) ∙ subst (λ (x : Place). under (deeper p w.0) x ≡ true) e w.2)

  pub inside_it : (q : Place) → FromDecl p 0 q → Under p q
  inside_it q w = under-deeper p w.0 q w.2

  it_itself : (q : Place) → q ≡ p → Under p q
  it_itself q e = subst (λ (x : Place). under p x ≡ true) (sym e) (under-refl p)

  -- the names of the declarations, and then those of the type
  module _ (a m b : Numbers) (l : AtMost a m) (l' : AtMost m b) (each own : GivenNames) (g : GivesAt (FromDecl p 0) a m each) (h : GivesAt (λ q. q ≡ p) m b own) where
    abbrev all : GivenNames
    all = both_given each own

    pub all_given_at : GivesAt (Under p) a b all
    all_given_at = gives_both (FromDecl p 0) (λ q. q ≡ p) (Under p) a m b l l' own_place inside_it it_itself each own g h

    each_made : MakeSame {X = tree_reader} (tree_maker (names_of each)) (tree_maker (names_of all)) (FromDecl p 0)
    each_made = makers_agree (names_of each) (names_of all) (FromDecl p 0) (first_same (FromDecl p 0) (λ q. q ≡ p) a m b own_place each own g h)

    pub own_made : tree_maker (names_of all) p ≡ tree_maker (names_of own) p
    own_made = makers_agree (names_of own) (names_of all) (λ q. q ≡ p) (second_same (FromDecl p 0) (λ q. q ≡ p) a m b own_place each own g h) p refl

    all_read : (k : Kind) (s u : Tree_stack) (ds : Decls) → read_decls fs (tree_maker (names_of each)) p 0 (inside k s) ds ≡ Some u →
        option_and_then (ended k (tree_maker (names_of all) p)) (read_decls fs (tree_maker (names_of all)) p 0 (inside k s) ds) ≡ ended k (tree_maker (names_of own) p) u
    all_read k s u ds e =
        ap (option_and_then (ended k (tree_maker (names_of all) p))) (read_decls-agree fs (tree_maker (names_of each)) (tree_maker (names_of all)) p 0 (inside k s) ds each_made ∙ e) ∙
        ap (λ mk. ended k mk u) own_made

    all_checks : (k : Kind) (s : Tree_stack) (ds : Decls) → decls_checks fs (tree_maker (names_of all)) p 0 k (inside k s) ds ≡ decls_checks fs (tree_maker (names_of each)) p 0 k (inside k s) ds
    all_checks k s ds = decls_checks-agree fs (tree_maker (names_of each)) (tree_maker (names_of all)) p 0 k (inside k s) ds each_made

    all_free : (limited : Bool) (k : Kind) (s : Tree_stack) (ds : Decls) → IsFree (full_stack s) → IsFree (decls_checks fs (tree_maker (names_of each)) p 0 k (inside k s) ds) → IsFree (no_type_room limited (counts s.top)) →
        IsFree (full_stack s ++ (decls_checks fs (tree_maker (names_of all)) p 0 k (inside k s) ds ++ no_type_room limited (counts s.top)))
    all_free limited k s ds x y z =
        let own : Checks = decls_checks fs (tree_maker (names_of all)) p 0 k (inside k s) ds in
        let room : Checks = no_type_room limited (counts s.top) in
        free_both (full_stack s) (own ++ room) x (free_both own room (subst IsFree (sym (all_checks k s ds)) y) z)

  -- calls that read the declarations, and then give the type a name, read the type
  pub instance_read : (limited : Bool) (s u v : Tree_stack) (ds : Decls) (a m b : Numbers) (own : GivenNames) → IsFree (full_stack s) → DeclsRead fs p 0 (inside declares_instance s) ds u a m → IsFree (declared_end_checks declares_instance u.top) →
      IsFree (no_type_room limited (counts s.top)) → AtMost m b → GivesAt (λ q. q ≡ p) m b own → ended declares_instance (tree_maker (names_of own) p) u ≡ Some v → TypeRead limited fs p s (instance_type ds) v a b
  instance_read limited s u v ds a m b own x r f z l h e =
      let each = decls_read 0 declares_instance (inside declares_instance s) u ds a m r f in
      let l₀ : AtMost a m = most_read fs p 0 (inside declares_instance s) u ds a m r in (
        both_given each.0 own,
        all_given_at a m b l₀ l each.0 own each.1 h,
        all_free a m b l₀ l each.0 own each.1 h limited declares_instance s ds x each.2 z,
        all_read a m b l₀ l each.0 own each.1 h declares_instance s u ds each.3 ∙ e,
      )

  pub component_read : (limited : Bool) (s u v : Tree_stack) (ds : Decls) (a m b : Numbers) (own : GivenNames) → IsFree (full_stack s) → DeclsRead fs p 0 (inside declares_component s) ds u a m → IsFree (end_checks u.top) →
      IsFree (no_type_room limited (counts s.top)) → AtMost m b → GivesAt (λ q. q ≡ p) m b own → ended declares_component (tree_maker (names_of own) p) u ≡ Some v → TypeRead limited fs p s (component_type ds) v a b
  component_read limited s u v ds a m b own x r f z l h e =
      let each = decls_read 0 declares_component (inside declares_component s) u ds a m r f in
      let l₀ : AtMost a m = most_read fs p 0 (inside declares_component s) u ds a m r in (
        both_given each.0 own,
        all_given_at a m b l₀ l each.0 own each.1 h,
        all_free a m b l₀ l each.0 own each.1 h limited declares_component s ds x each.2 z,
        all_read a m b l₀ l each.0 own each.1 h declares_component s u ds each.3 ∙ e,
      )

  -- where calls refuse a declaration, or the end, the type is refused
  cause_inside : (limited : Bool) (k : Kind) (s : Tree_stack) (ds : Decls) (g : GivenNames) (e : ErrorKind) → Cause (decls_checks fs (tree_maker (names_of g)) p 0 k (inside k s) ds) e →
      Cause (full_stack s ++ (decls_checks fs (tree_maker (names_of g)) p 0 k (inside k s) ds ++ no_type_room limited (counts s.top))) e
  cause_inside limited k s ds g e h =
      let own : Checks = decls_checks fs (tree_maker (names_of g)) p 0 k (inside k s) ds in
      let room : Checks = no_type_room limited (counts s.top) in
      cause_right (full_stack s) (own ++ room) e (cause_left own room e h)

  pub instance_refused : (limited : Bool) (s : Tree_stack) (ds : Decls) (e : ErrorKind) (a b : Numbers) → DeclsRefused fs p 0 declares_instance (inside declares_instance s) ds e a b → TypeRefused limited fs p s (instance_type ds) e a b
  instance_refused limited s ds e a b r =
      let w = decls_refused 0 declares_instance (inside declares_instance s) ds e a b r in
      (w.0, gives_wider (FromDecl p 0) (Under p) a b w.0 inside_it w.1, cause_inside limited declares_instance s ds w.0 e w.2)

  pub component_refused : (limited : Bool) (s : Tree_stack) (ds : Decls) (e : ErrorKind) (a b : Numbers) → DeclsRefused fs p 0 declares_component (inside declares_component s) ds e a b → TypeRefused limited fs p s (component_type ds) e a b
  component_refused limited s ds e a b r =
      let w = decls_refused 0 declares_component (inside declares_component s) ds e a b r in
      (w.0, gives_wider (FromDecl p 0) (Under p) a b w.0 inside_it w.1, cause_inside limited declares_component s ds w.0 e w.2)
