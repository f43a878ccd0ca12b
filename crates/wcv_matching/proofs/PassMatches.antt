-- The pass decides matching.
use Rattle.std.proofs.Common.{◌≡◌, ℕ, zero, suc, List, [], ◌∷◌, Bool, true, false, cond, ◌&&◌, eqb, refl, ap, sym, ◌∙◌, arith}
use Rattle.std.specs.Prelude.{Contains, Option, Some, None, slice_get}
use Rattle.std.specs.Bool.{Decides}
use Rattle.std.specs.List.{list_all}
use Rattle.std.proofs.lemmas.Bool.Decides.{Decides-and, Decides-like}
use Rattle.wcv_core.specs.Names.{Name, member}
use Rattle.wcv_types.specs.Paths.{IsTypeOf}
use Rattle.wcv_types.specs.Tree.{Text, Head, Sort, is_instance, is_component, is_type, is_module, sort, head, referenced, imported, imported_at}
use Rattle.wcv_types.specs.Resources.{owns}
use Rattle.wcv_types.specs.Seen.{Within, outer, inner, seen}
use Rattle.wcv_types.specs.Unfold.{Type_tree}
use Rattle.wcv_matching.specs.Matching.{Item_rule, Entries, Reading, outside, in_instance, Fresh, within, made, in_component, atoms, left, right, MatchAs, MatchBelow, named_exports, named_imports}
use Rattle.wcv_matching.specs.NamedPaths.{entry, resource_at, follow}
use Rattle.wcv_matching.specs.OnePass.{Atom, given, owned_in, made_in, IsAbove, under_at, component_at, imported_paths, made_paths, imported_in, defined_in, found_in, each_passes, sort_number, Tests, right_at, opened_at, left_at, exports_at, is_made_in, same_below, match_as, match_below, AreRight}
use Rattle.wcv_matching.specs.Orderly.{Orderly}
use Rattle.wcv_matching.proofs.Entries.{among}
use Rattle.wcv_matching.proofs.NamedLists.{entry-contains}
use Rattle.wcv_matching.proofs.MatchingOrder.{EachFound-map}
use Rattle.wcv_matching.proofs.MatchingKept.{MatchBelow-map}
use Rattle.wcv_matching.proofs.OneOpening.{rule, outside-read}
use Rattle.wcv_matching.proofs.SameTypes.{SameBelow-both, owned-defined}
use Rattle.wcv_matching.proofs.BothWays.{Leads, orderly-export, orderly-import, orderly-referenced, outside-from, then-then, reference-met, SameBelow-from, read-imported, read-defined}
use Rattle.wcv_matching.proofs.PassSame.{ReadsAbove, same_below-decides, same_members-decides, sorts-decide, and_left, and_right, and_both, all-pass, passes, all-members, passes-member, under-above, under-to, under-from, above-cond, above-more, to_within, from_within, to_fresh, from_fresh, from_fresh-above, eqb-same, eqb-below, recorded-import, recorded-export, counterpart-some}

-- ## A path leads to what is read alike, one way

module _ (C : Item_rule) where
  type-met_once : (d : ℕ) (A : Type 0) (f g : Reading A) (x t : Type_tree) (r : Name) → IsTypeOf r t → MatchBelow C d A f g x t →
      (q : Name) × (resource_at (head (referenced x)) ≡ Some q) × (f q ≡ g r)
  type-met_once zero A f g x t r e m = absurd m
  type-met_once (suc d) A f g x t r e m =
      let w = rule C d A f g x t is_type e.0 m in
      let z = reference-met C d A A f g f g (referenced x) (referenced t) r e.1 w.0 w.1 in (z.0, z.1, z.2)

module _ (C : Item_rule) where
  pub path-met_once : (p : List ℕ) (r : Name) (d : ℕ) (A : Type 0) (f g : Reading A) (xs es : List (Text × Type_tree)) → Leads p r es → Entries (MatchBelow C d A f g) xs es →
      (q : Name) × (follow p es xs ≡ Some q) × (f q ≡ g r)
  path-met_once [] r d A f g xs es l m = absurd l
  path-met_once (k ∷ []) r d A f g xs es l m =
      let x = m l.0.0 l.0.1 (among es k l.0 l.1) in
      let w = type-met_once C d A f g x.0 l.0.1 r l.2 x.2 in
      (w.0, then-then (slice_get es k) l.0 (Some w.0) _ l.1 (then-then (entry l.0.0 xs) x.0 (Some w.0) _ x.1 w.1), w.2)
  path-met_once (k ∷ j ∷ p) r zero A f g xs es l m = absurd (m l.0.0 l.0.1 (among es k l.0 l.1)).2
  path-met_once (k ∷ j ∷ p) r (suc d) A f g xs es l m =
      let t : Type_tree = l.0.1 in
      let x = m l.0.0 t (among es k l.0 l.1) in
      let w = path-met_once (j ∷ p) r d (Within A) (in_instance x.0 f) (in_instance t g) (named_exports x.0) (named_exports t) l.3 (rule C d A f g x.0 t is_instance l.2.0 x.2) in (
        w.0,
        then-then (slice_get es k) l.0 (Some w.0) _ l.1 (then-then (entry l.0.0 xs) x.0 (Some w.0) _ x.1 w.1),
        outside-from x.0 f w.0 (g r) (w.2 ∙ outside-read t g r l.2.1),
      )

-- a test of entries that is right on the entries is right on the lists
pub each-decide : {X : Type 0} (T : X → X → Bool) (R : X → X → Type 0) (xs ys : List (Text × X)) →
    ((n : Text) (x y : X) → Contains xs (n, x) → Contains ys (n, y) → Decides (T x y) (R x y)) → Decides (each_passes T xs ys) (Entries R xs ys)
each-decide {X} T R xs ys k = (to, from)
  where
    at : (o : Option X) (y : X) → (elim o as (λ _. Bool) [ None ↦ false | Some x ↦ T x y ]) ≡ true → (x : X) × (o ≡ Some x) × (T x y ≡ true)
    at None y h = cc
    at (Some x) y h = (x, refl, h)

    to : each_passes T xs ys ≡ true → Entries R xs ys
    to h n y c =
        let w = at (entry n xs) y (passes (found_in T xs) ys h (n, y) c) in
        (w.0, w.1, (k n w.0 y (entry-contains n xs w.0 w.1) c).0 w.2)

    founds : Entries R xs ys → (e : Text × X) → Contains ys e → found_in T xs e ≡ true
    founds p e c =
        let w = p e.0 e.1 c in
        let t : T w.0 e.1 ≡ true = (k e.0 w.0 e.1 (entry-contains e.0 xs w.0 w.1) c).1 w.2 in
        ap (λ (o : Option X). elim o as (λ _. Bool) [ None ↦ false | Some x ↦ T x e.1 ]) w.1 ∙ t

    from : Entries R xs ys → each_passes T xs ys ≡ true
    from p = all-pass (found_in T xs) ys (founds p)

-- ## Readings
at-to : (k : ℕ) (x : Head Name Name) (s t : Reading (Fresh Atom)) (f s' t' : Reading Atom) →
    ((r : Name) → member r (imported_at x) ≡ true → to_fresh k (s r) ≡ s' r) → ((r : Name) → owns x r ≡ true → member r (imported_at x) ≡ false → to_fresh k (t r) ≡ t' r) →
    (r : Name) → to_fresh k (in_component x s t f r) ≡ component_at x s' t' f r
at-to k x s t f s' t' p q r = go (owns x r) refl (member r (imported_at x)) refl
  where
    go : (b : Bool) → owns x r ≡ b → (c : Bool) → member r (imported_at x) ≡ c → to_fresh k (in_component x s t f r) ≡ component_at x s' t' f r
    go true e true i = rw (e, i) (p r i)
    go true e false i = rw (e, i) (q r e i)
    go false e c i = rw e refl

at-from : (k : ℕ) (x : Head Name Name) (s t : Reading (Fresh Atom)) (f s' t' : Reading Atom) → ReadsAbove k f →
    ((r : Name) → member r (imported_at x) ≡ true → from_fresh k (s' r) ≡ s r) → ((r : Name) → owns x r ≡ true → member r (imported_at x) ≡ false → from_fresh k (t' r) ≡ t r) →
    (r : Name) → from_fresh k (component_at x s' t' f r) ≡ in_component x s t f r
at-from k x s t f s' t' h p q r = go (owns x r) refl (member r (imported_at x)) refl
  where
    go : (b : Bool) → owns x r ≡ b → (c : Bool) → member r (imported_at x) ≡ c → from_fresh k (component_at x s' t' f r) ≡ in_component x s t f r
    go true e true i = rw (e, i) (p r i)
    go true e false i = rw (e, i) (q r e i)
    go false e c i = rw e (from_fresh-above k (f r) (h r))

pub at-above : (k : ℕ) (x : Head Name Name) (s t f : Reading Atom) → ReadsAbove (suc k) s → ReadsAbove (suc k) t → ReadsAbove k f → ReadsAbove (suc k) (component_at x s t f)
at-above k x s t f p q h r =
    above-cond (suc k) (owns x r) _ (f r) (above-cond (suc k) (member r (imported_at x)) (s r) (t r) (p r) (q r)) (above-more k (f r) (h r))

owned-above : (k : ℕ) → ReadsAbove (suc k) (owned_in k)
owned-above k r = omega arith

made-above : (k : ℕ) → ReadsAbove (suc k) (made_in k)
made-above k r = omega arith

pub right-above : (k : ℕ) (b : Type_tree) (g : Reading Atom) → ReadsAbove k g → ReadsAbove (suc k) (right_at k (head b) g)
right-above k b g h = at-above k (head b) (owned_in k) (made_in k) g (owned-above k) (made-above k) h

pub left-above : (k : ℕ) (a b : Type_tree) (f g : Reading Atom) → ReadsAbove k f → ReadsAbove k g → ReadsAbove (suc k) (left_at k f g a b)
left-above k a b f g hf hg = at-above k (head a) (opened_at k g a b) (made_in k) f (λ r. right-above k b g hg (imported_in a b r)) (made-above k) hf

pub exports-above : (k : ℕ) (a b : Type_tree) (f g : Reading Atom) → ReadsAbove k f → ReadsAbove k g → ReadsAbove (suc k) (exports_at k f g a b)
exports-above k a b f g hf hg = at-above k (head b) (owned_in k) (λ q. left_at k f g a b (defined_in b a q)) g (owned-above k) (λ q. left-above k a b f g hf hg (defined_in b a q)) hg

abbrev un_within : {A : Type 0} → Fresh A → Within A
un_within (within w) = w
un_within (made r) = inner r

not-made : (k : ℕ) (w : Atom) → is_made_in k w ≡ false → from_fresh k w ≡ within (un_within (from_fresh k w))
not-made k (given r) h = refl
not-made k (owned_in j r) h = go (eqb j k)
  where
    go : (b : Bool) → cond b (within (inner r)) (within (outer (owned_in j r))) ≡ within (un_within (cond b (within (inner r)) (within (outer (owned_in j r)))))
    go true = refl
    go false = refl
not-made k (made_in j r) h = rw h refl

above-not_made : (k : ℕ) (w : Atom) → IsAbove k w → is_made_in k w ≡ false
above-not_made k (given r) h = refl
above-not_made k (owned_in j r) h = refl
above-not_made k (made_in j r) h = eqb-below j k h

-- what reads as in or outside the right component is none that it defines
within-not_made : (k : ℕ) (x : Head Name Name) (g : Reading Atom) → ReadsAbove k g → (q : Name) (w : Within Atom) → in_component x atoms made g q ≡ within w → is_made_in k (right_at k x g q) ≡ false
within-not_made k x g h q w m = go (owns x q) refl (member q (imported_at x)) refl
  where
    go : (b : Bool) → owns x q ≡ b → (c : Bool) → member q (imported_at x) ≡ c → is_made_in k (right_at k x g q) ≡ false
    go true e true i = rw (e, i) refl
    go true e false i = let m' : made q ≡ within w = rw (e, i) at m in cc
    go false e c i = rw e (above-not_made k (g q) (h q))

true-not : (b : Bool) → cond b false true ≡ true → b ≡ false
true-not true h = sym h
true-not false h = refl

-- ## The pass decides matching
module _ (C : Item_rule) where
  module _ (test : Tests) (tests : AreRight C test) where
    abbrev pub IsRightMatch : ℕ → Type 0
    IsRightMatch d = (k : ℕ) (f g : Reading Atom) (a b : Type_tree) → Orderly a → Orderly b → ReadsAbove k f → ReadsAbove k g →
        Decides (match_below test d k f g a b) (MatchBelow C d Atom f g a b)

    abbrev Match_as_decides : ℕ → Sort → Type 0
    Match_as_decides d s = (k : ℕ) (f g : Reading Atom) (a b : Type_tree) → sort a ≡ s → sort b ≡ s → Orderly a → Orderly b → ReadsAbove k f → ReadsAbove k g →
        Decides (match_as test (same_below test d) (match_below test d) s k f g a b) (MatchAs C (MatchBelow C d) s Atom f g a b)

    instance-matches : (d : ℕ) → IsRightMatch d → Match_as_decides d is_instance
    instance-matches d ih k f g a b ea eb oa ob hf hg =
        each-decide _ _ (named_exports a) (named_exports b)
        (λ n x y cx cy. Decides-like _
        (MatchBelow-map C d Atom (Within Atom) (from_within k) _ _ (in_instance a f) (in_instance b g) x y (λ r _. under-from k a f hf r) (λ r _. under-from k b g hg r))
        (MatchBelow-map C d (Within Atom) Atom (to_within k) (in_instance a f) (in_instance b g) _ _ x y (λ r _. under-to k a f r) (λ r _. under-to k b g r))
        (ih (suc k) (under_at k (head a) f) (under_at k (head b) g) x y (orderly-export a oa n x cx) (orderly-export b ob n y cy) (under-above k (head a) f hf) (under-above k (head b) g hg)))

    type-matches : (d : ℕ) → IsRightMatch d → Match_as_decides d is_type
    type-matches d ih k f g a b ea eb oa ob hf hg =
        Decides-like _
        (λ m. let w = SameBelow-both C d Atom f g (referenced a) (referenced b) m.0 in (w.0, w.1, m.1))
        (λ m. (SameBelow-from C d Atom f g (referenced a) (referenced b) (orderly-referenced a oa) (orderly-referenced b ob) m.0 m.1, m.2))
        (Decides-and _ _ (same_below-decides C test tests d k f g (referenced a) (referenced b) (orderly-referenced a oa) (orderly-referenced b ob) hf hg) (same_members-decides _ _))

    abbrev imports_match : ℕ → ℕ → Reading Atom → Reading Atom → Type_tree → Type_tree → Bool
    imports_match d k f g a b = each_passes (match_below test d (suc k) (right_at k (head b) g) (left_at k f g a b)) (named_imports b) (named_imports a)

    abbrev exports_match : ℕ → ℕ → Reading Atom → Reading Atom → Type_tree → Type_tree → Bool
    exports_match d k f g a b = each_passes (match_below test d (suc k) (left_at k f g a b) (exports_at k f g a b)) (named_exports a) (named_exports b)

    abbrev none_made : ℕ → Reading Atom → Type_tree → Type_tree → Name → Bool
    none_made k g a b r = cond (is_made_in k (opened_at k g a b r)) false true

    component-matches : (d : ℕ) → IsRightMatch d → Match_as_decides d is_component
    component-matches d ih k f g a b ea eb oa ob hf hg = (to, from)
      where
        imports_decide : Decides (imports_match d k f g a b) (Entries (MatchBelow C d Atom (right_at k (head b) g) (left_at k f g a b)) (named_imports b) (named_imports a))
        imports_decide =
            each-decide _ _ (named_imports b) (named_imports a)
            (λ n x y cx cy. ih (suc k) (right_at k (head b) g) (left_at k f g a b) x y (orderly-import b ob n x cx) (orderly-import a oa n y cy) (right-above k b g hg) (left-above k a b f g hf hg))

        exports_decide : Decides (exports_match d k f g a b) (Entries (MatchBelow C d Atom (left_at k f g a b) (exports_at k f g a b)) (named_exports a) (named_exports b))
        exports_decide =
            each-decide _ _ (named_exports a) (named_exports b)
            (λ n x y cx cy. ih (suc k) (left_at k f g a b) (exports_at k f g a b) x y (orderly-export a oa n x cx) (orderly-export b ob n y cy) (left-above k a b f g hf hg) (exports-above k a b f g hf hg))

        right-to : (q : Name) → to_fresh k (right made g b q) ≡ right_at k (head b) g q
        right-to = at-to k (head b) atoms made g (owned_in k) (made_in k) (λ r _. refl) (λ r _ _. refl)

        right-from : (q : Name) → from_fresh k (right_at k (head b) g q) ≡ right made g b q
        right-from = at-from k (head b) atoms made g (owned_in k) (made_in k) hg (λ r _. rw (eqb-same k) refl) (λ r _ _. rw (eqb-same k) refl)

        to : match_as test (same_below test d) (match_below test d) is_component k f g a b ≡ true → MatchAs C (MatchBelow C d) is_component Atom f g a b
        to h =
            let own : list_all (none_made k g a b) (imported a) ≡ true = and_left (list_all (none_made k g a b) (imported a)) (imports_match d k f g a b && exports_match d k f g a b) h in
            let rest : (imports_match d k f g a b && exports_match d k f g a b) ≡ true = and_right (list_all (none_made k g a b) (imported a)) (imports_match d k f g a b && exports_match d k f g a b) h in
            let s : Reading (Within Atom) = λ r. un_within (from_fresh k (opened_at k g a b r)) in
            let t : Reading (Fresh Atom) = λ q. from_fresh k (left_at k f g a b (defined_in b a q)) in
            let left_from : (r : Name) → from_fresh k (left_at k f g a b r) ≡ left s f a r =
            at-from k (head a) (λ r. within (s r)) made f (opened_at k g a b) (made_in k) hf
            (λ r i. not-made k (opened_at k g a b r) (true-not (is_made_in k (opened_at k g a b r)) (passes-member (none_made k g a b) (imported a) own r i)))
            (λ r _ _. rw (eqb-same k) refl) in
            let exports_from : (q : Name) → from_fresh k (exports_at k f g a b q) ≡ right t g b q =
            at-from k (head b) atoms t g (owned_in k) (λ q. left_at k f g a b (defined_in b a q)) hg (λ r _. rw (eqb-same k) refl) (λ r _ _. refl) in (
              s,
              t,
              EachFound-map _ (MatchBelow C d (Fresh Atom) (right made g b) (left s f a)) (named_imports b) (named_imports a)
                  (λ x y. MatchBelow-map C d Atom (Fresh Atom) (from_fresh k) (right_at k (head b) g) (left_at k f g a b) (right made g b) (left s f a) x y (λ r _. right-from r) (λ r _. left_from r))
                  (imports_decide.0 (and_left (imports_match d k f g a b) (exports_match d k f g a b) rest)),
              EachFound-map _ (MatchBelow C d (Fresh Atom) (left s f a) (right t g b)) (named_exports a) (named_exports b)
                  (λ x y. MatchBelow-map C d Atom (Fresh Atom) (from_fresh k) (left_at k f g a b) (exports_at k f g a b) (left s f a) (right t g b) x y (λ r _. left_from r) (λ r _. exports_from r))
                  (exports_decide.0 (and_right (imports_match d k f g a b) (exports_match d k f g a b) rest)),
            )

        from : MatchAs C (MatchBelow C d) is_component Atom f g a b → match_as test (same_below test d) (match_below test d) is_component k f g a b ≡ true
        from m =
            let s = m.0 in
            let t = m.1 in
            let opened : (r : Name) → member r (imported_at (head a)) ≡ true → (to_within k (s r) ≡ opened_at k g a b r) × (is_made_in k (opened_at k g a b r) ≡ false) =
            λ r i.
            let l = recorded-import a oa.1 r i in
            let w = path-met_once C l.0 r d (Fresh Atom) (right made g b) (left s f a) (named_imports b) (named_imports a) l.2 m.2 in
            let e : right made g b w.0 ≡ within (s r) = w.2 ∙ read-imported (head a) (λ z. within (s z)) made f r i in
            let c : imported_in a b r ≡ w.0 = counterpart-some (imported_paths (head a)) (named_imports a) (named_imports b) r w.0 l.0 l.1 w.1 in
            let n : is_made_in k (right_at k (head b) g w.0) ≡ false = within-not_made k (head b) g hg w.0 (s r) e in (
              ap (to_fresh k) (sym e) ∙ right-to w.0 ∙ ap (right_at k (head b) g) (sym c),
              ap (λ (z : Name). is_made_in k (right_at k (head b) g z)) c ∙ n,
            ) in
            let left_to : (r : Name) → to_fresh k (left s f a r) ≡ left_at k f g a b r =
            at-to k (head a) (λ r. within (s r)) made f (opened_at k g a b) (made_in k) (λ r i. (opened r i).0) (λ r _ _. refl) in
            let defined_to : (q : Name) → owns (head b) q ≡ true → member q (imported_at (head b)) ≡ false → to_fresh k (t q) ≡ left_at k f g a b (defined_in b a q) =
            λ q o i.
            let l = recorded-export b ob.1 q (owned-defined (head b) eb q o i) in
            let w = path-met_once C l.0 q d (Fresh Atom) (left s f a) (right t g b) (named_exports a) (named_exports b) l.2 m.3 in
            let e : left s f a w.0 ≡ t q = w.2 ∙ read-defined (head b) atoms t g q o i in
            let c : defined_in b a q ≡ w.0 = counterpart-some (made_paths (head b)) (named_exports b) (named_exports a) q w.0 l.0 l.1 w.1 in
            ap (to_fresh k) (sym e) ∙ left_to w.0 ∙ ap (left_at k f g a b) (sym c) in
            let exports_to : (q : Name) → to_fresh k (right t g b q) ≡ exports_at k f g a b q =
            at-to k (head b) atoms t g (owned_in k) (λ q. left_at k f g a b (defined_in b a q)) (λ r _. refl) defined_to in
            and_both (list_all (none_made k g a b) (imported a)) (imports_match d k f g a b && exports_match d k f g a b)
            (all-members (none_made k g a b) (imported a) (λ r i. ap (λ (z : Bool). cond z false true) (opened r i).1))
            (and_both (imports_match d k f g a b) (exports_match d k f g a b)
            (imports_decide.1
            (EachFound-map _ (MatchBelow C d Atom (right_at k (head b) g) (left_at k f g a b)) (named_imports b) (named_imports a)
            (λ x y. MatchBelow-map C d (Fresh Atom) Atom (to_fresh k) (right made g b) (left s f a) (right_at k (head b) g) (left_at k f g a b) x y (λ r _. right-to r) (λ r _. left_to r)) m.2))
            (exports_decide.1
            (EachFound-map _ (MatchBelow C d Atom (left_at k f g a b) (exports_at k f g a b)) (named_exports a) (named_exports b)
            (λ x y. MatchBelow-map C d (Fresh Atom) Atom (to_fresh k) (left s f a) (right t g b) (left_at k f g a b) (exports_at k f g a b) x y (λ r _. left_to r) (λ r _. exports_to r)) m.3)))

    match_as-decides : (d : ℕ) → IsRightMatch d → (s : Sort) → Match_as_decides d s
    match_as-decides d ih is_instance k f g a b ea eb oa ob hf hg = instance-matches d ih k f g a b ea eb oa ob hf hg
    match_as-decides d ih is_type k f g a b ea eb oa ob hf hg = type-matches d ih k f g a b ea eb oa ob hf hg
    match_as-decides d ih is_component k f g a b ea eb oa ob hf hg = component-matches d ih k f g a b ea eb oa ob hf hg
    match_as-decides d ih is_module k f g a b ea eb oa ob hf hg = tests.modules a b
    match_as-decides d ih _ k f g a b ea eb oa ob hf hg = tests.same_seen (seen (outside f) a) (seen (outside g) b)

    -- the pass answers true exactly where a matches b
    pub match_below-decides : (d : ℕ) → IsRightMatch d
    match_below-decides zero k f g a b oa ob hf hg = (λ h. cc, λ m. absurd m)
    match_below-decides (suc d) k f g a b oa ob hf hg =
        let sorts = sorts-decide (sort a) (sort b) in
        let S : Bool = eqb (sort_number (sort a)) (sort_number (sort b)) in
        let T : Bool = match_as test (same_below test d) (match_below test d) (sort a) k f g a b in (
          λ h.
              let e : sort a ≡ sort b = sorts.0 (and_left S T h) in
              (e, (match_as-decides d (match_below-decides d) (sort a) k f g a b refl (sym e) oa ob hf hg).0 (and_right S T h)),
          λ m. and_both S T (sorts.1 m.0) ((match_as-decides d (match_below-decides d) (sort a) k f g a b refl (sym m.0) oa ob hf hg).1 m.1),
        )
