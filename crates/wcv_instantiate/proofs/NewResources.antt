-- New resources in the places of those that an instance type owns.
use Rattle.std.proofs.Common.{◌≡◌, ℕ, zero, suc, ◌+◌, ◌<◌, ◌≤◌, List, [], ◌∷◌, ◌++◌, length, map, take, refl, sym, ◌∙◌, ap, subst, arith, Bool, true, false, cond, Some, None, All, length-append, take_all}
use Rattle.std.specs.Prelude.{Option, slice_get}
use Rattle.std.specs.List.{IsDistinct, AllByRecursion}
use Rattle.std.specs.Map.{keys_of, lookup}
use Rattle.std.proofs.lemmas.Bool.{ne_eqb, eqb-true, eqb-false}
use Rattle.std.proofs.lemmas.List.{append-nil, append_assoc}
use Rattle.std.proofs.lemmas.List.Elements.{All-nil, All-cons, All-head, All-tail}
use Rattle.std.proofs.lemmas.Map.Keys.{IsDistinct-head, IsDistinct-tail}
use Rattle.wcv_core.specs.Names.{Name, number}
use Rattle.wcv_types.proofs.FirstPath.{first_path-none}
use Rattle.wcv_types.proofs.Grown.{extends_refl}
use Rattle.wcv_types.proofs.Grown.{more_given as numbers_more}
use Rattle.wcv_types.proofs.Lists.{some-inj, take-next}
use Rattle.wcv_types.specs.Arena.{Arena}
use Rattle.wcv_walks.specs.ExplicitPaths.{explicit_paths, with_path}
use Rattle.wcv_types.specs.FirstPath.{first_path}
use Rattle.wcv_types.specs.Led.{HasPath}
use Rattle.wcv_types.specs.Sets.{same_resource}
use Rattle.wcv_types.specs.Standing.{Extends}
use Rattle.wcv_types.specs.Tree.{firsts}
use Rattle.wcv_types.specs.Unfold.{resource_names}
use Rattle.wcv_types.specs.declared.ids.ResourceId.{ResourceId}
use Rattle.wcv_lower.specs.NewTypes.{path_or_none}
use Rattle.wcv_lower.specs.Trees.{Entries}
use Rattle.wcv_remap.specs.Map.{Map}
use Rattle.wcv_spaces.proofs.Walks.{found_holds}
use Rattle.wcv_instantiate.specs.Opening.{Paths, Replaced, more_given, names_of_resources, one_more, renumbered, to_numbers}

abbrev pub With_path : Type 0
With_path = ResourceId × List ℕ

abbrev pub resource_at : ℕ → ResourceId
resource_at k = record { index = k }

-- ## One more

pub renumbered_push : (k : ℕ) (es : Paths) (e : With_path) → renumbered k (es ++ e ∷ []) ≡ renumbered k es ++ (resource_at (k + length es), e.1) ∷ []
renumbered_push k [] e =
    let P : ℕ → Paths = λ n. (resource_at n, e.1) ∷ [] in
    let f : k ≡ k + 0 = omega arith in
    ap P f
renumbered_push k (x ∷ xs) e =
    let P : ℕ → Paths = λ n. (resource_at k, x.1) ∷ (renumbered (suc k) xs ++ (resource_at n, e.1) ∷ []) in
    let f : suc k + length xs ≡ k + suc (length xs) = omega arith in
    ap (λ (es : Paths). (resource_at k, x.1) ∷ es) (renumbered_push (suc k) xs e) ∙ ap P f

pub to_numbers_push : (k : ℕ) (es : Paths) (e : With_path) → to_numbers k (es ++ e ∷ []) ≡ to_numbers k es ++ (e.0, resource_at (k + length es)) ∷ []
to_numbers_push k [] e =
    let P : ℕ → List (ResourceId × ResourceId) = λ n. (e.0, resource_at n) ∷ [] in
    let f : k ≡ k + 0 = omega arith in
    ap P f
to_numbers_push k (x ∷ xs) e =
    let P : ℕ → List (ResourceId × ResourceId) = λ n. (x.0, resource_at k) ∷ (to_numbers (suc k) xs ++ (e.0, resource_at n) ∷ []) in
    let f : suc k + length xs ≡ k + suc (length xs) = omega arith in
    ap (λ (es : List (ResourceId × ResourceId)). (x.0, resource_at k) ∷ es) (to_numbers_push (suc k) xs e) ∙ ap P f

-- ## What is not there yet

-- a number behind them is none of theirs
pub behind_numbers : (j k : ℕ) (es : Paths) → k + length es ≤ j → lookup (same_resource (resource_at j)) (renumbered k es) ≡ None
behind_numbers j k [] h = refl
behind_numbers j k (e ∷ es) h =
    ap (λ (b : Bool). cond b (Some e.1) (lookup (same_resource (resource_at j)) (renumbered (suc k) es))) (ne_eqb j k (λ f. omega (arith, f, h))) ∙
    behind_numbers j (suc k) es (omega (arith, h))

resource_is : (q r : ResourceId) → same_resource q r ≡ true → q ≡ r
resource_is q r h = let e : q.index ≡ r.index = eqb-true q.index r.index h in ap resource_at e

differs_at : (r : ResourceId) (es : Paths) (k : ℕ) (e : With_path) → AllByRecursion (λ q. same_resource r q ≡ false) (keys_of es) → slice_get es k ≡ Some e → same_resource r e.0 ≡ false
differs_at r [] k e d g = absurd (cc)
differs_at r (x ∷ xs) zero e d g = let f : x ≡ e = some-inj g in subst (λ (y : With_path). same_resource r y.0 ≡ false) f d.0
differs_at r (x ∷ xs) (suc k) e d g = differs_at r xs k e d.1 g

other_way : (q r : ResourceId) → same_resource q r ≡ false → same_resource r q ≡ false
other_way q r h = ne_eqb r.index q.index (λ e. eqb-false q.index r.index h (sym e))

-- one is not among those before it
pub before_absent : (n k : ℕ) (es : Paths) (e : With_path) → IsDistinct same_resource (keys_of es) → slice_get es k ≡ Some e → lookup (same_resource e.0) (to_numbers n (take k es)) ≡ None
before_absent n k [] e d g = absurd (cc)
before_absent n zero (x ∷ xs) e d g = refl
before_absent n (suc k) (x ∷ xs) e d g =
    ap (λ (b : Bool). cond b (Some (resource_at n)) (lookup (same_resource e.0) (to_numbers (suc n) (take k xs))))
    (other_way x.0 e.0 (differs_at x.0 xs k e (IsDistinct-head same_resource x.0 (keys_of xs) d) g)) ∙
    before_absent (suc n) k xs e (IsDistinct-tail same_resource x.0 (keys_of xs) d) g

-- ## The loop

none_given : (a : Arena) → a ≡ more_given a 0
none_given a =
    let e : a.resources ≡ a.resources + 0 = omega arith in
    let f : a.stamps ≡ a.stamps + 0 = omega arith in
    λ j. record a { resources = e j; stamps = f j }

abbrev pub Sent_resources : Type 0
Sent_resources = List (ResourceId × ResourceId)

pub replaced_none : (a : Arena) (map : Map) → Replaced a a map map [] []
replaced_none a map = record { arena = none_given a; resources = sym (append-nil map.resources); types = refl; paths = refl }

given_twice : (a : Arena) (k : ℕ) → one_more (more_given a k) ≡ more_given a (suc k)
given_twice a k =
    let e : a.resources + k + 1 ≡ a.resources + suc k = omega arith in
    let f : a.stamps + k + 1 ≡ a.stamps + suc k = omega arith in
    λ j. record a { resources = e j; stamps = f j }

pub replaced_push : (a b c : Arena) (m map map' : Map) (es ps ps' : Paths) (e : With_path) → Replaced a b m map es ps → c ≡ one_more b → map' ≡ record map { resources = map.resources ++ (e.0, resource_at b.resources) ∷ [] } →
    ps' ≡ ps ++ (resource_at b.resources, e.1) ∷ [] → Replaced a c m map' (es ++ e ∷ []) ps'
replaced_push a b c m map map' es ps ps' e w x y z =
    let n : b.resources ≡ a.resources + length es = ap (λ (d : Arena). d.resources) w.arena in
    let l : length (es ++ e ∷ []) ≡ suc (length es) = length-append es (e ∷ []) ∙ omega arith in
    let P : Sent_resources → ℕ → Sent_resources = λ rs k. rs ++ (e.0, resource_at k) ∷ [] in
    let Q : Paths → ℕ → Paths = λ rs k. rs ++ (resource_at k, e.1) ∷ [] in
    record {
      arena = x ∙ ap one_more w.arena ∙ given_twice a (length es) ∙ ap (more_given a) (sym l);
      resources = ap (λ (m : Map). m.resources) y ∙ (λ j. P (w.resources j) (n j)) ∙ append_assoc m.resources (to_numbers a.resources es) ((e.0, resource_at (a.resources + length es)) ∷ []) ∙
          ap (λ (rs : Sent_resources). m.resources ++ rs) (sym (to_numbers_push a.resources es e));
      types = ap (λ (m : Map). m.types) y ∙ w.types;
      paths = z ∙ (λ j. Q (w.paths j) (n j)) ∙ sym (renumbered_push a.resources es e);
    }

pub replaced_next : (a b c : Arena) (m map map' : Map) (es ps ps' : Paths) (k : ℕ) (e : With_path) → slice_get es k ≡ Some e → Replaced a b m map (take k es) ps → c ≡ one_more b →
    map' ≡ record map { resources = map.resources ++ (e.0, resource_at b.resources) ∷ [] } → ps' ≡ ps ++ (resource_at b.resources, e.1) ∷ [] → Replaced a c m map' (take (k + 1) es) ps'
replaced_next a b c m map map' es ps ps' k e g w x y z =
    let s : suc k ≡ k + 1 = omega arith in
    subst (λ (xs : Paths). Replaced a c m map' xs ps') (sym (take-next es k e g) ∙ ap (λ (n : ℕ). take n es) s) (replaced_push a b c m map map' (take k es) ps ps' e w x y z)

-- what the first part of a list does not have, the rest may
pub behind_resources : (test : ResourceId → Bool) (xs ys : Sent_resources) → lookup test xs ≡ None → lookup test (xs ++ ys) ≡ lookup test ys
behind_resources test [] ys h = refl
behind_resources test (x ∷ xs) ys h = go (test x.0) h (λ f. behind_resources test xs ys f)
  where
    go : (b : Bool) → cond b (Some x.1) (lookup test xs) ≡ None → (lookup test xs ≡ None → lookup test (xs ++ ys) ≡ lookup test ys) → cond b (Some x.1) (lookup test (xs ++ ys)) ≡ lookup test ys
    go true f rest = absurd (cc)
    go false f rest = rest f

pub first_resources : (test : ResourceId → Bool) (xs ys : Sent_resources) (q : ResourceId) → lookup test xs ≡ Some q → lookup test (xs ++ ys) ≡ Some q
first_resources test [] ys q h = absurd (cc)
first_resources test (x ∷ xs) ys q h = go (test x.0) h (λ f. first_resources test xs ys q f)
  where
    go : (b : Bool) → cond b (Some x.1) (lookup test xs) ≡ Some q → (lookup test xs ≡ Some q → lookup test (xs ++ ys) ≡ Some q) → cond b (Some x.1) (lookup test (xs ++ ys)) ≡ Some q
    go true f rest = f
    go false f rest = rest f

-- what the next one needs
pub next_absent : (a b : Arena) (m map : Map) (es ps : Paths) (k : ℕ) (e : With_path) → All (λ (r : With_path). lookup (same_resource r.0) m.resources ≡ None) es → IsDistinct same_resource (keys_of es) → slice_get es k ≡ Some e → Replaced a b m map (take k es) ps →
    lookup (same_resource e.0) map.resources ≡ None
next_absent a b m map es ps k e o d g w =
    ap (λ (rs : Sent_resources). lookup (same_resource e.0) rs) w.resources ∙
    behind_resources (same_resource e.0) m.resources (to_numbers a.resources (take k es)) (found_holds (λ (r : With_path). lookup (same_resource r.0) m.resources ≡ None) es k e o g) ∙ before_absent a.resources k es e d g

pub next_fresh : (a b : Arena) (m map : Map) (es ps : Paths) → Replaced a b m map es ps → lookup (same_resource (resource_at b.resources)) ps ≡ None
next_fresh a b m map es ps w =
    let n : b.resources ≡ a.resources + length es = ap (λ (d : Arena). d.resources) w.arena in
    ap (λ (rs : Paths). lookup (same_resource (resource_at b.resources)) rs) w.paths ∙ behind_numbers b.resources a.resources es (omega (arith, n))

-- ## What is new

pub numbers_from : (k : ℕ) (es : Paths) → All (λ (r : With_path). k ≤ r.0.index) (renumbered k es)
numbers_from k es = go k k es (omega arith)
  where
    go : (j k : ℕ) (es : Paths) → j ≤ k → All (λ (r : With_path). j ≤ r.0.index) (renumbered k es)
    go j k [] h = All-nil (λ (r : With_path). j ≤ r.0.index)
    go j k (e ∷ es) h = All-cons (λ (r : With_path). j ≤ r.0.index) (resource_at k, e.1) (renumbered (suc k) es) h (go j (suc k) es (omega (arith, h)))

pub numbers_below : (k j : ℕ) (es : Paths) → k + length es ≤ j → All (λ (r : With_path). r.0.index < j) (renumbered k es)
numbers_below k j [] h = All-nil (λ (r : With_path). r.0.index < j)
numbers_below k j (e ∷ es) h =
    let l : suc k + length es ≤ j = omega (arith, h) in
    let m : k < j = omega (arith, h) in
    All-cons (λ (r : With_path). r.0.index < j) (resource_at k, e.1) (renumbered (suc k) es) m (numbers_below (suc k) j es l)

later_differ : (j k : ℕ) (es : Paths) → j < k → AllByRecursion (λ (r : ResourceId). same_resource (resource_at j) r ≡ false) (firsts (renumbered k es))
later_differ j k [] h = tt
later_differ j k (e ∷ es) h = (ne_eqb j k (λ f. omega (arith, f, h)), later_differ j (suc k) es (omega (arith, h)))

pub numbers_differ : (k : ℕ) (es : Paths) → IsDistinct same_resource (firsts (renumbered k es))
unfolding IsDistinct
numbers_differ k [] = tt
numbers_differ k (e ∷ es) = (later_differ k (suc k) es (omega arith), numbers_differ (suc k) es)

-- ## What a type owns

-- each with its first path
abbrev pub pathed : Entries → List ResourceId → Paths
pathed es [] = []
pathed es (r ∷ rs) = (r, path_or_none (first_path (number r.index) es)) ∷ pathed es rs

one_found : (r : ResourceId) (o : Option (List ℕ)) → (o ≡ None → ⊥) → with_path r o ≡ (r, path_or_none o) ∷ []
one_found r None h = absurd (h refl)
one_found r (Some p) h = refl

-- where each has a path, that is all of them
pub all_found : (es : Entries) (rs : List ResourceId) → All (HasPath es) (resource_names rs) → explicit_paths rs es ≡ pathed es rs
all_found es [] h = refl
all_found es (r ∷ rs) h =
    let p : HasPath es (number r.index) = All-head (HasPath es) (number r.index) (resource_names rs) h in
    (λ j. one_found r (first_path (number r.index) es) (λ n. first_path-none (number r.index) es n p.0 p.1) j ++ all_found es rs (All-tail (HasPath es) (number r.index) (resource_names rs) h) j)

pub keys_pathed : (es : Entries) (rs : List ResourceId) → keys_of (pathed es rs) ≡ rs
keys_pathed es [] = refl
keys_pathed es (r ∷ rs) = ap (λ (qs : List ResourceId). r ∷ qs) (keys_pathed es rs)

pub names_pathed : (es : Entries) (rs : List ResourceId) → names_of_resources (pathed es rs) ≡ resource_names rs
names_pathed es [] = refl
names_pathed es (r ∷ rs) = ap (λ (qs : List Name). number r.index ∷ qs) (names_pathed es rs)

-- each has the path that is the first
pub first_found : (es : Entries) (rs : List ResourceId) → All (HasPath es) (resource_names rs) → All (λ (e : With_path). first_path (number e.0.index) es ≡ Some e.1) (pathed es rs)
first_found es [] h = All-nil (λ (e : With_path). first_path (number e.0.index) es ≡ Some e.1)
first_found es (r ∷ rs) h =
    let p : HasPath es (number r.index) = All-head (HasPath es) (number r.index) (resource_names rs) h in
    All-cons (λ (e : With_path). first_path (number e.0.index) es ≡ Some e.1) (r, path_or_none (first_path (number r.index) es)) (pathed es rs) (there (first_path (number r.index) es) (λ n. first_path-none (number r.index) es n p.0 p.1))
    (first_found es rs (All-tail (HasPath es) (number r.index) (resource_names rs) h))
  where
    there : (o : Option (List ℕ)) → (o ≡ None → ⊥) → o ≡ Some (path_or_none o)
    there None n = absurd (n refl)
    there (Some q) n = refl

-- ## The arena grows

pub given_grown : (a b : Arena) (k : ℕ) → b ≡ more_given a k → Extends a b
given_grown a b k e = subst (λ (x : Arena). Extends a x) (sym e) (numbers_more a (a.resources + k) (a.stamps + k) (omega arith) (omega arith))

pub same_grown : (a b : Arena) → b ≡ a → Extends a b
same_grown a b e = subst (λ (x : Arena). Extends a x) (sym e) (extends_refl a)

pub replaced_grown : (a b : Arena) (m map : Map) (es ps : Paths) → Replaced a b m map es ps → Extends a b
replaced_grown a b m map es ps w = given_grown a b (length es) w.arena

pub replaced_all : (a b : Arena) (m map : Map) (es ps : Paths) (k : ℕ) → length es ≤ k → Replaced a b m map (take k es) ps → Replaced a b m map es ps
replaced_all a b m map es ps k h w = subst (λ (xs : Paths). Replaced a b m map xs ps) (take_all k es h) w
