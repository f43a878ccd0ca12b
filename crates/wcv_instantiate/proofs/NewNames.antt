-- The names that an arena gives to what an instance of an instance type brings.
use Rattle.std.proofs.Common.{◌≡◌, ℕ, zero, suc, ◌+◌, ◌<◌, ◌≤◌, List, [], ◌∷◌, length, refl, sym, ◌∙◌, ap, subst, arith, Bool, true, false, ◌||◌, ◌&&◌, cond, eqb, Some, None, ⊎_elim}
use Rattle.std.specs.Prelude.{Option, Contains, option_map}
use Rattle.std.specs.List.{IsDistinct, AllByRecursion}
use Rattle.std.specs.Map.{keys_of, lookup}
use Rattle.std.proofs.lemmas.Bool.{false≢true, ne_eqb}
use Rattle.std.proofs.lemmas.List.Elements.{Contains-append_right, Contains-append_cases}
use Rattle.std.proofs.lemmas.Map.Keys.{IsDistinct-head, IsDistinct-tail}
use Rattle.wcv_core.proofs.Names.{same_place-refl}
use Rattle.wcv_core.proofs.Places.{under-refl}
use Rattle.wcv_core.specs.Names.{Name, Place, number, stamp, base, at, stamped, aside, same, same_place, member}
use Rattle.wcv_types.specs.Sets.{same_resource}
use Rattle.wcv_types.specs.Unfold.{place}
use Rattle.wcv_types.specs.declared.ids.Part.{Part}
use Rattle.wcv_types.specs.declared.ids.ResourceId.{ResourceId}
use Rattle.wcv_lower.proofs.Given.{same_origin-refl, same_origin-true, not_so}
use Rattle.wcv_lower.specs.Given.{Given, Numbers, find, named, or_by_place, has_origin, has_name, AreGiven, IsNewResource, IsNewIdentity}
use Rattle.wcv_lower.specs.Names.{Origin, again, same_origin, Under}
use Rattle.wcv_remap.proofs.Parts.{same_part-refl}
use Rattle.wcv_remap.specs.Map.{Sent, Map, same_part, resources_by}
use Rattle.wcv_instantiate.specs.Opening.{Paths, names_of_resources, to_numbers}
use Rattle.wcv_instantiate.proofs.NewResources.{With_path, resource_at}

abbrev pub Visited_list : Type 0
Visited_list = List (Part × Sent)

-- ## Names by origin

-- an entry of a list with one before it
pub behind : {X : Type 0} (x : X) (xs : List X) (y : X) → Contains xs y → Contains (x ∷ xs) y
behind x xs y c = Contains-append_right (x ∷ []) xs y c

pub first : {X : Type 0} (x : X) (xs : List X) → Contains (x ∷ xs) x
first x xs = (0, omega arith, refl)

pub cases : {X : Type 0} (P : Type 0) (x : X) (xs : List X) (y : X) → Contains (x ∷ xs) y → (x ≡ y → P) → (Contains xs y → P) → P
cases P x xs y c f g = ⊎_elim (λ (w : Contains (x ∷ []) y). f (one w)) (λ (w : Contains xs y). g w) (Contains-append_cases (x ∷ []) xs y c)
  where
    one : Contains (x ∷ []) y → x ≡ y
    one (zero, h, e) = e
    one (suc k, h, e) = absurd (omega (arith, h))

has_contained : (gs : Given) (o : Origin) (x : Name) → Contains gs (o, x) → has_origin o gs ≡ true
has_contained [] o x c = absurd (omega (arith, c.1))
has_contained (g ∷ gs) o x c =
    cases ((same_origin o g.0 || has_origin o gs) ≡ true) g gs (o, x) c
    (λ e. ap (λ (b : Bool). b || has_origin o gs) (ap (same_origin o) (ap (λ (z : Origin × Name). z.0) e) ∙ same_origin-refl o))
    (λ d. let t : has_origin o gs ≡ true = has_contained gs o x d in grind (arith))

-- what an origin is given is found
pub found : (New : Name → Type 0) (In : Place → Type 0) (gs : Given) (o : Origin) (x : Name) → AreGiven New In gs → Contains gs (o, x) → find gs o ≡ Some x
found New In [] o x a c = absurd (omega (arith, c.1))
found New In (g ∷ gs) o x a c =
    cases (find (g ∷ gs) o ≡ Some x) g gs (o, x) c
    (λ e. ap (λ (b : Bool). cond b (Some g.1) (find gs o)) (ap (same_origin o) (ap (λ (z : Origin × Name). z.0) e) ∙ same_origin-refl o) ∙ ap (λ (z : Origin × Name). Some z.1) e)
    (λ d. ap (λ (b : Bool). cond b (Some g.1) (find gs o))
    (not_so (same_origin o g.0) (λ t. false≢true (sym a.3 ∙ ap (λ (q : Origin). has_origin q gs) (sym (same_origin-true o g.0 t)) ∙ has_contained gs o x d))) ∙ found New In gs o x a.5 d)

pub called : (gs : Given) (o : Origin) (x : Name) → find gs o ≡ Some x → named gs o ≡ x
called gs o x e = ap (or_by_place o) e

-- ## Resources

-- each at that place has the name of its number
abbrev pub numbered : Place → ℕ → Paths → Given
numbered p k [] = []
numbered p k (e ∷ es) = (again p (number e.0.index), number k) ∷ numbered p (suc k) es

module _ (p : Place) where
  again_other : (i j : ℕ) → eqb i j ≡ false → same_origin (again p (number i)) (again p (number j)) ≡ false
  again_other i j e = ap (λ (b : Bool). same_place p p && b) e ∙ and_false (same_place p p)
    where
      and_false : (b : Bool) → (b && false) ≡ false
      and_false true = refl
      and_false false = refl

  origin_absent : (i k : ℕ) (es : Paths) → AllByRecursion (λ (r : ResourceId). same_resource (resource_at i) r ≡ false) (keys_of es) → has_origin (again p (number i)) (numbered p k es) ≡ false
  origin_absent i k [] h = refl
  origin_absent i k (e ∷ es) h = ap (λ (b : Bool). b || has_origin (again p (number i)) (numbered p (suc k) es)) (again_other i e.0.index h.0) ∙ origin_absent i (suc k) es h.1

  name_absent : (i k : ℕ) (es : Paths) → i < k → has_name (number i) (numbered p k es) ≡ false
  name_absent i k [] h = refl
  name_absent i k (e ∷ es) h = ap (λ (b : Bool). b || has_name (number i) (numbered p (suc k) es)) (ne_eqb i k (λ f. omega (arith, f, h))) ∙ name_absent i (suc k) es (omega (arith, h))

  pub resources_given : (a b : Numbers) (k : ℕ) (es : Paths) → a.resources ≤ k → k + length es ≤ b.resources → ((e : With_path) → Contains es e → e.0.index < a.resources) → IsDistinct same_resource (keys_of es) →
      AreGiven (IsNewResource a b) (Under p) (numbered p k es)
  resources_given a b k [] h l old d = tt
  resources_given a b k (e ∷ es) h l old d =
      let o : e.0.index < a.resources = old e (first e es) in
      let l' : suc k + length es ≤ b.resources = omega (arith, l) in (
        (h, omega (arith, l')),
        under-refl p,
        omega (arith, o, h),
        origin_absent e.0.index (suc k) es (IsDistinct-head same_resource e.0 (keys_of es) d),
        name_absent k (suc k) es (omega arith),
        resources_given a b (suc k) es (omega (arith, h)) l' (λ x c. old x (behind e es x c)) (IsDistinct-tail same_resource e.0 (keys_of es) d),
      )

  -- a number has the name of what comes in its place
  one_step : (b s : Bool) (o : Origin) (k : ℕ) (q : Bool) (f : Option Name) (l : Option ResourceId) → s ≡ true → cond q (Some (or_by_place o f)) None ≡ option_map (λ (r : ResourceId). number r.index) l →
      cond (b || q) (Some (or_by_place o (cond (s && b) (Some (number k)) f))) None ≡ option_map (λ (r : ResourceId). number r.index) (cond b (Some (resource_at k)) l)
  one_step true true o k q f l e rest = refl
  one_step false true o k q f l e rest = rest
  one_step b false o k q f l e rest = absurd (false≢true e)

  numbers_called : (j k : ℕ) (es : Paths) →
      cond (member (number j) (names_of_resources es)) (Some (named (numbered p k es) (again p (number j)))) None ≡ option_map (λ (r : ResourceId). number r.index) (lookup (same_resource (resource_at j)) (to_numbers k es))
  numbers_called j k [] = refl
  numbers_called j k (e ∷ es) =
      one_step (eqb j e.0.index) (same_place p p) (again p (number j)) k (member (number j) (names_of_resources es)) (find (numbered p (suc k) es) (again p (number j))) (lookup (same_resource (resource_at j)) (to_numbers (suc k) es)) (same_place-refl p)
      (numbers_called j (suc k) es)

  no_number : (r : Name) (es : Paths) → ((j : ℕ) → same r (number j) ≡ false) → member r (names_of_resources es) ≡ false
  no_number r [] h = refl
  no_number r (e ∷ es) h = ap (λ (b : Bool). b || member r (names_of_resources es)) (h e.0.index) ∙ no_number r es h

  not_owned : (r : Name) (k : ℕ) (es : Paths) → ((j : ℕ) → same r (number j) ≡ false) → cond (member r (names_of_resources es)) (Some (named (numbered p k es) (again p r))) None ≡ None
  not_owned r k es h = ap (λ (b : Bool). cond {A = Option Name} b (Some (named (numbered p k es) (again p r))) None) (no_number r es h)

  -- so they go where the map has them go
  pub resources_called : (k : ℕ) (es : Paths) (map : Map) (r : Name) → map.resources ≡ to_numbers k es → cond (member r (names_of_resources es)) (Some (named (numbered p k es) (again p r))) None ≡ resources_by map r
  resources_called k es map (number j) e = numbers_called j k es ∙ ap (λ (rs : List (ResourceId × ResourceId)). option_map (λ (r : ResourceId). number r.index) (lookup (same_resource (resource_at j)) rs)) (sym e)
  resources_called k es map (stamp n) e = not_owned (stamp n) k es (λ j. refl)
  resources_called k es map (base q) e = not_owned (base q) k es (λ j. refl)
  resources_called k es map (at q x) e = not_owned (at q x) k es (λ j. refl)
  resources_called k es map (stamped q) e = not_owned (stamped q) k es (λ j. refl)
  resources_called k es map (aside x) e = not_owned (aside x) k es (λ j. refl)

-- ## Nodes

-- what became another has its name at that place
abbrev pub remade_if : Place → Bool → Part × Sent → Given → Given
remade_if p true e gs = gs
remade_if p false e gs = (again p (number (place e.0)), number (place e.1.to)) ∷ gs

abbrev pub remade : Place → Visited_list → Given
remade p [] = []
remade p (e ∷ es) = remade_if p (same_part e.0 e.1.to) e (remade p es)

-- it was made again as a new node, behind its own place
pub record IsNewer (a b : Numbers) (e : Part × Sent) : Type 0 where
  pub after : place e.0 < place e.1.to
  pub new : a.nodes ≤ place e.1.to
  pub below : place e.1.to < b.nodes

-- of those that became others, no two stood at one place, or became one
pub record AreRemade (a b : Numbers) (es : Visited_list) : Type 0 where
  pub newer : (e : Part × Sent) → Contains es e → same_part e.0 e.1.to ≡ false → IsNewer a b e
  pub one_place : (e f : Part × Sent) → Contains es e → Contains es f → same_part e.0 e.1.to ≡ false → same_part f.0 f.1.to ≡ false → place e.0 ≡ place f.0 → e.0 ≡ f.0
  pub one_made : (e f : Part × Sent) → Contains es e → Contains es f → same_part e.0 e.1.to ≡ false → same_part f.0 f.1.to ≡ false → place e.1.to ≡ place f.1.to → e.0 ≡ f.0

rest_remade : (a b : Numbers) (x : Part × Sent) (es : Visited_list) → AreRemade a b (x ∷ es) → AreRemade a b es
rest_remade a b x es w = record {
  newer = λ e c n. w.newer e (behind x es e c) n;
  one_place = λ e f c d n k h. w.one_place e f (behind x es e c) (behind x es f d) n k h;
  one_made = λ e f c d n k h. w.one_made e f (behind x es e c) (behind x es f d) n k h;
}

key_differs : (q : Part) (es : Visited_list) (f : Part × Sent) → AllByRecursion (λ (r : Part). same_part q r ≡ false) (keys_of es) → Contains es f → q ≡ f.0 → ⊥
key_differs q [] f h c e = absurd (omega (arith, c.1))
key_differs q (x ∷ xs) f h c e =
    cases ⊥ x xs f c (λ g. false≢true (sym h.0 ∙ ap (same_part q) (ap (λ (z : Part × Sent). z.0) g ∙ sym e) ∙ same_part-refl q)) (λ d. key_differs q xs f h.1 d e)

module _ (p : Place) where
  -- no other is made of what stood there
  pub no_origin_at : (i : ℕ) (es : Visited_list) → ((f : Part × Sent) → Contains es f → same_part f.0 f.1.to ≡ false → i ≡ place f.0 → ⊥) → has_origin (again p (number i)) (remade p es) ≡ false
  no_origin_at i [] h = refl
  no_origin_at i (e ∷ es) h = go (same_part e.0 e.1.to) refl (no_origin_at i es (λ f c. h f (behind e es f c)))
    where
      go : (b : Bool) → same_part e.0 e.1.to ≡ b → has_origin (again p (number i)) (remade p es) ≡ false → has_origin (again p (number i)) (remade_if p b e (remade p es)) ≡ false
      go true s rest = rest
      go false s rest = ap (λ (b : Bool). b || has_origin (again p (number i)) (remade p es)) (again_other p i (place e.0) (ne_eqb i (place e.0) (h e (first e es) s))) ∙ rest

  -- no other became that
  pub no_name_at : (i : ℕ) (es : Visited_list) → ((f : Part × Sent) → Contains es f → same_part f.0 f.1.to ≡ false → i ≡ place f.1.to → ⊥) → has_name (number i) (remade p es) ≡ false
  no_name_at i [] h = refl
  no_name_at i (e ∷ es) h = go (same_part e.0 e.1.to) refl (no_name_at i es (λ f c. h f (behind e es f c)))
    where
      go : (b : Bool) → same_part e.0 e.1.to ≡ b → has_name (number i) (remade p es) ≡ false → has_name (number i) (remade_if p b e (remade p es)) ≡ false
      go true s rest = rest
      go false s rest = ap (λ (b : Bool). b || has_name (number i) (remade p es)) (ne_eqb i (place e.1.to) (h e (first e es) s)) ∙ rest

  pub nodes_given : (a b : Numbers) (es : Visited_list) → AreRemade a b es → IsDistinct same_part (keys_of es) → AreGiven (IsNewIdentity a b) (Under p) (remade p es)
  nodes_given a b [] w d = tt
  nodes_given a b (e ∷ es) w d = go (same_part e.0 e.1.to) refl (nodes_given a b es (rest_remade a b e es w) (IsDistinct-tail same_part e.0 (keys_of es) d))
    where
      differs : (f : Part × Sent) → Contains es f → e.0 ≡ f.0 → ⊥
      differs f c = key_differs e.0 es f (IsDistinct-head same_part e.0 (keys_of es) d) c

      go : (b' : Bool) → same_part e.0 e.1.to ≡ b' → AreGiven (IsNewIdentity a b) (Under p) (remade p es) → AreGiven (IsNewIdentity a b) (Under p) (remade_if p b' e (remade p es))
      go true s rest = rest
      go false s rest =
          let n : IsNewer a b e = w.newer e (first e es) s in (
            (n.new, n.below),
            under-refl p,
            n.after,
            no_origin_at (place e.0) es (λ f c k h. differs f c (w.one_place e f (first e es) (behind e es f c) s k h)),
            no_name_at (place e.1.to) es (λ f c k h. differs f c (w.one_made e f (first e es) (behind e es f c) s k h)),
            rest,
          )

  pub remade_contains : (es : Visited_list) (f : Part × Sent) → Contains es f → same_part f.0 f.1.to ≡ false → Contains (remade p es) (again p (number (place f.0)), number (place f.1.to))
  remade_contains [] f c n = absurd (omega (arith, c.1))
  remade_contains (e ∷ es) f c n =
      cases (Contains (remade p (e ∷ es)) (again p (number (place f.0)), number (place f.1.to))) e es f c
      (λ g. go (same_part e.0 e.1.to) (ap (λ (z : Part × Sent). same_part z.0 z.1.to) g) g)
      (λ d. later (same_part e.0 e.1.to) (remade_contains es f d n))
    where
      go : (b : Bool) → b ≡ same_part f.0 f.1.to → e ≡ f → Contains (remade_if p b e (remade p es)) (again p (number (place f.0)), number (place f.1.to))
      go true s g = absurd (false≢true (sym n ∙ sym s))
      go false s g =
          subst (λ (z : Part × Sent). Contains (remade_if p false e (remade p es)) (again p (number (place z.0)), number (place z.1.to))) g (first (again p (number (place e.0)), number (place e.1.to)) (remade p es))

      later : (b : Bool) → Contains (remade p es) (again p (number (place f.0)), number (place f.1.to)) → Contains (remade_if p b e (remade p es)) (again p (number (place f.0)), number (place f.1.to))
      later true c = c
      later false c = behind (again p (number (place e.0)), number (place e.1.to)) (remade p es) (again p (number (place f.0)), number (place f.1.to)) c
