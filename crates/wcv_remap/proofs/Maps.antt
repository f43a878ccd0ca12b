-- Maps that grow over arenas that grow.
use Rattle.std.proofs.Common.{◌≡◌, ℕ, zero, suc, ◌<◌, ◌≤◌, List, [], ◌∷◌, ◌++◌, length, refl, sym, ◌∙◌, ap, subst, arith, Bool, true, false, cond, ⊎_elim, append-nil, append_assoc, get_or}
use Rattle.std.specs.Prelude.{Option, Some, None, Contains}
use Rattle.std.specs.Map.{lookup}
use Rattle.std.proofs.lemmas.List.Elements.{Contains-append_right, Contains-append_left, Contains-append_cases, Contains-push_cases}
use Rattle.std.proofs.lemmas.Map.Views.{Contains-from_lookup}
use Rattle.wcv_types.proofs.Grown.{stands_more, same_tree}
use Rattle.wcv_types.specs.Arena.{Arena}
use Rattle.wcv_types.specs.Replacing.{Replacement, changed, replaced}
use Rattle.wcv_types.specs.Standing.{Stands, Extends, identity_of}
use Rattle.wcv_types.specs.Unfold.{rank}
use Rattle.wcv_types.specs.declared.ids.Part.{Part}
use Rattle.wcv_types.specs.declared.ids.ResourceId.{ResourceId}
use Rattle.wcv_remap.specs.Hygiene.{Hygienic}
use Rattle.wcv_remap.specs.Map.{Sent, Map, same_part, is_type, entry, resources_by}
use Rattle.wcv_remap.specs.Remap.{EntryServed, NotGiven, Serves, Becomes, Right, Sound, HygienicAt, Visited, Visits, Each}
use Rattle.wcv_remap.proofs.Parts.{same_part-true, same_part-refl, one_identity, type_identity}

abbrev pub Entries : Type 0
Entries = List (Part × Sent)

-- ## Visits

pub visits_none : (P : Part → Type 0) (o b : ℕ) (map : Map) → Visits P o b map map
visits_none P o b map = record { more = []; types = sym (append-nil map.types); resources = refl; visited = λ q k c. absurd (omega (arith, c.1)) }

pub visits_more : {P Q : Part → Type 0} (n o a b : ℕ) (map map' : Map) → o ≤ n → a ≤ b → ((q : Part) → P q → Q q) → Visits P n a map map' → Visits Q o b map map'
visits_more n o a b map map' g h f e = record {
  more = e.more;
  types = e.types;
  resources = e.resources;
  visited = λ q k c. let v = e.visited q k c in record { kept = v.kept; before = omega (arith, h, v.before); fresh = λ d. omega (arith, g, v.fresh d); reached = f q v.reached };
}

pub visits_both : {P : Part → Type 0} {k : ℕ} (b : ℕ) (m n o : Map) → Visits P k b m n → Visits P k b n o → Visits P k b m o
visits_both b m n o e f = record {
  more = e.more ++ f.more;
  types = f.types ∙ ap (λ (es : Entries). es ++ f.more) e.types ∙ append_assoc m.types e.more f.more;
  resources = f.resources ∙ e.resources;
  visited = λ q k c. ⊎_elim (λ (w : Contains e.more (q, k)). e.visited q k w) (λ (w : Contains f.more (q, k)). f.visited q k w) (Contains-append_cases e.more f.more (q, k) c);
}

-- ## Entries

pub lookup-append_none : (q : Part) (es more : Entries) → lookup (same_part q) es ≡ None → lookup (same_part q) (es ++ more) ≡ lookup (same_part q) more
lookup-append_none q [] more h = refl
lookup-append_none q (e ∷ es) more h = go (same_part q e.0) refl (lookup-append_none q es more)
  where
    go : (b : Bool) → same_part q e.0 ≡ b → (lookup (same_part q) es ≡ None → lookup (same_part q) (es ++ more) ≡ lookup (same_part q) more) →
        cond (same_part q e.0) (Some e.1) (lookup (same_part q) (es ++ more)) ≡ lookup (same_part q) more
    go true t f =
        let w : lookup (same_part q) (e ∷ es) ≡ Some e.1 = rw t refl in
        let v : Some e.1 ≡ None = sym w ∙ h in
        cc
    go false t f = let w : lookup (same_part q) (e ∷ es) ≡ lookup (same_part q) es = rw t refl in rw t (f (sym w ∙ h))

pub entry_contains : (map : Map) (q : Part) (k : Sent) → entry map q ≡ Some k → Contains map.types (q, k)
entry_contains map q k e = Contains-from_lookup same_part-true q k map.types e

absent_contains : (es : Entries) (q : Part) (e : Sent) (k : ℕ) → k < length es → get_or es k (q, e) ≡ (q, e) → lookup (same_part q) es ≡ None → ⊥
absent_contains [] q e k h g n = absurd (omega (arith, h))
absent_contains (x ∷ es) q e zero h g n =
    let f : x.0 ≡ q = ap (λ (z : Part × Sent). z.0) g in
    let t : same_part q x.0 ≡ true = ap (same_part q) f ∙ same_part-refl q in
    let w : lookup (same_part q) (x ∷ es) ≡ Some x.1 = rw t refl in
    let v : Some x.1 ≡ None = sym w ∙ n in
    cc
absent_contains (x ∷ es) q e (suc k) h g n = go (same_part q x.0) refl (absent_contains es q e k (omega (arith, h)) g)
  where
    go : (b : Bool) → same_part q x.0 ≡ b → (lookup (same_part q) es ≡ None → ⊥) → ⊥
    go true t f =
        let w : lookup (same_part q) (x ∷ es) ≡ Some x.1 = rw t refl in
        let v : Some x.1 ≡ None = sym w ∙ n in
        cc
    go false t f =
        let w : lookup (same_part q) (x ∷ es) ≡ lookup (same_part q) es = rw t refl in
        f (sym w ∙ n)

-- what has no entry is no key
pub no_entry : (map : Map) (q : Part) (k : Sent) → entry map q ≡ None → Contains map.types (q, k) → ⊥
no_entry map q k n c = absent_contains map.types q k c.0 c.1 c.2 n

-- an older entry is one of a map that visited more
pub old_contains : {P : Part → Type 0} {o : ℕ} (b : ℕ) (map map' : Map) (e : Part × Sent) → Visits P o b map map' → Contains map.types e → Contains map'.types e
old_contains b map map' e x c = subst (λ (es : Entries). Contains es e) (sym x.types) (Contains-append_left map.types x.more e c)

-- a given entry is an older one
pub given_old : {P : Part → Type 0} {o : ℕ} (b : ℕ) (map map' : Map) (q : Part) (s : Sent) → Visits P o b map map' → Contains map'.types (q, s) → s.given ≡ true → Contains map.types (q, s)
given_old b map map' q s x c g =
    ⊎_elim (λ (w : Contains map.types (q, s)). w) (λ (w : Contains x.more (q, s)). absurd (no (sym g ∙ (x.visited q s w).kept)))
    (Contains-append_cases map.types x.more (q, s) (subst (λ (es : Entries). Contains es (q, s)) x.types c))
  where
    no : true ≡ false → ⊥
    no e = cc

-- what stands under an identity and has no entry is not given
pub not_given : (a : Arena) (map : Map) (q : Part) → Sound a map → Stands a q → is_type q ≡ true → entry map q ≡ None → NotGiven map (identity_of q)
not_given a map q snd st t n r s c g e =
    let f : r ≡ q = one_identity a r q (snd.sends r s c).stands st (snd.sends r s c).inside (type_identity q t) e in
    no_entry map q s n (subst (λ (x : Part). Contains map.types (x, s)) f c)

-- ## Later maps

-- an older map serves what a later one serves
pub serves_earlier : {P : Part → Type 0} {o : ℕ} (a b : Arena) (k : ℕ) (map map' : Map) (m : Replacement) → Sound a map → Extends a b → Visits P o k map map' → Serves b map' m → Serves a map m
serves_earlier a b k map map' m snd g x s = record {
  resources = λ r. s.resources r ∙ ap (λ (rs : List (ResourceId × ResourceId)). resources_by (record { resources = rs; types = map.types }) r) x.resources;
  entries = λ q e c. old q e.given e.to (snd.sends q e c).goes (s.entries q e (old_contains k map map' (q, e) x c));
  others = λ i n. s.others i (λ q e c h. n q e (given_old k map map' q e x c h) h);
}
  where
    old : (q : Part) (g : Bool) (to : Part) → Stands a to → EntryServed b m q g to → EntryServed a m q g to
    old q true to h w = w ∙ ap Some (same_tree a b to g h)
    old q false to h w = w

pub right_later : {P : Part → Type 0} {o : ℕ} (a b : Arena) (k : ℕ) (map map' : Map) (q to : Part) → Sound a map → Extends a b → Visits P o k map map' → Stands a q → Right a map q to → Right b map' q to
right_later a b k map map' q to snd g x st r = record {
  stands = stands_more a b to g r.stands;
  of_sort = r.of_sort;
  becomes = λ m s. let w : Becomes m a q to = r.becomes m (serves_earlier a b k map map' m snd g x s) in
      record {
        tree = same_tree a b to g r.stands ∙ w.tree ∙ ap (replaced m) (sym (same_tree a b q g st));
        another = ap (changed m) (same_tree a b q g st) ∙ w.another;
      };
}

pub each_later : {P : Part → Type 0} {o : ℕ} (a b : Arena) (k : ℕ) (map map' : Map) (qs tos : List Part) → Sound a map → Extends a b → Visits P o k map map' → ((q : Part) → Contains qs q → Stands a q) → Each (Right a map) qs tos → Each (Right b map') qs tos
each_later a b k map map' [] [] snd g x st e = tt
each_later a b k map map' (q ∷ qs) (to ∷ tos) snd g x st e =
    (right_later a b k map map' q to snd g x (st q (0, omega arith, refl)) e.0, each_later a b k map map' qs tos snd g x (λ r c. st r (Contains-append_right (q ∷ []) qs r c)) e.1)
each_later a b k map map' [] (to ∷ tos) snd g x st e = absurd e
each_later a b k map map' (q ∷ qs) [] snd g x st e = absurd e

pub each_push : {X Y : Type 0} (R : X → Y → Type 0) (xs : List X) (ys : List Y) (x : X) (y : Y) → Each R xs ys → R x y → Each R (xs ++ x ∷ []) (ys ++ y ∷ [])
each_push R [] [] x y e r = (r, tt)
each_push R (a ∷ xs) (b ∷ ys) x y e r = (e.0, each_push R xs ys x y e.1 r)
each_push R [] (b ∷ ys) x y e r = absurd e
each_push R (a ∷ xs) [] x y e r = absurd e

pub hygienic_later : {P : Part → Type 0} {o : ℕ} (a b : Arena) (k : ℕ) (map map' : Map) (q : Part) → Sound a map → Extends a b → Visits P o k map map' → Stands a q → HygienicAt a map q → HygienicAt b map' q
hygienic_later a b k map map' q snd g x st h m s =
    subst (Hygienic m) (sym (same_tree a b q g st)) (h m (serves_earlier a b k map map' m snd g x s))

-- ## One more visited node

abbrev pub visited_entry : Part → Part → Part × Sent
visited_entry q to = (q, record { to = to; given = false })

abbrev pub with_visited : Map → Part → Part → Map
with_visited map q to = record { resources = map.resources; types = map.types ++ visited_entry q to ∷ [] }

pub visits_one : (P : Part → Type 0) (map : Map) (q to : Part) (o b : ℕ) → rank q < b → (same_part q to ≡ false → o < rank to) → P q → Visits P o b map (with_visited map q to)
visits_one P map q to o b h g pq = record {
  more = visited_entry q to ∷ [];
  types = refl;
  resources = refl;
  visited = λ r k c. ⊎_elim (λ (w : Contains {X = Part × Sent} [] (r, k)). absurd (omega (arith, w.1))) (λ (w : visited_entry q to ≡ (r, k)). subst (λ (z : Part × Sent). Visited P o b z.0 z.1) w (record { kept = refl; before = h; fresh = g; reached = pq })) (Contains-push_cases [] (visited_entry q to) (r, k) c);
}

-- a node that has no entry has none while only nodes of lower ranks were visited
pub still_none : {P : Part → Type 0} {o : ℕ} (map map' : Map) (q : Part) → Visits P o (rank q) map map' → entry map q ≡ None → entry map' q ≡ None
still_none map map' q x n = ap (lookup (same_part q)) x.types ∙ lookup-append_none q map.types x.more n ∙ go (lookup (same_part q) x.more) refl
  where
    go : (o : Option Sent) → lookup (same_part q) x.more ≡ o → o ≡ None
    go None e = refl
    go (Some w) e = let c : Contains x.more (q, w) = Contains-from_lookup same_part-true q w x.more e in absurd (omega (arith, (x.visited q w c).before))
