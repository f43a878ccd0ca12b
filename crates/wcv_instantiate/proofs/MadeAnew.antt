-- An instance of an instance type, from what the calls leave.
use Rattle.std.proofs.Common.{◌≡◌, ℕ, suc, ◌+◌, ◌<◌, ◌≤◌, List, [], ◌∷◌, ◌++◌, length, map, refl, sym, ◌∙◌, ap, subst, arith, Bool, true, false, ◌||◌, cond, eqb, Some, None, All}
use Rattle.std.specs.Prelude.{Option, Contains, option_map}
use Rattle.std.specs.List.{IsDistinct}
use Rattle.std.specs.Map.{keys_of, lookup}
use Rattle.std.proofs.lemmas.Bool.{false≢true, ne_eqb, eq-eqb}
use Rattle.std.proofs.lemmas.List.Elements.{All-contains, All-contains_itself, All-weaker, All-nil, All-cons, All-head, All-tail}
use Rattle.wcv_core.specs.Names.{Name, Place, number, stamp, base, at, stamped, aside, same, member}
use Rattle.wcv_core.proofs.Places.{under-refl}
use Rattle.wcv_types.proofs.FirstPath.{first_path-leads}
use Rattle.wcv_types.proofs.Grown.{stands_rank}
use Rattle.wcv_types.specs.Arena.{Arena}
use Rattle.wcv_types.specs.ComponentTrees.{resource_path}
use Rattle.wcv_types.specs.Entities.{entity_slot, entity_tree, entry_trees, EntryStands}
use Rattle.wcv_types.specs.FirstPath.{first_path}
use Rattle.wcv_types.specs.Given.{GaveResource, GaveIdentity, AllNamesGiven}
use Rattle.wcv_types.specs.Identity.{Identity}
use Rattle.wcv_types.specs.Paths.{PathLeadsTo}
use Rattle.wcv_types.specs.Rename.{EachName, EachNameIn}
use Rattle.wcv_types.specs.Replacing.{Replacement, changed_in, replaced, replaced_in}
use Rattle.wcv_types.specs.Sets.{same_resource}
use Rattle.wcv_types.specs.Standing.{Extends, Stands}
use Rattle.wcv_types.specs.Tree.{instance, instance_type, node, Parts, none, entries, export, exports, exports_in, firsts, owned}
use Rattle.wcv_types.specs.Unfold.{Type_tree, rank, place, tree_at, trees}
use Rattle.wcv_types.specs.declared.ids.ComponentInstanceTypeId.{ComponentInstanceTypeId}
use Rattle.wcv_types.specs.declared.ids.Part.{Part}
use Rattle.wcv_types.specs.declared.ids.Part.TheVariants as p
use Rattle.wcv_types.specs.declared.ids.ResourceId.{ResourceId}
use Rattle.wcv_lower.proofs.InstancePaths.{instance_leads}
use Rattle.wcv_lower.specs.Given.{GivenNames, names_of, AreGiven, IsNewResource, IsNewIdentity}
use Rattle.wcv_lower.specs.Names.{Origin, Names, again, Under}
use Rattle.wcv_lower.specs.NewTypes.{owned_anew, instance_tree, instance_resources, path_or_none}
use Rattle.wcv_lower.specs.Owned.{OwnsApart, OwnsNot, OwnsNotIn}
use Rattle.wcv_lower.specs.Trees.{Entries}
use Rattle.wcv_remap.proofs.Keeping.{longer}
use Rattle.wcv_remap.proofs.Parts.{node_rank, one_place}
use Rattle.wcv_remap.proofs.Sparing.{nothing_given, sparing_hygienic}
use Rattle.wcv_remap.proofs.Starting.{sound_new}
use Rattle.wcv_remap.specs.Entities.{EntityHygienic}
use Rattle.wcv_remap.specs.Hygiene.{Hygienic}
use Rattle.wcv_remap.specs.Map.{Sent, Map, same_part, resource_to, resources_by}
use Rattle.wcv_remap.specs.Remap.{EntryServed, Serves, Sound, Visits, Visited, Each}
use Rattle.wcv_instantiate.proofs.ExportsAnew.{Item, exports_are, slot_more}
use Rattle.wcv_instantiate.proofs.Mentioning.{path_changed, new_unowned_in, spares_own}
use Rattle.wcv_instantiate.proofs.NewNames.{Visited_list, behind, first, cases, found, called, numbered, resources_given, resources_called, remade, AreRemade, no_origin_at, no_name_at, nodes_given, remade_contains}
use Rattle.wcv_instantiate.proofs.NewResources.{With_path, resource_at, numbers_from, numbers_below, numbers_differ}
use Rattle.wcv_instantiate.specs.Instances.{InstanceMade}
use Rattle.wcv_instantiate.specs.Opening.{Items, Paths, Anything, EntryBecomes, ExportsRemapped, InstancePushed, IsOpened, Replaced, is_empty, names_of_resources, owns_none, renumbered, to_numbers}
use Rattle.wcv_spaces.specs.Promises.{numbers_of}
use Rattle.wcv_instantiate.specs.declared.instances.Opened.{Opened}

-- ## What the type owns

pub exports_read : (es : Entries) → exports_in (entries {R = Name} {I = Name} export es none) ≡ es
exports_read [] = refl
exports_read (e ∷ es) = ap (λ (xs : Entries). e ∷ xs) (exports_read es)

some_owned : (own : Paths) → is_empty (names_of_resources own) ≡ false → (e : With_path) × Contains own e
some_owned [] h = absurd (false≢true (sym h))
some_owned (e ∷ es) h = (e, first e es)

pub is_member : (own : Paths) (e : With_path) → Contains own e → member (number e.0.index) (names_of_resources own) ≡ true
is_member [] e c = absurd (omega (arith, c.1))
is_member (x ∷ xs) e c =
    cases ((eqb e.0.index x.0.index || member (number e.0.index) (names_of_resources xs)) ≡ true) x xs e c
    (λ f. ap (λ (b : Bool). b || member (number e.0.index) (names_of_resources xs)) (eq-eqb e.0.index x.0.index (ap (λ (y : With_path). y.0.index) (sym f))))
    (λ d. let t : member (number e.0.index) (names_of_resources xs) ≡ true = is_member xs e d in grind arith)

gave_each : (a : Arena) (own : Paths) → All (GaveResource a) (names_of_resources own) → (e : With_path) → Contains own e → e.0.index < a.resources
gave_each a [] h e c = absurd (omega (arith, c.1))
gave_each a (x ∷ xs) h e c =
    cases (e.0.index < a.resources) x xs e c (λ f. subst (λ (y : With_path). y.0.index < a.resources) f (All-head (GaveResource a) (number x.0.index) (names_of_resources xs) h))
    (λ d. gave_each a xs (All-tail (GaveResource a) (number x.0.index) (names_of_resources xs) h) e d)

-- what the map sends elsewhere is owned
sought : (k : ℕ) (own : Paths) (j : ℕ) (s : Name) → option_map (λ (r : ResourceId). number r.index) (lookup (same_resource (resource_at j)) (to_numbers k own)) ≡ Some s → member (number j) (names_of_resources own) ≡ true
sought k [] j s h = absurd (cc)
sought k (e ∷ es) j s h = go (eqb j e.0.index) h (λ w. sought (suc k) es j s w)
  where
    go : (b : Bool) → option_map (λ (r : ResourceId). number r.index) (cond b (Some (resource_at k)) (lookup (same_resource (resource_at j)) (to_numbers (suc k) es))) ≡ Some s →
        (option_map (λ (r : ResourceId). number r.index) (lookup (same_resource (resource_at j)) (to_numbers (suc k) es)) ≡ Some s → member (number j) (names_of_resources es) ≡ true) → (b || member (number j) (names_of_resources es)) ≡ true
    go true h rest = refl
    go false h rest = rest h

pub sent_owned : (k : ℕ) (own : Paths) (map : Map) (r s : Name) → map.resources ≡ to_numbers k own → resources_by map r ≡ Some s → member r (names_of_resources own) ≡ true
sent_owned k own map (number j) s e h = sought k own j s (ap (λ (rs : List (ResourceId × ResourceId)). option_map (λ (r : ResourceId). number r.index) (lookup (same_resource (resource_at j)) rs)) (sym e) ∙ h)
sent_owned k own map (stamp n) s e h = absurd (cc)
sent_owned k own map (base q) s e h = absurd (cc)
sent_owned k own map (at q x) s e h = absurd (cc)
sent_owned k own map (stamped q) s e h = absurd (cc)
sent_owned k own map (aside x) s e h = absurd (cc)

-- ## Before the exports

-- a map with nothing in it
abbrev pub no_map : Map
no_map = record { resources = []; types = [] }

pub anew : (a b : Arena) (m map : Map) (own ps : Paths) → m ≡ no_map → Replaced a b m map own ps → Replaced a b no_map map own ps
anew a b m map own ps e w = subst (λ (x : Map). Replaced a b x map own ps) e w

pub none_sent : (m : Map) (own : Paths) → m ≡ no_map → All (λ (e : With_path). resource_to m e.0 ≡ None) own
none_sent m own e = subst (λ (x : Map). All (λ (r : With_path). resource_to x r.0 ≡ None) own) (sym e) (all own)
  where
    all : (es : Paths) → All (λ (r : With_path). resource_to no_map r.0 ≡ None) es
    all [] = All-nil (λ (r : With_path). resource_to no_map r.0 ≡ None)
    all (x ∷ xs) = All-cons (λ (r : With_path). resource_to no_map r.0 ≡ None) x xs refl (all xs)

no_types : (map : Map) (q : Part) (s : Sent) → map.types ≡ [] → Contains map.types (q, s) → ⊥
no_types map q s e c = let d : Contains {X = Part × Sent} [] (q, s) = subst (λ (es : List (Part × Sent)). Contains es (q, s)) e c in absurd (omega (arith, d.1))

pub to_each : (j k : ℕ) (own : Paths) (r q : ResourceId) → k + length own ≤ j → Contains (to_numbers k own) (r, q) → q.index < j
to_each j k [] r q h c = absurd (omega (arith, c.1))
to_each j k (e ∷ es) r q h c =
    let l : suc k + length es ≤ j = omega (arith, h) in
    let n : k < j = omega (arith, h) in
    cases (q.index < j) (e.0, resource_at k) (to_numbers (suc k) es) (r, q) c (λ f. subst (λ (y : ResourceId × ResourceId). y.1.index < j) f n) (λ d. to_each j (suc k) es r q l d)

pub sound_replaced : (a b : Arena) (map : Map) (own ps : Paths) → Replaced a b no_map map own ps → Sound b map
sound_replaced a b map own ps w =
    let n : b.resources ≡ a.resources + length own = ap (λ (c : Arena). c.resources) w.arena in
    sound_new b map w.types (λ r q c. to_each b.resources a.resources own r q (omega (arith, n)) (subst (λ (rs : List (ResourceId × ResourceId)). Contains rs (r, q)) w.resources c))

entry_unowned : (r : Name) (ts : List Type_tree) (es : Items) (e : Item) → OwnsNotIn r (entries export (entry_trees ts es) none) → Contains es e → OwnsNot r (entity_tree ts e.1.ty)
entry_unowned r ts [] e h c = absurd (omega (arith, c.1))
entry_unowned r ts (x ∷ xs) e h c = cases (OwnsNot r (entity_tree ts e.1.ty)) x xs e c (λ f. subst (λ (y : Item). OwnsNot r (entity_tree ts y.1.ty)) f h.0) (λ d. entry_unowned r ts xs e h.1 d)

-- the arena with more resources has the same nodes
pub same_nodes : (a b : Arena) (map : Map) (own ps : Paths) → Replaced a b no_map map own ps → trees b.nodes ≡ trees a.nodes
same_nodes a b map own ps w = ap (λ (c : Arena). trees c.nodes) w.arena

apart_there : (a : Arena) (i : ComponentInstanceTypeId) (o : Opened) → IsOpened a i o → OwnsApart (tree_at a (p.Instance i)) → OwnsApart (instance_type (number i.index) (names_of_resources o.owned) (entry_trees (trees a.nodes) o.exports))
apart_there a i o w h = subst OwnsApart w.tree h

export_hygienic : (a b : Arena) (i : ComponentInstanceTypeId) (o : Opened) (map : Map) (ps : Paths) (e : Item) → IsOpened a i o → OwnsApart (tree_at a (p.Instance i)) → Replaced a b no_map map o.owned ps → Contains o.exports e → EntityHygienic b map e.1.ty
export_hygienic a b i o map ps e w h r c m s =
    let plain : (x : Identity) → m.nodes x ≡ None = nothing_given b map m s (λ q k d. absurd (no_types map q k r.types d)) in
    let apart : OwnsApart (instance_type (number i.index) (names_of_resources o.owned) (entry_trees (trees a.nodes) o.exports)) = apart_there a i o w h in
    let t : Type_tree = entity_tree (trees a.nodes) e.1.ty in
    subst (λ (ts : List Type_tree). Hygienic m (entity_tree ts e.1.ty)) (sym (same_nodes a b map o.owned ps r))
    (sparing_hygienic m plain t (spares_own m t (λ q x f. entry_unowned q (trees a.nodes) o.exports e (apart q (sent_owned a.resources o.owned map q x r.resources (sym (s.resources q) ∙ f))) c)))

pub exports_stand : (a b : Arena) (i : ComponentInstanceTypeId) (o : Opened) → IsOpened a i o → Extends a b → All (EntryStands b) o.exports
exports_stand a b i o w g = All-weaker (EntryStands a) (EntryStands b) (λ e h. slot_more a b (entity_slot e.1.ty) g h) o.exports w.stand

pub exports_hygienic : (a b : Arena) (i : ComponentInstanceTypeId) (o : Opened) (map : Map) (ps : Paths) → IsOpened a i o → OwnsApart (tree_at a (p.Instance i)) → Replaced a b no_map map o.owned ps → All (λ (e : Item). EntityHygienic b map e.1.ty) o.exports
exports_hygienic a b i o map ps w h r =
    All-weaker (Contains o.exports) (λ (e : Item). EntityHygienic b map e.1.ty) (λ e c. export_hygienic a b i o map ps e w h r c) o.exports (All-contains_itself o.exports)

-- ## The names

abbrev pub names_at : Arena → Arena → ComponentInstanceTypeId → Paths → Map → Place → GivenNames
names_at a b i own map q = record { resources = numbered q a.resources own; identities = (again q (number i.index), number (length b.nodes)) ∷ remade q map.types }

pub rank_place : (q : Part) → 0 < rank q → rank q ≡ suc (place q)
rank_place (p.Resource r) h = absurd (omega (arith, h))
rank_place (p.Core i) h = absurd (omega (arith, h))
rank_place (p.Defined i) h = refl
rank_place (p.Func i) h = refl
rank_place (p.Instance i) h = refl
rank_place (p.Component i) h = refl
rank_place (p.Module i) h = refl
rank_place (p.CoreInstance i) h = refl

-- what was visited for an instance type
pub record WasVisited (a b : Arena) (i : ComponentInstanceTypeId) (map : Map) (e : Part × Sent) : Type 0 where
  pub kept : e.1.given ≡ false
  pub stands : Stands b e.0
  pub goes : Stands b e.1.to
  pub node : 0 < rank e.0
  pub before : place e.0 < i.index
  pub fresh : same_part e.0 e.1.to ≡ false → length a.nodes < rank e.1.to

all_visited : (a c b : Arena) (i : ComponentInstanceTypeId) (o : Opened) (m0 m1 : Map) (ps : Paths) (ys : Items) → IsOpened a i o → Replaced a c no_map m0 o.owned ps → ExportsRemapped c b m0 m1 o.exports ys → (e : Part × Sent) → Contains m1.types e → WasVisited a b i m1 e
all_visited a c b i o m0 m1 ps ys w r x e h =
    let v : Visits Anything (length c.nodes) (suc i.index) m0 m1 = x.visits (suc i.index) (λ y d. w.before y d) in
    let these : m1.types ≡ v.more = v.types ∙ ap (λ (es : Visited_list). es ++ v.more) r.types in
    let u : Visited Anything (length c.nodes) (suc i.index) e.0 e.1 = v.visited e.0 e.1 (subst (λ (es : Visited_list). Contains es e) these h) in
    let n = x.sound.visited e.0 e.1 h u.kept in
    let k : rank e.0 ≡ suc (place e.0) = node_rank e.0 n.0 in
    let len : length c.nodes ≡ length a.nodes = ap (λ (d : Arena). length d.nodes) r.arena in
    record {
      kept = u.kept;
      stands = (x.sound.sends e.0 e.1 h).stands;
      goes = (x.sound.sends e.0 e.1 h).goes;
      node = omega (arith, k);
      before = omega (arith, k, u.before);
      fresh = λ d. omega (arith, len, u.fresh d);
    }

-- ## What is new

numbered_has : (q : Place) (k : ℕ) (own : Paths) (e : With_path) → Contains own e → (l : ℕ) × (k ≤ l) × Contains (numbered q k own) (again q (number e.0.index), number l)
numbered_has q k [] e h = absurd (omega (arith, h.1))
numbered_has q k (y ∷ ys) e h =
    cases ((l : ℕ) × (k ≤ l) × Contains (numbered q k (y ∷ ys)) (again q (number e.0.index), number l)) y ys e h
    (λ f. (k, omega arith, subst (λ (z : With_path). Contains (numbered q k (y ∷ ys)) (again q (number z.0.index), number k)) f (first (again q (number y.0.index), number k) (numbered q (suc k) ys))))
    (λ f. let v = numbered_has q (suc k) ys e f in let l : suc k ≤ v.0 = v.1 in (v.0, omega (arith, l), behind (again q (number y.0.index), number k) (numbered q (suc k) ys) (again q (number e.0.index), number v.0) v.2))

-- each resource is called by its number, and has its first path
resources_are : (q : Place) (by : Origin → Name) (es : Entries) (k : ℕ) (own : Paths) → ((o : Origin) (y : Name) → Contains (numbered q k own) (o, y) → by o ≡ y) → All (λ (e : With_path). first_path (number e.0.index) es ≡ Some e.1) own →
    map (λ (y : Name). (by (again q y), path_or_none (first_path y es))) (names_of_resources own) ≡ map resource_path (renumbered k own)
resources_are q by es k [] h w = refl
resources_are q by es k (e ∷ own) h w =
    let is : by (again q (number e.0.index)) ≡ number k = h (again q (number e.0.index)) (number k) (first (again q (number e.0.index), number k) (numbered q (suc k) own)) in
    let path : first_path (number e.0.index) es ≡ Some e.1 = All-head (λ (e : With_path). first_path (number e.0.index) es ≡ Some e.1) e own w in
    let rest = resources_are q by es (suc k) own (λ o y c. h o y (behind (again q (number e.0.index), number k) (numbered q (suc k) own) (o, y) c)) (All-tail (λ (e : With_path). first_path (number e.0.index) es ≡ Some e.1) e own w) in
    λ z. (is z, path_or_none (path z)) ∷ rest z

-- each path leads to what has the number
lead_there : (es : Entries) (k : ℕ) (own : Paths) → ((l : ℕ) (e : With_path) → Contains own e → k ≤ l → Contains (numbered [] k own) (again [] (number e.0.index), number l) → PathLeadsTo e.1 (number l) es) →
    All (λ (e : With_path). PathLeadsTo e.1 (number e.0.index) es) (renumbered k own)
lead_there es k [] h = All-nil (λ (e : With_path). PathLeadsTo e.1 (number e.0.index) es)
lead_there es k (e ∷ own) h =
    All-cons (λ (e : With_path). PathLeadsTo e.1 (number e.0.index) es) (resource_at k, e.1) (renumbered (suc k) own) (h k e (first e own) (omega arith) (first (again [] (number e.0.index), number k) (numbered [] (suc k) own)))
    (lead_there es (suc k) own (λ l f c le g. h l f (behind e own f c) (omega (arith, le)) (behind (again [] (number e.0.index), number k) (numbered [] (suc k) own) (again [] (number f.0.index), number l) g)))

-- with the same nodes before
pub each_before : (a c b : Arena) (map : Map) (xs ys : Items) → trees c.nodes ≡ trees a.nodes → Each (EntryBecomes c b map) xs ys → Each (EntryBecomes a b map) xs ys
each_before a c b map [] [] e w = tt
each_before a c b map (x ∷ xs) (y ∷ ys) e w =
    (record { named = w.0.named; stands = w.0.stands; tree = λ m s. w.0.tree m s ∙ ap (λ (ts : List Type_tree). replaced m (entity_tree ts x.1.ty)) e }, each_before a c b map xs ys e w.1)
each_before a c b map [] (y ∷ ys) e w = absurd w
each_before a c b map (x ∷ xs) [] e w = absurd w

module _ (a c b d : Arena) (i j : ComponentInstanceTypeId) (o : Opened) (m0 m1 : Map) (ps : Paths) (ys : Items) (st : Stands a (p.Instance i)) (gave : AllNamesGiven a) (own : owns_none (tree_at a (p.Instance i)) ≡ false) (w : IsOpened a i o) (g0 : Extends a c)
    (r : Replaced a c no_map m0 o.owned ps) (x : ExportsRemapped c b m0 m1 o.exports ys) (keys : IsDistinct same_part (keys_of m1.types)) (n : InstancePushed b d ys j) where
  abbrev given_names : Place → GivenNames
  given_names = names_at a b i o.owned m1

  abbrev the_exports : Entries
  the_exports = entry_trees (trees a.nodes) o.exports

  abbrev the_parts : Parts Name Name
  the_parts = entries export the_exports none

  visited : (e : Part × Sent) → Contains m1.types e → WasVisited a b i m1 e
  visited = all_visited a c b i o m0 m1 ps ys w r x

  long : length a.nodes ≤ length b.nodes
  long = let y : length a.nodes ≤ length c.nodes = longer a c g0 in let z : length c.nodes ≤ length b.nodes = longer c b x.grown in omega (arith, y, z)

  below_end : i.index < length a.nodes
  below_end = let y : suc i.index ≤ length a.nodes = stands_rank a (p.Instance i) st in omega (arith, y)

  -- ## What is given

  made_place : (e : Part × Sent) → Contains m1.types e → same_part e.0 e.1.to ≡ false → (rank e.1.to ≡ suc (place e.1.to)) × (length a.nodes ≤ place e.1.to) × (place e.1.to < length b.nodes)
  made_place e h k =
      let f : length a.nodes < rank e.1.to = (visited e h).fresh k in
      let y : rank e.1.to ≡ suc (place e.1.to) = rank_place e.1.to (omega (arith, f)) in
      let z : rank e.1.to ≤ length b.nodes = stands_rank b e.1.to (visited e h).goes in
      (y, omega (arith, y, f), omega (arith, y, z))

  are_remade : AreRemade (numbers_of a) (numbers_of d) m1.types
  are_remade = record {
    newer = λ e h k.
        let v = made_place e h k in
        let u : place e.0 < i.index = (visited e h).before in
        let l : length d.nodes ≡ suc (length b.nodes) = n.nodes in
        record { after = omega (arith, u, below_end, v.1); new = v.1; below = omega (arith, l, v.2) };
    one_place = λ e f h k s t q. one_place b e.0 f.0 (visited e h).stands (visited f k).stands (visited e h).node (visited f k).node q;
    one_made = λ e f h k s t q.
        let ve = made_place e h s in
        let vf = made_place f k t in
        let same : e.1.to ≡ f.1.to = one_place b e.1.to f.1.to (visited e h).goes (visited f k).goes (omega (arith, ve.0)) (omega (arith, vf.0)) q in
        x.sound.apart e.0 f.0 f.1.to (record { sent = e.1; there = h; kept = (visited e h).kept; goes = same; other = subst (λ (y : Part). same_part e.0 y ≡ false) same s })
        (record { sent = f.1; there = k; kept = (visited f k).kept; goes = refl; other = t });
  }

  nodes_at : (q : Place) → AreGiven (IsNewIdentity (numbers_of a) (numbers_of d)) (Under q) (given_names q).identities
  nodes_at q =
      let l : length d.nodes ≡ suc (length b.nodes) = n.nodes in (
        (long, omega (arith, l)),
        under-refl q,
        omega (arith, below_end, long),
        no_origin_at q i.index m1.types (λ f h k e. let u : place f.0 < i.index = (visited f h).before in omega (arith, u, e)),
        no_name_at q (length b.nodes) m1.types (λ f h k e. let u : place f.1.to < length b.nodes = (made_place f h k).2 in omega (arith, u, e)),
        nodes_given q (numbers_of a) (numbers_of d) m1.types are_remade keys,
      )

  head_gave : All (GaveResource a) (names_of_resources o.owned)
  head_gave = (subst (EachName (GaveResource a) (GaveIdentity a)) w.tree (gave (p.Instance i) st)).0.1

  parts_gave : EachNameIn (GaveResource a) (GaveIdentity a) the_parts
  parts_gave = (subst (EachName (GaveResource a) (GaveIdentity a)) w.tree (gave (p.Instance i) st)).1

  old_below : (e : With_path) → Contains o.owned e → e.0.index < a.resources
  old_below = gave_each a o.owned head_gave

  more : a.resources + length o.owned ≤ d.resources
  more =
      let y : c.resources ≡ a.resources + length o.owned = ap (λ (z : Arena). z.resources) r.arena in
      let z : c.resources ≤ b.resources = x.grown.resources in
      let u : d.resources ≡ b.resources = n.resources in
      omega (arith, y, z, u)

  resources_at : (q : Place) → AreGiven (IsNewResource (numbers_of a) (numbers_of d)) (Under q) (given_names q).resources
  resources_at q = resources_given q (numbers_of a) (numbers_of d) a.resources o.owned (omega arith) more old_below w.distinct

  is_called : (q : Place) (k : Origin) (y : Name) → Contains (numbered q a.resources o.owned) (k, y) → (names_of (given_names q)).resource k ≡ y
  is_called q k y h = called (numbered q a.resources o.owned) k y (found (IsNewResource (numbers_of a) (numbers_of d)) (Under q) (numbered q a.resources o.owned) k y (resources_at q) h)

  -- ## The replacement

  abbrev the_replacement : Place → Replacement
  the_replacement q = owned_anew (names_of (given_names q)) q (names_of_resources o.owned)

  mine : (q : Place) → (names_of (given_names q)).identity (again q (number i.index)) ≡ number (length b.nodes)
  mine q = called (given_names q).identities (again q (number i.index)) (number (length b.nodes)) (found (IsNewIdentity (numbers_of a) (numbers_of d)) (Under q) (given_names q).identities (again q (number i.index)) (number (length b.nodes)) (nodes_at q)
      (first (again q (number i.index), number (length b.nodes)) (remade q m1.types)))

  theirs : (q : Place) (e : Part × Sent) → Contains m1.types e → same_part e.0 e.1.to ≡ false → (names_of (given_names q)).identity (again q (number (place e.0))) ≡ number (place e.1.to)
  theirs q e h k =
      called (given_names q).identities (again q (number (place e.0))) (number (place e.1.to)) (found (IsNewIdentity (numbers_of a) (numbers_of d)) (Under q) (given_names q).identities (again q (number (place e.0))) (number (place e.1.to)) (nodes_at q)
      (behind (again q (number i.index), number (length b.nodes)) (remade q m1.types) (again q (number (place e.0)), number (place e.1.to)) (remade_contains q m1.types e h k)))

  visits_same : m1.resources ≡ to_numbers a.resources o.owned
  visits_same = (x.visits (suc i.index) (λ y z. w.before y z)).resources ∙ r.resources

  serves : (q : Place) → Serves b m1 (the_replacement q)
  serves q = record {
    resources = λ y. resources_called q a.resources o.owned m1 y visits_same;
    entries = λ e s h. entry_served e s h (visited (e, s) h).kept;
    others = λ y h. refl;
  }
    where
      by_mark : (e : Part) (g : Bool) (to : Part) → g ≡ false → (same_part e to ≡ false → (the_replacement q).again (number (place e)) ≡ number (place to)) → EntryServed b (the_replacement q) e g to
      by_mark e true to k f = absurd (false≢true (sym k))
      by_mark e false to k f = (refl, f)

      entry_served : (e : Part) (s : Sent) → Contains m1.types (e, s) → s.given ≡ false → EntryServed b (the_replacement q) e s.given s.to
      entry_served e s h k = by_mark e s.given s.to k (λ f. theirs q (e, s) h f)

  -- ## The tree

  one_goes : (q : Place) (e : With_path) → Contains o.owned e → (the_replacement q).resources (number e.0.index) ≡ Some ((names_of (given_names q)).resource (again q (number e.0.index)))
  one_goes q e h = ap (λ (y : Bool). cond {A = Option Name} y (Some ((names_of (given_names q)).resource (again q (number e.0.index)))) None) (is_member o.owned e h)

  it_changes : (q : Place) → changed_in (the_replacement q) the_parts ≡ true
  it_changes q =
      let e = some_owned o.owned (ap is_empty (ap owned (sym w.tree)) ∙ own) in
      let s : Name = (names_of (given_names q)).resource (again q (number e.0.0.index)) in
      let k = numbered_has q a.resources o.owned e.0 e.1 in
      let is : s ≡ number k.0 = is_called q (again q (number e.0.0.index)) (number k.0) k.2 in
      let old : e.0.0.index < a.resources = old_below e.0 e.1 in
      let other : same (number e.0.0.index) s ≡ false = ap (same (number e.0.0.index)) is ∙ ne_eqb e.0.0.index k.0 (λ f. omega (arith, f, old, k.1)) in
      let leads : PathLeadsTo e.0.1 (number e.0.0.index) the_exports =
      first_path-leads (number e.0.0.index) the_exports e.0.1 (All-contains (λ (y : With_path). first_path (number y.0.index) the_exports ≡ Some y.1) o.owned e.0 w.first e.1) in
      path_changed (the_replacement q) (λ y. refl) (number e.0.0.index) s (one_goes q e.0 e.1) other e.0.1 the_parts (subst (PathLeadsTo e.0.1 (number e.0.0.index)) (sym (exports_read the_exports)) leads)

  same_each : Each (EntryBecomes a b m1) o.exports ys
  same_each = each_before a c b m1 o.exports ys (same_nodes a c m0 o.owned ps r) x.each

  new_tree : (q : Place) → instance_tree (names_of (given_names q)) q (tree_at a (p.Instance i)) ≡ tree_at d (p.Instance j)
  new_tree q =
      let N : Names = names_of (given_names q) in
      let m : Replacement = the_replacement q in
      let P : Bool → Name → Parts Name Name → Type_tree = λ y k z. node (cond y (instance k []) (instance (number i.index) [])) z in
      let to : replaced_in m the_parts ≡ entries export (entry_trees (trees b.nodes) ys) none = exports_are a b m1 m o.exports ys (serves q) same_each in
      ap (instance_tree N q) w.tree ∙ (λ z. P (it_changes q z) (mine q z) (to z)) ∙ sym n.tree

  -- ## The resources

  new_resources : (q : Place) → instance_resources (names_of (given_names q)) q (tree_at a (p.Instance i)) ≡ map resource_path ps
  new_resources q =
      let N : Names = names_of (given_names q) in
      let P : Entries → List (Name × List ℕ) = λ es. map (λ (y : Name). (N.resource (again q y), path_or_none (first_path y es))) (names_of_resources o.owned) in
      ap (instance_resources N q) w.tree ∙ ap P (exports_read the_exports) ∙ resources_are q N.resource the_exports a.resources o.owned (λ k y h. is_called q k y h) w.first ∙ ap (λ (es : Paths). map resource_path es) (sym r.paths)

  all_lead : All (λ (e : With_path). PathLeadsTo e.1 (number e.0.index) (exports (tree_at d (p.Instance j)))) ps
  all_lead =
      let N : Names = names_of (given_names []) in
      subst (λ (es : Paths). All (λ (e : With_path). PathLeadsTo e.1 (number e.0.index) (exports (tree_at d (p.Instance j)))) es) (sym r.paths)
      (lead_there (exports (tree_at d (p.Instance j))) a.resources o.owned (λ k e h l f.
      let is : N.resource (again [] (number e.0.index)) ≡ number k = is_called [] (again [] (number e.0.index)) (number k) f in
      subst (λ (y : Name). PathLeadsTo e.1 y (exports (tree_at d (p.Instance j)))) is
      (subst (λ (t : Type_tree). PathLeadsTo e.1 (N.resource (again [] (number e.0.index))) (exports t)) (sym (ap (instance_tree N []) w.tree) ∙ new_tree [])
      (instance_leads N [] (number i.index) (names_of_resources o.owned) the_parts (number e.0.index) e.1 (is_member o.owned e h)
      (subst (λ (y : Name). OwnsNotIn y the_parts) (sym is) (new_unowned_in a k l the_parts parts_gave))
      (ap (first_path (number e.0.index)) (exports_read the_exports) ∙ All-contains (λ (y : With_path). first_path (number y.0.index) the_exports ≡ Some y.1) o.owned e w.first h)))))

  pub is_made : InstanceMade a d i (record { ty = j; resources = ps })
  is_made =
      let low : All (λ (e : With_path). a.resources ≤ e.0.index) ps = subst (λ (es : Paths). All (λ (e : With_path). a.resources ≤ e.0.index) es) (sym r.paths) (numbers_from a.resources o.owned) in
      let high : All (λ (e : With_path). e.0.index < d.resources) ps = subst (λ (es : Paths). All (λ (e : With_path). e.0.index < d.resources) es) (sym r.paths) (numbers_below a.resources d.resources o.owned more) in
      record {
        given_names = given_names;
        given = λ q. record { resources = resources_at q; identities = nodes_at q };
        brought = λ q z. record { entity = new_tree q z; resources = new_resources q z };
        stands = n.stands;
        alone = ap owned n.tree;
        fresh = low;
        below = high;
        distinct = subst (λ (es : Paths). IsDistinct same_resource (firsts es)) (sym r.paths) (numbers_differ a.resources o.owned);
        lead = all_lead;
        core = n.core ∙ x.core ∙ ap (λ (z : Arena). z.core) r.arena;
        same = λ e. absurd (false≢true (sym own ∙ ap is_empty e));
      }
