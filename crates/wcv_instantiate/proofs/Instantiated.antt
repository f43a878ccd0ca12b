-- An instance of a component, from what the calls leave.
use Rattle.std.proofs.Common.{◌≡◌, ℕ, suc, ◌+◌, ◌<◌, ◌≤◌, List, [], ◌∷◌, ◌++◌, length, map, refl, sym, ◌∙◌, ap, subst, arith, Bool, true, false, ◌||◌, cond, Some, None, All, inl, inr, ◌⊎◌, ⊎_elim}
use Rattle.std.specs.Prelude.{Option, Contains}
use Rattle.std.specs.List.{IsDistinct}
use Rattle.std.specs.Map.{keys_of, lookup}
use Rattle.std.proofs.lemmas.Bool.{false≢true}
use Rattle.std.proofs.lemmas.List.Elements.{All-contains, Contains-append_left, Contains-append_right, Contains-append_cases}
use Rattle.std.proofs.lemmas.Map.Keys.{IsDistinct-tail}
use Rattle.wcv_core.specs.Names.{Name, Place, number, member}
use Rattle.wcv_core.proofs.Places.{under-refl}
use Rattle.wcv_types.proofs.Grown.{extends_trans, same_tree, stands_rank}
use Rattle.wcv_types.specs.Arena.{Arena}
use Rattle.wcv_types.specs.ComponentTrees.{resource_path}
use Rattle.wcv_types.specs.Entities.{entity_tree, entry_trees}
use Rattle.wcv_types.specs.Given.{AllNamesGiven, GaveResource}
use Rattle.wcv_types.specs.Identity.{Identity, same_identity}
use Rattle.wcv_types.specs.Replacing.{Replacement, replaced}
use Rattle.wcv_types.specs.Sets.{same_resource}
use Rattle.wcv_types.specs.Standing.{Extends, Stands, identity_of}
use Rattle.wcv_types.specs.Tree.{Text, Extern_name, exports, firsts, head, imported_at, instance_type, owned}
use Rattle.wcv_types.specs.Unfold.{Type_tree, rank, place, tree_at, trees}
use Rattle.wcv_types.specs.declared.ids.ComponentInstanceTypeId.{ComponentInstanceTypeId}
use Rattle.wcv_types.specs.declared.ids.ComponentTypeId.{ComponentTypeId}
use Rattle.wcv_types.specs.declared.ids.Part.{Part}
use Rattle.wcv_types.specs.declared.ids.Part.TheVariants as p
use Rattle.wcv_types.specs.declared.ids.ResourceId.{ResourceId}
use Rattle.wcv_types.specs.declared.item_map.ComponentItem.{ComponentItem}
use Rattle.wcv_types.specs.declared.shapes.ComponentEntityType.{ComponentEntityType}
use Rattle.wcv_matching.specs.GivenTypes.{given_for}
use Rattle.wcv_matching.specs.Matching.{named_imports}
use Rattle.wcv_matching.specs.OnePass.{argument_for, made_paths}
use Rattle.wcv_matching.specs.SameTypes.{made_at}
use Rattle.wcv_lower.specs.Given.{GivenNames, Given, has_origin, names_of, AreGiven, IsNewResource, IsNewIdentity}
use Rattle.wcv_lower.specs.Instantiated.{instantiated, instantiated_resources, opened_resource, opening}
use Rattle.wcv_lower.specs.Mapped.{map_entries}
use Rattle.wcv_lower.specs.Names.{Origin, Names, introduced, again, Under}
use Rattle.wcv_lower.specs.Trees.{Entries}
use Rattle.wcv_remap.proofs.Keeping.{longer}
use Rattle.wcv_remap.proofs.Parts.{node_rank, one_place}
use Rattle.wcv_remap.specs.Map.{Sent, Map, same_part, resources_by}
use Rattle.wcv_subtype.specs.Openings.{IsOpening, named_args}
use Rattle.wcv_remap.specs.Remap.{EntryServed, NotGiven, Serves, Sound, Visits, Visited, Each}
use Rattle.wcv_instantiate.proofs.Exporter.{made_names, head_names, made_gave, each_given, first_sent, then_sent, of_list, grown_by}
use Rattle.wcv_instantiate.proofs.MadeAnew.{each_before, rank_place}
use Rattle.wcv_instantiate.proofs.NewNames.{Visited_list, behind, first, called, found, numbered, resources_given, resources_called, remade, remade_if, AreRemade, no_name_at, nodes_given, remade_contains}
use Rattle.wcv_instantiate.proofs.NewResources.{With_path, Sent_resources, resource_at, numbers_from, numbers_below, numbers_differ}
use Rattle.wcv_instantiate.specs.Instantiations.{ComponentInstanceMade, IsExporter, MayInstantiate}
use Rattle.wcv_instantiate.specs.Opening.{Items, Paths, Anything, EntryBecomes, entry_rank, ExportsRemapped, InstancePushed, Replaced, names_of_resources, renumbered, to_numbers}
use Rattle.wcv_spaces.specs.Promises.{numbers_of}
use Rattle.wcv_instantiate.specs.declared.instances.Opened.{Opened}

-- ## Lists

-- the rest of a list without repeats has none
rest_distinct : (xs ys : Visited_list) → IsDistinct same_part (keys_of (xs ++ ys)) → IsDistinct same_part (keys_of ys)
rest_distinct [] ys d = d
rest_distinct (x ∷ xs) ys d = rest_distinct xs ys (IsDistinct-tail same_part x.0 (keys_of (xs ++ ys)) d)

-- what is made again is not introduced
none_introduced : (q : Place) (es : Visited_list) → has_origin (introduced q) (remade q es) ≡ false
none_introduced q [] = refl
none_introduced q (e ∷ es) = go (same_part e.0 e.1.to) (none_introduced q es)
  where
    go : (b : Bool) → has_origin (introduced q) (remade q es) ≡ false → has_origin (introduced q) (remade_if q b e (remade q es)) ≡ false
    go true h = h
    go false h = h

-- what entries become, with their whole names
entries_are : (a b : Arena) (map : Map) (m : Replacement) (xs ys : Items) → Serves b map m → Each (EntryBecomes a b map) xs ys → map_entries (replaced m) (entry_trees (trees a.nodes) xs) ≡ entry_trees (trees b.nodes) ys
entries_are a b map m [] [] s e = refl
entries_are a b map m (x ∷ xs) (y ∷ ys) s e =
    let n = e.0.named in
    let t : entity_tree (trees b.nodes) y.1.ty ≡ replaced m (entity_tree (trees a.nodes) x.1.ty) = e.0.tree m s in
    let P : Extern_name → Type_tree → Entries → Entries = λ k u es. (k, u) ∷ es in
    λ j. P (sym n j) (sym t j) (entries_are a b map m xs ys s e.1 j)
entries_are a b map m [] (y ∷ ys) s e = absurd e
entries_are a b map m (x ∷ xs) [] s e = absurd e

-- each resource is called by its number, and keeps its path
paths_are : (q : Place) (by : Origin → Name) (k : ℕ) (own : Paths) → ((o : Origin) (y : Name) → Contains (numbered q k own) (o, y) → by o ≡ y) → map (λ (r : Name × List ℕ). (by (again q r.0), r.1)) (map resource_path own) ≡ map resource_path (renumbered k own)
paths_are q by k [] h = refl
paths_are q by k (e ∷ own) h =
    let is : by (again q (number e.0.index)) ≡ number k = h (again q (number e.0.index)) (number k) (first (again q (number e.0.index), number k) (numbered q (suc k) own)) in
    let rest = paths_are q by (suc k) own (λ o y c. h o y (behind (again q (number e.0.index), number k) (numbered q (suc k) own) (o, y) c)) in
    λ z. (is z, e.1) ∷ rest z

-- what was visited for the exports of a component
record WasVisited (a b : Arena) (i : ComponentTypeId) (e : Part × Sent) : Type 0 where
  pub kept : e.1.given ≡ false
  pub stands : Stands b e.0
  pub goes : Stands b e.1.to
  pub node : 0 < rank e.0
  pub before : place e.0 < i.index
  pub fresh : same_part e.0 e.1.to ≡ false → length a.nodes < rank e.1.to

module _ (a c b d : Arena) (i : ComponentTypeId) (j : ComponentInstanceTypeId) (args : List (Text × ComponentEntityType)) (o : Opened) (m0 m1 m2 : Map) (ps : Paths) (ys : Items) (st : Stands a (p.Component i)) (gave : AllNamesGiven a) (w : IsExporter a i o)
    (may : MayInstantiate (named_args a args) (tree_at a (p.Component i))) (opens : IsOpening a args i m0) (g0 : Extends a c) (r : Replaced a c m0 m1 o.owned ps) (x : ExportsRemapped c b m1 m2 o.exports ys) (keys : IsDistinct same_part (keys_of m2.types))
    (n : InstancePushed b d ys j) where
  abbrev comp : Type_tree
  comp = tree_at a (p.Component i)

  abbrev by_args : List (Text × Type_tree)
  by_args = named_args a args

  visits : Visits Anything (length c.nodes) (suc i.index) m1 m2
  visits = x.visits (suc i.index) (λ y h. All-contains (λ (z : Text × ComponentItem). entry_rank z < suc i.index) o.exports y w.before h)

  abbrev more : Visited_list
  more = visits.more

  abbrev given_names : Place → GivenNames
  given_names q = record { resources = numbered q a.resources o.owned; identities = (introduced q, number (length b.nodes)) ∷ remade q more }

  inside : (e : Part × Sent) → Contains more e → Contains m2.types e
  inside e h = subst (λ (es : Visited_list). Contains es e) (sym visits.types) (Contains-append_right m1.types more e h)

  visited : (e : Part × Sent) → Contains more e → WasVisited a b i e
  visited e h =
      let u : Visited Anything (length c.nodes) (suc i.index) e.0 e.1 = visits.visited e.0 e.1 h in
      let y = x.sound.visited e.0 e.1 (inside e h) u.kept in
      let k : rank e.0 ≡ suc (place e.0) = node_rank e.0 y.0 in
      let len : length c.nodes ≡ length a.nodes = ap (λ (z : Arena). length z.nodes) r.arena in
      let before : rank e.0 < suc i.index = u.before in
      record {
        kept = u.kept;
        stands = (x.sound.sends e.0 e.1 (inside e h)).stands;
        goes = (x.sound.sends e.0 e.1 (inside e h)).goes;
        node = omega (arith, k);
        before = omega (arith, k, before);
        fresh = λ z. let f : length c.nodes < rank e.1.to = u.fresh z in omega (arith, len, f);
      }

  long : length a.nodes ≤ length b.nodes
  long = let y : length a.nodes ≤ length c.nodes = longer a c g0 in let z : length c.nodes ≤ length b.nodes = longer c b x.grown in omega (arith, y, z)

  below_end : i.index < length a.nodes
  below_end = let y : suc i.index ≤ length a.nodes = stands_rank a (p.Component i) st in omega (arith, y)

  -- ## What is given

  made_place : (e : Part × Sent) → Contains more e → same_part e.0 e.1.to ≡ false → (rank e.1.to ≡ suc (place e.1.to)) × (length a.nodes ≤ place e.1.to) × (place e.1.to < length b.nodes)
  made_place e h k =
      let f : length a.nodes < rank e.1.to = (visited e h).fresh k in
      let y : rank e.1.to ≡ suc (place e.1.to) = rank_place e.1.to (omega (arith, f)) in
      let z : rank e.1.to ≤ length b.nodes = stands_rank b e.1.to (visited e h).goes in
      (y, omega (arith, y, f), omega (arith, y, z))

  are_remade : AreRemade (numbers_of a) (numbers_of d) more
  are_remade = record {
    newer = λ e h k.
        let v = made_place e h k in
        let u : place e.0 < i.index = (visited e h).before in
        let l : length d.nodes ≡ suc (length b.nodes) = n.nodes in
        record { after = omega (arith, u, below_end, v.1); new = v.1; below = omega (arith, l, v.2) };
    one_place = λ e f h k s t q. one_place b e.0 f.0 (visited e h).stands (visited f k).stands (visited e h).node (visited f k).node q;
    one_made = λ e f h k s t q.
        let ve = made_place e h s in
        let vf = made_place f k t in
        let same : e.1.to ≡ f.1.to = one_place b e.1.to f.1.to (visited e h).goes (visited f k).goes (omega (arith, ve.0)) (omega (arith, vf.0)) q in
        x.sound.apart e.0 f.0 f.1.to (record { sent = e.1; there = inside e h; kept = (visited e h).kept; goes = same; other = subst (λ (y : Part). same_part e.0 y ≡ false) same s })
        (record { sent = f.1; there = inside f k; kept = (visited f k).kept; goes = refl; other = t });
  }

  more_keys : IsDistinct same_part (keys_of more)
  more_keys = rest_distinct m1.types more (subst (λ (es : Visited_list). IsDistinct same_part (keys_of es)) visits.types keys)

  nodes_at : (q : Place) → AreGiven (IsNewIdentity (numbers_of a) (numbers_of d)) (Under q) (given_names q).identities
  nodes_at q =
      let l : length d.nodes ≡ suc (length b.nodes) = n.nodes in (
        (long, omega (arith, l)),
        under-refl q,
        tt,
        none_introduced q more,
        no_name_at q (length b.nodes) more (λ f h k e. let u : place f.1.to < length b.nodes = (made_place f h k).2 in omega (arith, u, e)),
        nodes_given q (numbers_of a) (numbers_of d) more are_remade more_keys,
      )

  old_below : (e : With_path) → Contains o.owned e → e.0.index < a.resources
  old_below = each_given a o.owned (subst (All (λ (z : Name × List ℕ). GaveResource a z.0)) w.made (made_gave a (head comp) (head_names a comp (gave (p.Component i) st))))

  enough : a.resources + length o.owned ≤ d.resources
  enough =
      let y : c.resources ≡ a.resources + length o.owned = ap (λ (z : Arena). z.resources) r.arena in
      let z : c.resources ≤ b.resources = x.grown.resources in
      let u : d.resources ≡ b.resources = n.resources in
      omega (arith, y, z, u)

  resources_at : (q : Place) → AreGiven (IsNewResource (numbers_of a) (numbers_of d)) (Under q) (given_names q).resources
  resources_at q = resources_given q (numbers_of a) (numbers_of d) a.resources o.owned (omega arith) enough old_below w.distinct

  is_called : (q : Place) (k : Origin) (y : Name) → Contains (numbered q a.resources o.owned) (k, y) → (names_of (given_names q)).resource k ≡ y
  is_called q k y h = called (numbered q a.resources o.owned) k y (found (IsNewResource (numbers_of a) (numbers_of d)) (Under q) (numbered q a.resources o.owned) k y (resources_at q) h)

  mine : (q : Place) → (names_of (given_names q)).identity (introduced q) ≡ number (length b.nodes)
  mine q = called (given_names q).identities (introduced q) (number (length b.nodes)) (found (IsNewIdentity (numbers_of a) (numbers_of d)) (Under q) (given_names q).identities (introduced q) (number (length b.nodes)) (nodes_at q)
      (first (introduced q, number (length b.nodes)) (remade q more)))

  theirs : (q : Place) (e : Part × Sent) → Contains more e → same_part e.0 e.1.to ≡ false → (names_of (given_names q)).identity (again q (number (place e.0))) ≡ number (place e.1.to)
  theirs q e h k =
      called (given_names q).identities (again q (number (place e.0))) (number (place e.1.to)) (found (IsNewIdentity (numbers_of a) (numbers_of d)) (Under q) (given_names q).identities (again q (number (place e.0))) (number (place e.1.to)) (nodes_at q)
      (behind (introduced q, number (length b.nodes)) (remade q more) (again q (number (place e.0)), number (place e.1.to)) (remade_contains q more e h k)))

  -- ## The replacement

  abbrev the_opening : Place → Replacement
  the_opening q = opening (names_of (given_names q)) q by_args comp

  resources_same : m2.resources ≡ m0.resources ++ to_numbers a.resources o.owned
  resources_same = visits.resources ∙ r.resources

  goes_so : (q : Place) (y : Name) → opened_resource (names_of (given_names q)) q by_args comp y ≡ resources_by m2 y
  goes_so q y = go (member y (imported_at (head comp))) refl
    where
      new : Option Name
      new = Some ((names_of (given_names q)).resource (again q y))

      arg : Option Name
      arg = Some (argument_for by_args comp y)

      go : (z : Bool) → member y (imported_at (head comp)) ≡ z → opened_resource (names_of (given_names q)) q by_args comp y ≡ resources_by m2 y
      go true e =
          let there : resources_by m0 y ≡ arg = opens.resources y ∙ ap (λ (z : Bool). cond z arg None) e in
          ap (λ (z : Bool). cond z arg (cond (member y (made_at (head comp))) new None)) e ∙
          sym (of_list m2 _ y resources_same ∙ first_sent m0.resources (to_numbers a.resources o.owned) y (argument_for by_args comp y) (sym (of_list m0 m0.resources y refl) ∙ there))
      go false e =
          let there : resources_by m0 y ≡ None = opens.resources y ∙ ap (λ (z : Bool). cond z arg None) e in
          ap (λ (z : Bool). cond z arg (cond (member y (made_at (head comp))) new None)) e ∙
          ap (λ (rs : List Name). cond (member y rs) new None) (made_names a c i args o m0 m1 ps w may opens) ∙
          resources_called q a.resources o.owned (record { resources = to_numbers a.resources o.owned; types = [] }) y refl ∙
          sym (of_list m2 _ y resources_same ∙ then_sent m0.resources (to_numbers a.resources o.owned) y (sym (of_list m0 m0.resources y refl) ∙ there))

  grown : Extends a b
  grown = extends_trans a c b g0 x.grown

  old_types : m1.types ≡ m0.types
  old_types = r.types

  in_old : (e : Part) (s : Sent) → Contains m1.types (e, s) → Contains m0.types (e, s)
  in_old e s h = subst (λ (es : Visited_list). Contains es (e, s)) old_types h

  from_old : (e : Part) (s : Sent) → Contains m0.types (e, s) → Contains m2.types (e, s)
  from_old e s h = subst (λ (es : Visited_list). Contains es (e, s)) (sym visits.types) (Contains-append_left m1.types more (e, s) (subst (λ (es : Visited_list). Contains es (e, s)) (sym old_types) h))

  -- a visited node is not given
  no_clash : (m : Replacement) (e f : Part) (s t : Sent) → EntryServed b m e s.given s.to → EntryServed b m f t.given t.to → s.given ≡ false → t.given ≡ true → identity_of f ≡ identity_of e → ⊥
  no_clash m e f s t u v k l z =
      let y : m.nodes (identity_of e) ≡ None = (subst (λ (y : Bool). EntryServed b m e y s.to) k u).0 in
      let g : m.nodes (identity_of f) ≡ Some (tree_at b t.to) = subst (λ (y : Bool). EntryServed b m f y t.to) l v in
      let h : None ≡ Some (tree_at b t.to) = sym y ∙ ap m.nodes (sym z) ∙ g in
      cc

  serves : (q : Place) → Serves b m2 (the_opening q)
  serves q = record {
    resources = goes_so q;
    entries = λ e s h. ⊎_elim (λ (k : Contains m1.types (e, s)). old e s (in_old e s k)) (λ (k : Contains more (e, s)). new e s k h) (Contains-append_cases m1.types more (e, s) (subst (λ (es : Visited_list). Contains es (e, s)) visits.types h));
    others = λ y ng. opens.given.others y (λ e s h k z. ng e s (from_old e s h) k z);
  }
    where
      old : (e : Part) (s : Sent) → Contains m0.types (e, s) → EntryServed b (the_opening q) e s.given s.to
      old e s h =
          let y = opens.given.each e s h in
          subst (λ (z : Bool). EntryServed b (the_opening q) e z s.to) (sym y.given) (y.tree ∙ ap Some (sym (same_tree a b s.to grown y.goes)))

      new : (e : Part) (s : Sent) → Contains more (e, s) → Contains m2.types (e, s) → EntryServed b (the_opening q) e s.given s.to
      new e s h k =
          let kept : s.given ≡ false = (visited (e, s) h).kept in
          let bare : (the_opening q).nodes (identity_of e) ≡ None =
          opens.given.others (identity_of e) (λ f t u l z. no_clash x.sound.some.0 e f s t (x.sound.some.1.entries e s k) (x.sound.some.1.entries f t (from_old f t u)) kept l z) in
          subst (λ (z : Bool). EntryServed b (the_opening q) e z s.to) (sym kept) (bare, λ f. theirs q (e, s) h f)

  -- ## What it brings

  same_each : Each (EntryBecomes a b m2) o.exports ys
  same_each = each_before a c b m2 o.exports ys (ap (λ (z : Arena). trees z.nodes) r.arena) x.each

  new_tree : (q : Place) → instantiated (names_of (given_names q)) q by_args comp ≡ tree_at d (p.Instance j)
  new_tree q =
      let m : Replacement = the_opening q in
      let P : Name → Entries → Type_tree = λ k es. instance_type k [] es in
      let to : map_entries (replaced m) (exports comp) ≡ entry_trees (trees b.nodes) ys = ap (map_entries (replaced m)) w.exports ∙ entries_are a b m2 m o.exports ys (serves q) same_each in
      (λ z. P (mine q z) (to z)) ∙ sym n.tree

  new_resources : (q : Place) → instantiated_resources (names_of (given_names q)) q comp ≡ map resource_path ps
  new_resources q =
      let N : Names = names_of (given_names q) in
      ap (map (λ (y : Name × List ℕ). (N.resource (again q y.0), y.1))) w.made ∙ paths_are q N.resource a.resources o.owned (λ k y h. is_called q k y h) ∙ ap (λ (es : Paths). map resource_path es) (sym r.paths)

  pub component_made : ComponentInstanceMade a d args i (record { ty = j; resources = ps })
  component_made = record {
    given_names = given_names;
    given = λ q. record { resources = resources_at q; identities = nodes_at q };
    brought = λ q z. record { entity = new_tree q z; resources = new_resources q z };
    stands = n.stands;
    alone = ap owned n.tree;
    fresh = subst (λ (es : Paths). All (λ (e : With_path). a.resources ≤ e.0.index) es) (sym r.paths) (numbers_from a.resources o.owned);
    below = subst (λ (es : Paths). All (λ (e : With_path). e.0.index < d.resources) es) (sym r.paths) (numbers_below a.resources d.resources o.owned enough);
    distinct = subst (λ (es : Paths). IsDistinct same_resource (firsts es)) (sym r.paths) (numbers_differ a.resources o.owned);
    core = n.core ∙ x.core ∙ ap (λ (z : Arena). z.core) r.arena;
  }
