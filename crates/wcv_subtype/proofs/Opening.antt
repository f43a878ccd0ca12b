-- A map that opens the imports of a component, from what the calls leave.
use Rattle.std.proofs.Common.{◌≡◌, ℕ, suc, ◌+◌, ◌*◌, ◌<◌, ◌≤◌, List, [], ◌∷◌, ◌++◌, map, length, take, drop, bytes_eq, Bool, true, false, cond, None, Some, refl, sym, ◌∙◌, ap, subst, arith, inl, inr}
use Rattle.std.specs.Prelude.{All, Contains, slice_get}
use Rattle.std.specs.Bool.{Decides}
use Rattle.std.specs.List.{IsDistinct, list_all}
use Rattle.std.specs.Map.{keys_of, lookup}
use Rattle.std.proofs.lemmas.List.{length-map, take_all}
use Rattle.std.proofs.lemmas.List.Elements.{All-contains, All-nil, All-cons, All-head, All-tail}
use Rattle.wcv_closed.specs.ClosedTable.{IsTable}
use Rattle.wcv_core.specs.Names.{Name, member, number}
use Rattle.wcv_core.specs.declared.error.Error.{Error}
use Rattle.wcv_types.proofs.All.{all-mapped, all-mapped_back}
use Rattle.wcv_types.proofs.EntryParts.{component_imports}
use Rattle.wcv_types.proofs.Gathered.{parts_ready}
use Rattle.wcv_types.proofs.Knowing.{parts_in-append}
use Rattle.wcv_types.proofs.Unfolding.{all_left}
use Rattle.wcv_types.specs.Arena.{Arena}
use Rattle.wcv_types.specs.Entities.{entity_tree, entry_tree, EntityStands, EntryStands}
use Rattle.wcv_types.specs.Given.{GaveResource, GaveIdentity, AllNamesGiven}
use Rattle.wcv_types.specs.Rename.{EachName}
use Rattle.wcv_types.specs.Identity.{Identity}
use Rattle.wcv_types.specs.Standing.{AllFit, Stands, StandsBefore}
use Rattle.wcv_types.specs.Tree.{Text, Head, component, import, export, firsts, head, imported_at}
use Rattle.wcv_types.specs.Unfold.{entry_slots, parts_in, parts_of, resource_path, trees, tree_at, Type_tree, unfolded}
use Rattle.wcv_types.specs.declared.arena.Node.TheVariants as n
use Rattle.wcv_types.specs.declared.component_type.ComponentType.{ComponentType}
use Rattle.wcv_types.specs.declared.ids.ComponentTypeId.{ComponentTypeId}
use Rattle.wcv_types.specs.declared.ids.Part.{Part}
use Rattle.wcv_types.specs.declared.ids.Part.TheVariants as p
use Rattle.wcv_types.specs.declared.ids.ResourceId.{ResourceId}
use Rattle.wcv_types.specs.declared.item_map.ComponentItem.{ComponentItem}
use Rattle.wcv_types.specs.declared.shapes.ComponentEntityType.{ComponentEntityType}
use Rattle.wcv_types.specs.declared.shapes.ComponentEntityType.TheVariants as entity
use Rattle.wcv_matching.specs.AtomTests.{id_tests, same_seen}
use Rattle.wcv_matching.specs.GivenTypes.{given_by, given_for}
use Rattle.wcv_matching.specs.Matching.{Reading, named, named_imports}
use Rattle.wcv_matching.specs.OnePass.{Atom, given, counterpart, each_passes, enough, found_in, imported_paths, match_pass, opens_pass}
use Rattle.wcv_matching.specs.Orderly.{EachNode, EachOrderly, Orderly, EntitiesAlike}
use Rattle.wcv_matching.specs.Refusals.{MemoryOrMismatch}
use Rattle.wcv_matching.specs.TableMatching.{CoreWithin, EachCoreWithin, Opens}
use Rattle.wcv_matching.proofs.AtomTests.{seen-decides}
use Rattle.wcv_matching.proofs.ByName.{drop_none}
use Rattle.wcv_matching.proofs.Entries.{among}
use Rattle.wcv_matching.proofs.PassSame.{passes}
use Rattle.wcv_matching.proofs.NamedLists.{map-map}
use Rattle.wcv_matching.proofs.PassByIds.{opening-by_ids}
use Rattle.wcv_atoms.specs.Extent.{entries_extent, matched_extent, opening_extent, walks}
use Rattle.wcv_counterparts.specs.IdCounterparts.{counterparts_of, lands_on}
use Rattle.wcv_atoms.specs.IdPasses.{named_trees, Answers}
use Rattle.wcv_remap.specs.Map.{Map, same_part}
use Rattle.wcv_subtype.specs.Openings.{ArgumentStands, Fits, Gives, IsOpening, Opening, Passes, named_args}
use Rattle.wcv_atoms.specs.Readings.{resource_name}
use Rattle.wcv_atoms.proofs.Extents.{imported_walks}
use Rattle.wcv_atoms.proofs.EntityLaws.{entity_each, entity_orderly, entity_within}
use Rattle.wcv_subtype.proofs.GivenSorts.{SortByIdentity, all_sorted, leaves_sorted, opening_sorted}
use Rattle.wcv_subtype.proofs.Landing.{all_found, entries_named, followed, resources_found}
use Rattle.wcv_subtype.proofs.GivenLists.{for_next, gives_as, one_under}
use Rattle.wcv_atoms.proofs.PassIds.{entries_stand, found_stands}
use Rattle.wcv_atoms.proofs.PassSteps.{answers_at, found_passes, found_tree, no_tree, none_passes, tree_at_place}
use Rattle.wcv_atoms.proofs.Walking.{each_held, each_holds}

abbrev Items : Type 0
Items = List (Text × ComponentItem)

-- ## Arguments

abbrev pub as_args : Items → List (Text × ComponentEntityType)
as_args es = map (λ e. (e.0, e.1.ty)) es

pub args_are : (a : Arena) (es : Items) → named_args a (as_args es) ≡ named_trees (trees a.nodes) es
args_are a es = map-map (λ (e : Text × ComponentEntityType). (e.0, entity_tree (trees a.nodes) e.1)) (λ (e : Text × ComponentItem). (e.0, e.1.ty)) es

pub args_stand : (a : Arena) (es : Items) → All (ArgumentStands a) (as_args es) → All (EntryStands a) es
args_stand a es h = all-mapped_back (EntryStands a) (ArgumentStands a) (λ (e : Text × ComponentItem). (e.0, e.1.ty)) (λ e s. s) es h

-- what holds of what stands holds of each
each_tree : (a : Arena) (P : Type_tree → Type 0) → ((x : ComponentEntityType) → EntityStands a x → P (entity_tree (trees a.nodes) x)) → (es : Items) → All (EntryStands a) es → All (λ (e : Text × Type_tree). P e.1) (named_trees (trees a.nodes) es)
each_tree a P f es h = all-mapped (EntryStands a) (λ (e : Text × Type_tree). P e.1) (λ (e : Text × ComponentItem). (e.0, entity_tree (trees a.nodes) e.1.ty)) (λ e s. f e.1.ty s) es h

-- ## The component

pub imports_are : (a : Arena) (i : ℕ) (s : ComponentType) (t : Type_tree) → t ≡ unfolded a i (n.Component s) → named_imports t ≡ named_trees (trees a.nodes) s.imports
imports_are a i s t e =
    ap (λ (w : Type_tree). named_imports w) e ∙ ap (λ (es : _). named es) (component_imports (trees a.nodes) s.imports s.exports) ∙ map-map (λ (w : _). (w.0.name, w.1)) (entry_tree (trees a.nodes)) s.imports

-- what it takes to open them
pub opening_counts : (a : Arena) (i : ℕ) (s : ComponentType) (t : Type_tree) (es : Items) (xs : List (Text × ComponentEntityType)) → t ≡ unfolded a i (n.Component s) → as_args es ≡ xs → opening_extent (named_args a xs) t ≡
    suc (walks (map resource_path s.imported_resources) + (matched_extent (named_trees (trees a.nodes) es) (named_trees (trees a.nodes) s.imports) + 3 * entries_extent (named_trees (trees a.nodes) s.imports)))
opening_counts a i s t es xs e h =
    ap (λ (ws : List (Text × ComponentEntityType)). opening_extent (named_args a ws) t) (sym h) ∙
    (λ j. suc (imported_walks a i s t e j + (matched_extent (args_are a es j) (imports_are a i s t e j) + 3 * entries_extent (imports_are a i s t e j))))

pub imports_stand : (a : Arena) (i : ℕ) (s : ComponentType) → All (StandsBefore a (suc i)) (parts_of (n.Component s)) → All (EntryStands a) s.imports
imports_stand a i s h =
    entries_stand a import s.imports (all_left (Stands a) (parts_in (entry_slots import s.imports)) (parts_in (entry_slots export s.exports))
    (subst (λ (qs : List Part). All (Stands a) qs) (parts_in-append (entry_slots import s.imports) (entry_slots export s.exports)) (parts_ready a (suc i) (parts_of (n.Component s)) (parts_of (n.Component s)) refl h (omega arith)).1))

firsts_all : (P : Name → Type 0) (ps : List (Name × List ℕ)) → All (λ (q : Name × List ℕ). P q.0) ps → All P (firsts ps)
firsts_all P [] h = All-nil P
firsts_all P (q ∷ ps) h = All-cons P q.0 (firsts ps) (All-head (λ (q : Name × List ℕ). P q.0) q ps h) (firsts_all P ps (All-tail (λ (q : Name × List ℕ). P q.0) q ps h))

module _ (a : Arena) (fit : AllFit a) (es : Items) (stand : All (EntryStands a) es) (i : ComponentTypeId) (s : ComponentType) (t : tree_at a (p.Component i) ≡ unfolded a i.index (n.Component s)) (there : Stands a (p.Component i))
    (before : All (StandsBefore a (suc i.index)) (parts_of (n.Component s))) where
  abbrev c : Type_tree
  c = tree_at a (p.Component i)

  abbrev xs : List (Text × Type_tree)
  xs = named_trees (trees a.nodes) es

  abbrev is : List (Text × Type_tree)
  is = named_trees (trees a.nodes) s.imports

  abbrev ps : List (Name × List ℕ)
  ps = map resource_path s.imported_resources

  abbrev h : Head Name Name
  h = component (number i.index) ps (map resource_path s.defined_resources)

  head_is : head c ≡ h
  head_is = ap (λ (w : Type_tree). head w) t

  names_are : named_imports c ≡ is
  names_are = imports_are a i.index s c t

  -- ## Whether they open

  pub passes_as : (f : Reading Atom) → f ≡ (λ r. given (cond (member r (firsts ps)) (counterpart ps is xs r) r)) → each_passes (match_pass (id_tests a.core) 0 given f) xs is ≡ opens_pass (id_tests a.core) (named_args a (as_args es)) c
  passes_as f e =
      ap (λ (g : Reading Atom). each_passes (match_pass (id_tests a.core) 0 given g) xs is) e ∙
      (λ j. each_passes (match_pass (id_tests a.core) 0 given (λ r. given (cond (member r (imported_at (sym head_is j))) (counterpart (imported_paths (sym head_is j)) (sym names_are j) xs r) r))) xs (sym names_are j)) ∙
      ap (λ (ws : List (Text × Type_tree)). opens_pass (id_tests a.core) ws c) (sym (args_are a es))

  abbrev Opened : Type 0
  Opened = (r : Name → Name) × Opens a.core r (named_args a (as_args es)) c

  decided : IsTable a.core → Decides (opens_pass (id_tests a.core) (named_args a (as_args es)) c) Opened
  decided table =
      opening-by_ids a.core same_seen seen-decides table (named_args a (as_args es)) c
      (subst EachOrderly (sym (args_are a es)) (λ m x w. All-contains (λ (e : Text × Type_tree). Orderly e.1) xs (m, x) (each_tree a Orderly (entity_orderly a fit) es stand) w))
      (entity_orderly a fit (entity.Component i) there)
      (subst (EachCoreWithin a.core) (sym (args_are a es)) (λ m x w. All-contains (λ (e : Text × Type_tree). CoreWithin a.core e.1) xs (m, x) (each_tree a (CoreWithin a.core) (entity_within a fit) es stand) w))
      (entity_within a fit (entity.Component i) there)

  module _ (table : IsTable a.core) (f : Reading Atom) (e : f ≡ (λ r. given (cond (member r (firsts ps)) (counterpart ps is xs r) r))) where
    pub opens : each_passes (match_pass (id_tests a.core) 0 given f) xs is ≡ true → Opened
    opens m = (decided table).0 (sym (passes_as f e) ∙ m)

    pub refused : {M : Type 0} (offset : ℕ) (r : Error M) → MemoryOrMismatch offset (each_passes (match_pass (id_tests a.core) 0 given f) xs is ≡ true) r → MemoryOrMismatch offset Opened r
    refused offset r (inl w) = inl w
    refused offset r (inr w) = inr (record { is = w.is; at = w.at; fails = λ o. w.fails (passes_as f e ∙ (decided table).1 o) })

  -- ## What opens

  within_arena : (gave : AllNamesGiven a) (fs : List (ResourceId × ResourceId)) → map lands_on fs ≡ counterparts_of ps is xs → (r q : ResourceId) → Contains fs (r, q) → q.index < a.resources
  within_arena gave fs l r q w =
      All-contains (λ (f : ResourceId × ResourceId). GaveResource a (resource_name f.1)) fs (r, q)
      (all_found ps is xs (GaveResource a) (λ k m. followed (GaveResource a) (GaveIdentity a) k is xs m (entries_named a gave es stand)) (imported_given gave) fs l) w
    where
      imported_given : AllNamesGiven a → All (GaveResource a) (firsts ps)
      imported_given gave = firsts_all (GaveResource a) ps (subst (EachName (GaveResource a) (GaveIdentity a)) t (gave (p.Component i) there)).0.1

  pub opening : AllNamesGiven a → (f : Reading Atom) (m : Map) (fs : List (ResourceId × ResourceId)) → map lands_on fs ≡ counterparts_of ps is xs → m.resources ≡ fs → Gives a (given_for xs is) m → IsDistinct same_part (keys_of m.types) →
      each_passes (match_pass (id_tests a.core) 0 given f) xs is ≡ true → IsOpening a (as_args es) i m
  opening gave f m fs l e g d w =
      subst (λ (ws : List (Text × Type_tree)). Opening a ws c m) (sym (args_are a es))
      (record {
        resources = λ r. resources_found ps is xs m (ap (λ (rs : List (ResourceId × ResourceId)). map lands_on rs) e ∙ l) r ∙
            (λ j. cond (member r (imported_at (sym head_is j))) (Some (counterpart (imported_paths (sym head_is j)) (sym names_are j) xs r)) None);
        within = λ r q k. within_arena gave fs l r q (subst (λ (rs : List (ResourceId × ResourceId)). Contains rs (r, q)) e k);
        given = subst (λ (ns : List (Text × Type_tree)). Gives a (given_for xs ns) m) (sym names_are) g;
        distinct = d;
        of_sort = λ aa ai q u k.
            opening_sorted a a.core given f xs is (each_tree a (EachNode (SortByIdentity a)) (sorted fit) es stand) (each_tree a (EachNode (SortByIdentity a)) (sorted fit) s.imports (imports_stand a i.index s before)) w aa
            (subst (λ (ns : List (Text × Type_tree)). All (λ (e : Text × Type_tree). EntitiesAlike e.1) ns) names_are ai) q u (g.each q u k);
      })
    where
      sorted : AllFit a → (x : ComponentEntityType) → EntityStands a x → EachNode (SortByIdentity a) (entity_tree (trees a.nodes) x)
      sorted fit x st = entity_each a (SortByIdentity a) (leaves_sorted a) (all_sorted a fit) x st

-- ## One import after another

module _ (a : Arena) (es : Items) (f : Reading Atom) where
  abbrev matches : Type_tree → Type_tree → Bool
  matches = match_pass (id_tests a.core) 0 given f

  abbrev entry_at : Text × ComponentItem → Text × Type_tree
  entry_at e = (e.0, entity_tree (trees a.nodes) e.1.ty)

  -- the answer for one argument
  pub told : (x : ComponentItem) (y : Text × ComponentItem) (g : Reading Atom) (b : Bool) → g ≡ given → Answers a.core false 0 g f (entity_tree (trees a.nodes) x.ty) (entity_tree (trees a.nodes) y.1.ty) b →
      b ≡ matches (entity_tree (trees a.nodes) x.ty) (entity_tree (trees a.nodes) y.1.ty)
  told x y g b e m =
      answers_at a.core false 0 g f given f (entity_tree (trees a.nodes) x.ty) (entity_tree (trees a.nodes) y.1.ty) (entity_tree (trees a.nodes) x.ty) (entity_tree (trees a.nodes) y.1.ty) e refl refl refl m
      (enough (entity_tree (trees a.nodes) x.ty) (entity_tree (trees a.nodes) y.1.ty)) (omega arith) (omega arith)

  -- it fits, or it does not
  pub fits : (x : ComponentItem) (y : Text × ComponentItem) → All (EntryStands a) es → lookup (bytes_eq y.0) es ≡ Some x → matches (entity_tree (trees a.nodes) x.ty) (entity_tree (trees a.nodes) y.1.ty) ≡ true →
      Fits a f (named_trees (trees a.nodes) es) y x.ty
  fits x y s e m = record { stands = found_stands a es y.0 x s e; found = found_tree (trees a.nodes) es y.0 x e; passes = m }

  pub unfit : (x : ComponentItem) (y : Text × ComponentItem) → lookup (bytes_eq y.0) es ≡ Some x → matches (entity_tree (trees a.nodes) x.ty) (entity_tree (trees a.nodes) y.1.ty) ≡ false → found_in matches (named_trees (trees a.nodes) es) (entry_at y) ≡ true → ⊥
  unfit x y e m h = no (sym (sym (found_passes matches (named_trees (trees a.nodes) es) (entry_at y) (entity_tree (trees a.nodes) x.ty) (found_tree (trees a.nodes) es y.0 x e)) ∙ h) ∙ m)
    where
      no : true ≡ false → ⊥
      no e = cc

  pub absent : (y : Text × ComponentItem) → lookup (bytes_eq y.0) es ≡ None → found_in matches (named_trees (trees a.nodes) es) (entry_at y) ≡ true → ⊥
  absent y e h = no (sym h ∙ none_passes matches (named_trees (trees a.nodes) es) (entry_at y) (no_tree (trees a.nodes) es y.0 e))
    where
      no : true ≡ false → ⊥
      no e = cc

  pub passes_by : (y : Text × ComponentItem) (x : ComponentEntityType) → Fits a f (named_trees (trees a.nodes) es) y x → Passes a.core (entity_tree (trees a.nodes) x) (entity_tree (trees a.nodes) y.1.ty)
  passes_by y x w = record { bound = enough (entity_tree (trees a.nodes) x) (entity_tree (trees a.nodes) y.1.ty); level = 0; left = given; right = f; passes = w.passes }

  module _ (is : Items) (k : ℕ) (y : Text × ComponentItem) (h : slice_get is k ≡ Some y) where
    -- what refuses one import refuses all
    pub refuses : {M : Type 0} (offset : ℕ) (r : Error M) → MemoryOrMismatch offset (found_in matches (named_trees (trees a.nodes) es) (entry_at y) ≡ true) r →
        MemoryOrMismatch offset (each_passes matches (named_trees (trees a.nodes) es) (named_trees (trees a.nodes) is) ≡ true) r
    refuses offset r (inl w) = inl w
    refuses offset r (inr w) = inr (record {
      is = w.is;
      at = w.at;
      fails = λ o. w.fails (passes (found_in matches (named_trees (trees a.nodes) es)) (named_trees (trees a.nodes) is) o (entry_at y) (among (named_trees (trees a.nodes) is) k (entry_at y) (tree_at_place (trees a.nodes) is k y h)));
    })

    pub next_passes : (x : ComponentEntityType) → Fits a f (named_trees (trees a.nodes) es) y x →
        list_all (found_in matches (named_trees (trees a.nodes) es)) (named_trees (trees a.nodes) is) ≡ list_all (found_in matches (named_trees (trees a.nodes) es)) (drop k (named_trees (trees a.nodes) is)) →
        list_all (found_in matches (named_trees (trees a.nodes) es)) (named_trees (trees a.nodes) is) ≡ list_all (found_in matches (named_trees (trees a.nodes) es)) (drop (k + 1) (named_trees (trees a.nodes) is))
    next_passes x w l =
        each_holds (found_in matches (named_trees (trees a.nodes) es)) (named_trees (trees a.nodes) is) k (entry_at y) (tree_at_place (trees a.nodes) is k y h) l
        (found_passes matches (named_trees (trees a.nodes) es) (entry_at y) (entity_tree (trees a.nodes) x) w.found ∙ w.passes)

    pub next_given : (x : ComponentEntityType) (m : Map) → Fits a f (named_trees (trees a.nodes) es) y x →
        Gives a (given_for (named_trees (trees a.nodes) es) (take k (named_trees (trees a.nodes) is)) ++ given_by (entity_tree (trees a.nodes) x) (entity_tree (trees a.nodes) y.1.ty)) m →
        Gives a (given_for (named_trees (trees a.nodes) es) (take (k + 1) (named_trees (trees a.nodes) is))) m
    next_given x m w g =
        gives_as a m _ _
        (ap (λ (ws : List (Identity × Type_tree)). given_for (named_trees (trees a.nodes) es) (take k (named_trees (trees a.nodes) is)) ++ ws) (sym (one_under (named_trees (trees a.nodes) es) y.0 (entity_tree (trees a.nodes) y.1.ty) (entity_tree (trees a.nodes) x) w.found)) ∙
        for_next (named_trees (trees a.nodes) es) (named_trees (trees a.nodes) is) k (entry_at y) (tree_at_place (trees a.nodes) is k y h)) g

  module _ (is : Items) (k : ℕ) (h : length is ≤ k) where
    past : length (named_trees (trees a.nodes) is) ≤ k
    past = subst (λ (m : ℕ). m ≤ k) (sym (length-map is _)) h

    pub all_pass : list_all (found_in matches (named_trees (trees a.nodes) es)) (named_trees (trees a.nodes) is) ≡ list_all (found_in matches (named_trees (trees a.nodes) es)) (drop k (named_trees (trees a.nodes) is)) →
        each_passes matches (named_trees (trees a.nodes) es) (named_trees (trees a.nodes) is) ≡ true
    all_pass l = sym (each_held (found_in matches (named_trees (trees a.nodes) es)) (named_trees (trees a.nodes) is) k past l)

    pub all_gave : (m : Map) → Gives a (given_for (named_trees (trees a.nodes) es) (take k (named_trees (trees a.nodes) is))) m → Gives a (given_for (named_trees (trees a.nodes) es) (named_trees (trees a.nodes) is)) m
    all_gave m g = gives_as a m _ _ (ap (given_for (named_trees (trees a.nodes) es)) (take_all k (named_trees (trees a.nodes) is) past)) g

-- as it is read under another name
pub fits_as : (a : Arena) (f g : Reading Atom) (es : Items) (y : Text × ComponentItem) (x : ComponentEntityType) → f ≡ g → Fits a f (named_trees (trees a.nodes) es) y x → Fits a g (named_trees (trees a.nodes) es) y x
fits_as a f g es y x e w = subst (λ (r : Reading Atom). Fits a r (named_trees (trees a.nodes) es) y x) e w

pub refused_as : {M : Type 0} (a : Arena) (f g : Reading Atom) (es : Items) (y : Text × ComponentItem) (offset : ℕ) (r : Error M) → f ≡ g →
    MemoryOrMismatch offset (found_in (match_pass (id_tests a.core) 0 given f) (named_trees (trees a.nodes) es) (y.0, entity_tree (trees a.nodes) y.1.ty) ≡ true) r →
    MemoryOrMismatch offset (found_in (match_pass (id_tests a.core) 0 given g) (named_trees (trees a.nodes) es) (y.0, entity_tree (trees a.nodes) y.1.ty) ≡ true) r
refused_as a f g es y offset r e w = subst (λ (q : Reading Atom). MemoryOrMismatch offset (found_in (match_pass (id_tests a.core) 0 given q) (named_trees (trees a.nodes) es) (y.0, entity_tree (trees a.nodes) y.1.ty) ≡ true) r) e w

pub none_left : (a : Arena) (es is : Items) (p : Text × Type_tree → Bool) → list_all p (named_trees (trees a.nodes) is) ≡ list_all p (drop 0 (named_trees (trees a.nodes) is))
none_left a es is p = sym (ap (list_all p) (drop_none (named_trees (trees a.nodes) is)))
