-- What a rebuilding leaves: what the map says, and what became of types.
use Rattle.std.specs.Prelude.{ℕ, suc, Bool, true, false, not, List, [], ◌∷◌, ◌++◌, length, Some, None, ◌||◌, Contains, ◌≤◌, ◌<◌, ◌≡◌, ◌+◌, ◌⊎◌}
use Rattle.wcv_core.specs.Names.{Name, number}
use Rattle.wcv_types.specs.Arena.{Arena}
use Rattle.wcv_types.specs.Identity.{Identity}
use Rattle.wcv_types.specs.Rebuild.{same_sort, MadeAgain}
use Rattle.wcv_types.specs.Replacing.{Replacement, changed, replaced}
use Rattle.wcv_types.specs.Standing.{Stands, Extends, identity_of}
use Rattle.wcv_types.specs.Unfold.{place, rank, parts_at, tree_at}
use Rattle.wcv_types.specs.declared.ids.Part.{Part}
use Rattle.wcv_types.specs.declared.ids.Part.TheVariants as p
use Rattle.wcv_types.specs.declared.ids.ResourceId.{ResourceId}
use Rattle.wcv_remap.specs.Hygiene.{Hygienic}
use Rattle.wcv_remap.specs.Map.{Sent, Map, same_part, is_node, is_type, resources_by}

-- ## What a map says

-- a given entry says which tree stands in the place of a node, that of a visited node which identity it has if it was made again
abbrev pub EntryServed : Arena → Replacement → Part → Bool → Part → Type 0
EntryServed a m q true to = m.nodes (identity_of q) ≡ Some (tree_at a to)
EntryServed a m q false to = (m.nodes (identity_of q) ≡ None) × (same_part q to ≡ false → m.again (number (place q)) ≡ number (place to))

-- no given entry is of that identity
abbrev pub NotGiven : Map → Identity → Type 0
NotGiven map i = (q : Part) (s : Sent) → Contains map.types (q, s) → s.given ≡ true → identity_of q ≡ i → ⊥

-- m is a replacement that the map, over that arena, is a part of
pub record Serves (a : Arena) (map : Map) (m : Replacement) : Type 0 where
  pub resources : (r : Name) → m.resources r ≡ resources_by map r
  pub entries : (q : Part) (s : Sent) → Contains map.types (q, s) → EntryServed a m q s.given s.to
  pub others : (i : Identity) → NotGiven map i → m.nodes i ≡ None

-- to is what m makes of q: another id exactly where q changes
pub record Becomes (m : Replacement) (a : Arena) (q to : Part) : Type 0 where
  pub tree : tree_at a to ≡ replaced m (tree_at a q)
  pub another : changed m (tree_at a q) ≡ not (same_part q to)

-- to is what becomes of q in each replacement that the map serves as
pub record Right (a : Arena) (map : Map) (q to : Part) : Type 0 where
  pub stands : Stands a to
  pub of_sort : same_sort q to ≡ true
  pub becomes : (m : Replacement) → Serves a map m → Becomes m a q to

-- a type goes to one of its own sort
pub record Sends (a : Arena) (q to : Part) : Type 0 where
  pub stands : Stands a q
  pub goes : Stands a to
  pub of_sort : same_sort q to ≡ true
  pub inside : is_type q ≡ true

-- the node was visited, and made again as that other
pub record IsMade (map : Map) (q to : Part) : Type 0 where
  pub sent : Sent
  pub there : Contains map.types (q, sent)
  pub kept : sent.given ≡ false
  pub goes : sent.to ≡ to
  pub other : same_part q to ≡ false

-- some replacement serves the map, what it says stands, of visited nodes it is right, and no two of them were made again as one
pub record Sound (a : Arena) (map : Map) : Type 0 where
  pub some : (m : Replacement) × Serves a map m
  pub resources : (r q : ResourceId) → Contains map.resources (r, q) → q.index < a.resources
  pub sends : (q : Part) (s : Sent) → Contains map.types (q, s) → Sends a q s.to
  pub visited : (q : Part) (s : Sent) → Contains map.types (q, s) → s.given ≡ false → (is_node q ≡ true) × Right a map q s.to
  pub apart : (q r to : Part) → IsMade map q to → IsMade map r to → q ≡ r

-- nothing that is owned inside goes elsewhere, or is mentioned by a node that is given
abbrev pub HygienicAt : Arena → Map → Part → Type 0
HygienicAt a map q = (m : Replacement) → Serves a map m → Hygienic m (tree_at a q)

-- ## What was visited

-- k is q, or reached from it by way of parts
pub data Reached (a : Arena) : Part → Part → Type 0 where
  itself : (q : Part) → Reached a q q
  below : (q r k : Part) → Stands a q → Contains (parts_at a q) r → Reached a r k → Reached a q k

abbrev pub ReachedFrom : Arena → List Part → Part → Type 0
ReachedFrom a qs k = (q : Part) × Contains qs q × Reached a q k

-- a node was visited: it has a rank below the bound, it is as P says, and if it was made again, then behind so many nodes
pub record Visited (P : Part → Type 0) (old bound : ℕ) (q : Part) (s : Sent) : Type 0 where
  pub kept : s.given ≡ false
  pub before : rank q < bound
  pub fresh : same_part q s.to ≡ false → old < rank s.to
  pub reached : P q

-- the map has more visited nodes
pub record Visits (P : Part → Type 0) (old bound : ℕ) (map map' : Map) : Type 0 where
  pub more : List (Part × Sent)
  pub types : map'.types ≡ map.types ++ more
  pub resources : map'.resources ≡ map.resources
  pub visited : (q : Part) (s : Sent) → Contains more (q, s) → Visited P old bound q s

-- ## What a rebuilding leaves

-- a part of a component type
abbrev pub IsInside : Part → Type 0
IsInside (p.CoreInstance i) = ⊥
IsInside q = Unit {0}

-- of one type. Each step and each new node is one more node in the map
pub record Remapped (a b : Arena) (map map' : Map) (s s' : ℕ) (q to : Part) : Type 0 where
  pub grown : Extends a b
  pub core : b.core ≡ a.core
  pub visits : Visits (Reached b q) (length a.nodes) (suc (rank q)) map map'
  pub sound : Sound b map'
  pub right : Right b map' q to
  pub steps : s' + length map.types ≤ s + length map'.types
  pub nodes : length b.nodes + length map.types ≤ length a.nodes + length map'.types

-- each of the one list stands in the relation to that of the other at its place
abbrev pub Each : {X Y : Type 0} → (X → Y → Type 0) → List X → List Y → Type 0
Each R [] [] = Unit {0}
Each R (x ∷ xs) (y ∷ ys) = R x y × Each R xs ys
Each R _ _ = ⊥

-- of the first parts of a node
pub record Rebuilding (a b : Arena) (map map' : Map) (s s' bound : ℕ) (qs tos : List Part) : Type 0 where
  pub grown : Extends a b
  pub core : b.core ≡ a.core
  pub visits : Visits (ReachedFrom b qs) (length a.nodes) bound map map'
  pub sound : Sound b map'
  pub each : Each (Right b map') qs tos
  pub steps : s' + length map.types ≤ s + length map'.types
  pub nodes : length b.nodes + length map.types ≤ length a.nodes + length map'.types

-- some part is another than that at its place
abbrev pub any_other : List Part → List Part → Bool
any_other (q ∷ qs) (r ∷ rs) = not (same_part q r) || any_other qs rs
any_other _ _ = false

-- a node whose parts became others: it stays where none did, and is made again where one did
pub record Settled (a b : Arena) (q : Part) (qs : List Part) (to : Part) : Type 0 where
  pub grown : Extends a b
  pub core : b.core ≡ a.core
  pub nodes : length b.nodes ≤ suc (length a.nodes)
  pub stands : Stands b to
  pub of_sort : same_sort q to ≡ true
  pub way : ((any_other (parts_at a q) qs ≡ false) × (to ≡ q)) ⊎ ((any_other (parts_at a q) qs ≡ true) × MadeAgain a b q qs to)
