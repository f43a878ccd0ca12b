-- How many steps a comparison may take: one for each node of either side that it goes into, or that the path of an own resource passes.
use Rattle.std.specs.Prelude.{◌≡◌, ℕ, suc, length, List, [], ◌∷◌, Option, None, Some, ◌+◌, ◌*◌}
use Rattle.wcv_core.specs.Names.{Name}
use Rattle.wcv_types.specs.Measure.{size, weigh, weight}
use Rattle.wcv_types.specs.Tree.{Text, Role, component, head, type_entity, node, Parts, none, part, first_part, rest_parts}
use Rattle.wcv_types.specs.Unfold.{Type_tree, option_slot, slot_parts, slot_tree, value_slots}
use Rattle.wcv_types.specs.declared.shapes.ComponentValType.{ComponentValType}
use Rattle.wcv_matching.specs.Matching.{named_imports}
use Rattle.wcv_matching.specs.NamedPaths.{entry}
use Rattle.wcv_matching.specs.OnePass.{imported_paths}
use Rattle.wcv_matching.specs.Orderly.{EachNode}

-- ## Paths

-- at each position behind the first a path passes one node of either side
abbrev pub walk : List ℕ → ℕ
walk [] = 0
walk (k ∷ p) = 2 * length p

abbrev pub walks : List (Name × List ℕ) → ℕ
walks [] = 0
walks (p ∷ ps) = walk p.1 + walks ps

-- ## Types

-- as the size, but that a type entity counts what it refers to, and a component the paths of its own resources too
abbrev mutual
  pub extent : Type_tree → ℕ
  extent (node type_entity ps) = second_extent ps
  extent (node (component i ins outs) ps) = suc (walks ins + walks outs + extents ps)
  extent (node h ps) = weigh (weight h) 0 (extents ps)

  pub extents : Parts Name Name → ℕ
  extents none = 0
  extents (part r t ps) = extent t + extents ps

  pub first_extent : Parts Name Name → ℕ
  first_extent none = 0
  first_extent (part r t ps) = extent t

  pub second_extent : Parts Name Name → ℕ
  second_extent none = 0
  second_extent (part r t ps) = first_extent ps

-- of a value type that may be left out
abbrev pub value_extent : List Type_tree → Option ComponentValType → ℕ
value_extent ts o = extent (slot_tree ts (option_slot o))

-- of all that a value type is made of
abbrev pub values_extent : List Type_tree → List (Role × Option ComponentValType) → ℕ
values_extent ts ps = extents (slot_parts ts (value_slots ps))

-- ## Entries

-- of all entries
abbrev pub entries_extent : List (Text × Type_tree) → ℕ
entries_extent [] = 0
entries_extent (e ∷ es) = extent e.1 + entries_extent es

-- of what stands under the name
abbrev pub found_extent : List (Text × Type_tree) → Text → ℕ
found_extent xs n = elim (entry n xs) [ None ↦ 0 | Some x ↦ extent x ]

-- of what the entries of ys find by their names in xs
abbrev pub matched_extent : List (Text × Type_tree) → List (Text × Type_tree) → ℕ
matched_extent xs [] = 0
matched_extent xs (y ∷ ys) = found_extent xs y.0 + matched_extent xs ys

-- ## Beside the size

-- the paths of own resources inside, of what type entities refer to
abbrev mutual
  pub paths_extent : Type_tree → ℕ
  paths_extent (node type_entity ps) = second_paths ps
  paths_extent (node (component i ins outs) ps) = walks ins + walks outs + all_paths ps
  paths_extent (node h ps) = all_paths ps

  pub all_paths : Parts Name Name → ℕ
  all_paths none = 0
  all_paths (part r t ps) = paths_extent t + all_paths ps

  pub first_paths : Parts Name Name → ℕ
  first_paths none = 0
  first_paths (part r t ps) = paths_extent t

  pub second_paths : Parts Name Name → ℕ
  second_paths none = 0
  second_paths (part r t ps) = first_paths ps

-- inside the tree, both types of a type entity are of one size
abbrev pub EntitiesOfOneSize : Type_tree → Type 0
EntitiesOfOneSize t = EachNode (λ h ps. h ≡ type_entity → size (first_part ps) ≡ size (first_part (rest_parts ps))) t

-- ## An opening

-- the component and the paths of what it imports, the arguments that its imports find, and three times the imports: they are compared, and gone through once more with the arguments
abbrev pub opening_extent : List (Text × Type_tree) → Type_tree → ℕ
opening_extent args c = suc (walks (imported_paths (head c)) + (matched_extent args (named_imports c) + 3 * entries_extent (named_imports c)))
