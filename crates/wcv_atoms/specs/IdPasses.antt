-- The passes of matching and of sameness, as one that is told which it is, over entries by ids.
use Rattle.std.specs.Prelude.{ℕ, max, List, [], ◌∷◌, map, Bool, true, false, ◌&&◌, cond, Option, None, Some, ◌≡◌, ◌≤◌}
use Rattle.wcv_core.specs.CoreForm.{Group}
use Rattle.wcv_types.specs.Entities.{entity_tree}
use Rattle.wcv_types.specs.Tree.{Text, owned}
use Rattle.wcv_types.specs.Unfold.{Type_tree, resource_names}
use Rattle.wcv_types.specs.declared.ids.ComponentAnyTypeId.{ComponentAnyTypeId}
use Rattle.wcv_types.specs.declared.ids.ComponentAnyTypeId.TheVariants as any
use Rattle.wcv_types.specs.declared.ids.ResourceId.{ResourceId}
use Rattle.wcv_types.specs.declared.shapes.ComponentEntityType.{ComponentEntityType}
use Rattle.wcv_types.specs.declared.shapes.ComponentEntityType.TheVariants as entity
use Rattle.wcv_types.specs.declared.shapes.ComponentValType.TheVariants as v
use Rattle.wcv_types.specs.declared.item_map.ComponentItem.{ComponentItem}
use Rattle.wcv_matching.specs.AtomTests.{id_tests, same_atom}
use Rattle.wcv_matching.specs.Matching.{Reading}
use Rattle.wcv_matching.specs.OnePass.{Atom, Pass, Tests, each_passes, match_below, pairs_pass, same_below, same_members}
use Rattle.wcv_matching.specs.Orderly.{height}
use Rattle.wcv_atoms.specs.Readings.{resource_name}

-- whether the types are the same where that is asked, or else whether the one matches the other
abbrev pub pass_below : Bool → Tests → ℕ → Pass
pass_below exact test d = cond exact (same_below test d) (match_below test d)

abbrev pub entries_pass : {X : Type 0} → Bool → (X → X → Bool) → List (Text × X) → List (Text × X) → Bool
entries_pass exact R xs ys = cond exact (pairs_pass R xs ys) (each_passes R xs ys)

-- the entries by name, with their trees
abbrev pub named_trees : List Type_tree → List (Text × ComponentItem) → List (Text × Type_tree)
named_trees ts es = map (λ e. (e.0, entity_tree ts e.1.ty)) es

-- the height of the highest
abbrev pub tallest : List (Text × Type_tree) → ℕ
tallest [] = 0
tallest (e ∷ es) = max (height e.1) (tallest es)

-- the answer of the pass at each bound that is enough
abbrev pub Answers : List Group → Bool → ℕ → Reading Atom → Reading Atom → Type_tree → Type_tree → Bool → Type 0
Answers gs exact k f g a b answer = (d : ℕ) → height a ≤ d → height b ≤ d → answer ≡ pass_below exact (id_tests gs) d k f g a b

-- the answer of the pass over entries, at each bound that is enough
abbrev pub AnswersEntries : List Group → Bool → ℕ → Reading Atom → Reading Atom → List (Text × Type_tree) → List (Text × Type_tree) → Bool → Type 0
AnswersEntries gs exact k f g xs ys answer = (d : ℕ) → tallest xs ≤ d → tallest ys ≤ d → answer ≡ entries_pass exact (pass_below exact (id_tests gs) d k f g) xs ys

-- the answer to whether types that entries refer to are the same and own the same resources, at each bound that is enough
abbrev pub AnswersTypes : List Group → ℕ → Reading Atom → Reading Atom → Type_tree → Type_tree → Bool → Type 0
AnswersTypes gs k f g a b answer = (d : ℕ) → height a ≤ d → height b ≤ d → answer ≡ (same_below (id_tests gs) d k f g a b && same_members (owned a) (owned b))

-- the readings of both sides are as they were, where the answer is yes
abbrev pub StaysIf : Bool → Reading Atom → Reading Atom → Type 0
StaysIf answer f g = answer ≡ true → g ≡ f

-- these are the resources that the tree owns as an instance type; what is none owns none
abbrev pub OwnsBy : Option (List ResourceId) → Type_tree → Type 0
OwnsBy o t = owned t ≡ elim o [ None ↦ [] | Some rs ↦ resource_names rs ]

-- of core modules
abbrev pub modules_pass : Tests → Bool → Type_tree → Type_tree → Bool
modules_pass test exact a b = cond exact (test.modules a b && test.modules b a) (test.modules a b)

-- ## A type of any sort

abbrev pub as_entity : ComponentAnyTypeId → Option ComponentEntityType
as_entity (any.Resource r) = None
as_entity (any.Defined i) = Some (entity.Value (v.Ty i))
as_entity (any.Func i) = Some (entity.Func i)
as_entity (any.Instance i) = Some (entity.Instance i)
as_entity (any.Component i) = Some (entity.Component i)

abbrev pub as_resource : ComponentAnyTypeId → Option ResourceId
as_resource (any.Resource r) = Some r.resource
as_resource x = None

-- both are resources, which are read as one
abbrev pub same_resource : Reading Atom → Reading Atom → Option ResourceId → Option ResourceId → Bool
same_resource f g (Some r) (Some q) = same_atom (f (resource_name r)) (g (resource_name q))
same_resource f g o u = false
