-- One pass that decides whether two types are the same, and one that decides matching.
use Rattle.std.specs.Prelude.{ℕ, zero, suc, List, [], ◌∷◌, Bool, true, false, ◌&&◌, ◌||◌, cond, eqb, ◌<◌, ◌≡◌, Some, None, is_some, ◌+◌}
use Rattle.std.specs.Bool.{Decides}
use Rattle.std.specs.List.{list_all}
use Rattle.std.specs.Map.{lookup}
use Rattle.wcv_core.specs.Names.{Name, same, member}
use Rattle.wcv_types.specs.Tree.{Text, Head, component, Tree, Sort, is_nothing, is_value, is_resource, is_func, is_instance, is_component, is_type, is_module, is_core_instance, is_core_type, is_core_item, head, sort, referenced, owned, imported, imported_at}
use Rattle.wcv_types.specs.Replacing.{or_same}
use Rattle.wcv_types.specs.Resources.{owns}
use Rattle.wcv_types.specs.Seen.{Within, seen}
use Rattle.wcv_types.specs.Unfold.{Type_tree}
use Rattle.wcv_closed.specs.CoreModules.{ModuleMatches}
use Rattle.wcv_matching.specs.Matching.{Item_rule, Reading, outside, opened_by, named_exports, named_imports}
use Rattle.wcv_matching.specs.ModuleItems.{module_items}
use Rattle.wcv_matching.specs.NamedPaths.{entry, and_then, follow}
use Rattle.wcv_matching.specs.Orderly.{height}
use Rattle.wcv_matching.specs.SameTypes.{defined_by}

-- ## Readings of one type

-- how the pass reads a resource: one of outside by its name, one that a node around owns by the level of that node
pub data Atom : Type 0 where
  given : Name → Atom
  -- of an instance type, or imported by the right component
  owned_in : ℕ → Name → Atom
  -- defined by the right component
  made_in : ℕ → Name → Atom

-- no node at that level or inside is meant
abbrev pub IsAbove : ℕ → Atom → Type 0
IsAbove k (given r) = Unit {0}
IsAbove k (owned_in j r) = j < k
IsAbove k (made_in j r) = j < k

-- in an instance type at level k
abbrev pub under_at : ℕ → Head Name Name → Reading Atom → Reading Atom
under_at k h f r = cond (owns h r) (owned_in k r) (f r)

-- in a component: s reads the imported resources, t those that it defines
abbrev pub component_at : Head Name Name → Reading Atom → Reading Atom → Reading Atom → Reading Atom
component_at h s t f r = cond (owns h r) (cond (member r (imported_at h)) (s r) (t r)) (f r)

-- ## Own resources by their paths

abbrev pub imported_paths : Head Name Name → List (Name × List ℕ)
imported_paths (component i ins outs) = ins
imported_paths h = []

abbrev pub made_paths : Head Name Name → List (Name × List ℕ)
made_paths (component i ins outs) = outs
made_paths h = []

-- where the first path that is recorded for r leads in xs
abbrev pub counterpart : List (Name × List ℕ) → List (Text × Type_tree) → List (Text × Type_tree) → Name → Name
counterpart ps es xs r = or_same r (and_then (lookup (same r) ps) (λ p. follow p es xs))

-- the resource of b for an imported one of a, and for one that a defines
abbrev pub imported_in : Type_tree → Type_tree → Name → Name
imported_in a b = counterpart (imported_paths (head a)) (named_imports a) (named_imports b)

abbrev pub defined_in : Type_tree → Type_tree → Name → Name
defined_in a b = counterpart (made_paths (head a)) (named_exports a) (named_exports b)

-- the first r of the list that goes to q
abbrev pub goes : (Name → Bool) → (Name → Name) → Name → Name → Bool
goes skip to q r = cond (skip r) false (same (to r) q)

abbrev pub first_to : (Name → Bool) → (Name → Name) → Name → List Name → Name
first_to skip to q [] = q
first_to skip to q (r ∷ rs) = cond (goes skip to q r) r (first_to skip to q rs)

-- no two of the list go to one, but for those that are skipped
abbrev pub one_to_one : (Name → Bool) → (Name → Name) → List Name → Bool
one_to_one skip to rs = list_all (λ r. skip r || same (first_to skip to (to r) rs) r) rs

abbrev pub own_pair_up : Type_tree → Type_tree → Bool
own_pair_up a b = one_to_one (λ r. false) (imported_in a b) (imported a) && one_to_one (λ r. member r (imported a)) (defined_in a b) (defined_by a)

-- ## Entries

abbrev pub found_in : {X : Type 0} → (X → X → Bool) → List (Text × X) → Text × X → Bool
found_in R xs e = elim (entry e.0 xs) [ None ↦ false | Some x ↦ R x e.1 ]

-- the names of xs are names of ys, and for each entry of ys the one in xs passes with it
abbrev pub pairs_pass : {X : Type 0} → (X → X → Bool) → List (Text × X) → List (Text × X) → Bool
pairs_pass R xs ys = list_all (λ e. is_some (entry e.0 ys)) xs && list_all (found_in R xs) ys

abbrev pub same_members : List Name → List Name → Bool
same_members xs ys = list_all (λ r. member r ys) xs && list_all (λ r. member r xs) ys

abbrev pub sort_number : Sort → ℕ
sort_number is_nothing = 0
sort_number is_value = 1
sort_number is_resource = 2
sort_number is_func = 3
sort_number is_instance = 4
sort_number is_component = 5
sort_number is_type = 6
sort_number is_module = 7
sort_number is_core_instance = 8
sort_number is_core_type = 9
sort_number is_core_item = 10

-- ## The pass

abbrev pub Pass : Type 0
Pass = ℕ → Reading Atom → Reading Atom → Type_tree → Type_tree → Bool

abbrev pub Seen_tree : Type 0
Seen_tree = Tree (Within Atom) (Unit {0})

-- tests of trees as they are seen, for value types, functions and resources, and of core modules
pub record Tests : Type 0 where
  pub same_seen : Seen_tree → Seen_tree → Bool
  pub modules : Type_tree → Type_tree → Bool

-- the tests answer what they ask
pub record AreRight (C : Item_rule) (test : Tests) : Type 0 where
  pub same_seen : (s t : Seen_tree) → Decides (test.same_seen s t) (s ≡ t)
  pub modules : (a b : Type_tree) → Decides (test.modules a b) (ModuleMatches C (module_items a) (module_items b))

-- the rule of each sort, where S is the pass of parts; at a level that is above none of the resources read
abbrev pub same_as : Tests → Pass → Sort → Pass
same_as test S is_instance k f g a b =
    pairs_pass (S (suc k) (under_at k (head a) f) (under_at k (head b) g)) (named_exports a) (named_exports b)
same_as test S is_type k f g a b =
    S k f g (referenced a) (referenced b) && same_members (owned (referenced a)) (owned (referenced b))
same_as test S is_component k f g a b =
    own_pair_up a b &&
    (pairs_pass (S (suc k) (component_at (head a) (λ r. owned_in k (imported_in a b r)) (made_in k) f) (component_at (head b) (owned_in k) (made_in k) g)) (named_imports a) (named_imports b) &&
    pairs_pass (S (suc k) (component_at (head a) (λ r. owned_in k (imported_in a b r)) (λ r. made_in k (defined_in a b r)) f) (component_at (head b) (owned_in k) (made_in k) g)) (named_exports a) (named_exports b))
same_as test S is_module k f g a b = test.modules a b && test.modules b a
same_as test S _ k f g a b = test.same_seen (seen (outside f) a) (seen (outside g) b)

-- whether a and b are the same, in trees of less than that height
abbrev pub same_below : Tests → ℕ → Pass
same_below test zero k f g a b = false
same_below test (suc d) k f g a b = eqb (sort_number (sort a)) (sort_number (sort b)) && same_as test (same_below test d) (sort a) k f g a b

-- ## The pass that decides matching

-- the first entry of xs passes with each entry of ys
abbrev pub each_passes : {X : Type 0} → (X → X → Bool) → List (Text × X) → List (Text × X) → Bool
each_passes R xs ys = list_all (found_in R xs) ys

-- the right component at level k, as its imports are read
abbrev pub right_at : ℕ → Head Name Name → Reading Atom → Reading Atom
right_at k h g = component_at h (owned_in k) (made_in k) g

-- the imported resources of a are read as what stands at their paths in the imports of b
abbrev pub opened_at : ℕ → Reading Atom → Type_tree → Type_tree → Reading Atom
opened_at k g a b r = right_at k (head b) g (imported_in a b r)

abbrev pub left_at : ℕ → Reading Atom → Reading Atom → Type_tree → Type_tree → Reading Atom
left_at k f g a b = component_at (head a) (opened_at k g a b) (made_in k) f

-- the resources that b defines are read as what stands at their paths in the exports of a
abbrev pub exports_at : ℕ → Reading Atom → Reading Atom → Type_tree → Type_tree → Reading Atom
exports_at k f g a b = component_at (head b) (owned_in k) (λ q. left_at k f g a b (defined_in b a q)) g

-- a resource that a component at level k defines
abbrev pub is_made_in : ℕ → Atom → Bool
is_made_in k (made_in j r) = eqb j k
is_made_in k w = false

abbrev pub match_as : Tests → Pass → Pass → Sort → Pass
match_as test S M is_instance k f g a b = each_passes (M (suc k) (under_at k (head a) f) (under_at k (head b) g)) (named_exports a) (named_exports b)
match_as test S M is_type k f g a b = same_as test S is_type k f g a b
match_as test S M is_component k f g a b =
    list_all (λ r. cond (is_made_in k (opened_at k g a b r)) false true) (imported a) &&
    (each_passes (M (suc k) (right_at k (head b) g) (left_at k f g a b)) (named_imports b) (named_imports a) &&
    each_passes (M (suc k) (left_at k f g a b) (exports_at k f g a b)) (named_exports a) (named_exports b))
match_as test S M is_module k f g a b = test.modules a b
match_as test S M _ k f g a b = test.same_seen (seen (outside f) a) (seen (outside g) b)

-- whether a matches b, in trees of less than that height
abbrev pub match_below : Tests → ℕ → Pass
match_below test zero k f g a b = false
match_below test (suc d) k f g a b = eqb (sort_number (sort a)) (sort_number (sort b)) && match_as test (same_below test d) (match_below test d) (sort a) k f g a b

-- ## At the top

abbrev pub enough : Type_tree → Type_tree → ℕ
enough a b = suc (height a + height b)

-- the passes at a bound that is enough
abbrev pub match_pass : Tests → Pass
match_pass test k f g a b = match_below test (enough a b) k f g a b

abbrev pub same_pass : Tests → Pass
same_pass test k f g a b = same_below test (enough a b) k f g a b

abbrev pub passes_match : Tests → Type_tree → Type_tree → Bool
passes_match test a b = match_pass test 0 given given a b

abbrev pub passes_same : Tests → Type_tree → Type_tree → Bool
passes_same test a b = same_pass test 0 given given a b

-- ## Arguments of a component

-- what stands among the arguments at the path of an imported resource of c
abbrev pub argument_for : List (Text × Type_tree) → Type_tree → Name → Name
argument_for args c = counterpart (imported_paths (head c)) (named_imports c) args

-- whether the arguments open the imports of c
abbrev pub opens_pass : Tests → List (Text × Type_tree) → Type_tree → Bool
opens_pass test args c = each_passes (match_pass test 0 given (λ r. given (opened_by (argument_for args c) c r))) args (named_imports c)
