-- Declarations that are read by calls, one after another, each by names of its own that the arena gave.
use Rattle.std.specs.Prelude.{ℕ, suc, ◌≤◌, Bool, Some, ◌≡◌, ◌⊎◌}
use Rattle.wcv_core.specs.Names.{Place, deeper}
use Rattle.wcv_core.specs.declared.error.ErrorKind.{ErrorKind}
use Rattle.wcv_core.specs.declared.features.WasmFeatures.{WasmFeatures}
use Rattle.wcv_syntax.specs.Model.{Type_form, Decl, Decls, no_decls, declare}
use Rattle.wcv_lower.specs.Checks.{Cause, IsFree}
use Rattle.wcv_lower.specs.Context.{Kind}
use Rattle.wcv_lower.specs.Declared.{read_type, read_decl, declared_checks, decl_checks}
use Rattle.wcv_lower.specs.Ending.{declared_end_checks}
use Rattle.wcv_lower.specs.Given.{GivenNames, names_of, Numbers, AtMost, GivesAt}
use Rattle.wcv_lower.specs.Names.{Under}
use Rattle.wcv_lower.specs.Trees.{Tree_stack, tree_maker}

-- in the n-th declaration at that place, or in a later one
abbrev pub FromDecl : Place → ℕ → Place → Type 0
FromDecl p n q = (j : ℕ) × (n ≤ j) × Under (deeper p j) q

-- a type item has no cause, and leads from one stack to another
abbrev pub TypeRead : Bool → WasmFeatures → Place → Tree_stack → Type_form → Tree_stack → Numbers → Numbers → Type 0
TypeRead limited fs p s t u a b = (n : GivenNames) × GivesAt (Under p) a b n × IsFree (declared_checks limited fs (tree_maker (names_of n)) p s t) × (read_type fs (tree_maker (names_of n)) p s t ≡ Some u)

-- a declaration has no cause, and leads from one stack to another
abbrev pub DeclRead : WasmFeatures → Place → Tree_stack → Decl → Tree_stack → Numbers → Numbers → Type 0
DeclRead fs p s d u a b = (n : GivenNames) × GivesAt (Under p) a b n × IsFree (decl_checks fs (tree_maker (names_of n)) p s d) × (read_decl fs (tree_maker (names_of n)) p s d ≡ Some u)

-- and the declarations at that place, of which the first has position n
abbrev pub DeclsRead : WasmFeatures → Place → ℕ → Tree_stack → Decls → Tree_stack → Numbers → Numbers → Type 0
DeclsRead fs p n s no_decls u a b = (s ≡ u) × AtMost a b
DeclsRead fs p n s (declare d ds) u a b = (t : Tree_stack) × (m : Numbers) × AtMost a m × AtMost m b × DeclRead fs (deeper p n) s d t a m × DeclsRead fs p (suc n) t ds u m b

-- that kind is a cause of one of them, or of the end, and those before it were read
abbrev pub DeclsRefused : WasmFeatures → Place → ℕ → Kind → Tree_stack → Decls → ErrorKind → Numbers → Numbers → Type 0
DeclsRefused fs p n k s no_decls e a b = Cause (declared_end_checks k s.top) e
DeclsRefused fs p n k s (declare d ds) e a b =
    ((g : GivenNames) × GivesAt (Under (deeper p n)) a b g × Cause (decl_checks fs (tree_maker (names_of g)) (deeper p n) s d) e) ⊎
    ((t : Tree_stack) × (m : Numbers) × AtMost a m × AtMost m b × DeclRead fs (deeper p n) s d t a m × DeclsRefused fs p (suc n) k t ds e m b)

-- that kind is a cause of a type item, by names that the arena gave
abbrev pub TypeRefused : Bool → WasmFeatures → Place → Tree_stack → Type_form → ErrorKind → Numbers → Numbers → Type 0
TypeRefused limited fs p s t e a b = (n : GivenNames) × GivesAt (Under p) a b n × Cause (declared_checks limited fs (tree_maker (names_of n)) p s t) e
