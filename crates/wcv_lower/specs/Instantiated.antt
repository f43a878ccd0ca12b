-- The instance of a component, under names that are given at a place.
use Rattle.std.specs.Prelude.{ℕ, List, [], map, cond, Option, Some, None}
use Rattle.std.specs.Map.{lookup}
use Rattle.wcv_core.specs.Names.{Name, Place, member}
use Rattle.wcv_types.specs.Identity.{same_identity}
use Rattle.wcv_types.specs.Replacing.{Replacement, replaced}
use Rattle.wcv_types.specs.Tree.{Text, head, exports, imported_at, instance_type}
use Rattle.wcv_types.specs.Unfold.{Type_tree}
use Rattle.wcv_matching.specs.GivenTypes.{given_for}
use Rattle.wcv_matching.specs.Matching.{named_imports}
use Rattle.wcv_matching.specs.OnePass.{argument_for, made_paths}
use Rattle.wcv_matching.specs.SameTypes.{made_at}
use Rattle.wcv_lower.specs.Mapped.{map_entries}
use Rattle.wcv_lower.specs.Names.{Names, introduced, again}

-- ## What is replaced

-- an imported resource becomes that of its argument, a defined one is new there, and others stay
abbrev pub opened_resource : Names → Place → List (Text × Type_tree) → Type_tree → Name → Option Name
opened_resource names p args c r = cond (member r (imported_at (head c))) (Some (argument_for args c r)) (cond (member r (made_at (head c))) (Some (names.resource (again p r))) None)

-- of what is given for one identity the first counts
abbrev pub opening : Names → Place → List (Text × Type_tree) → Type_tree → Replacement
opening names p args c = record {
  resources = opened_resource names p args c;
  nodes = λ i. lookup (same_identity i) (given_for args (named_imports c));
  again = λ i. names.identity (again p i);
}

-- ## The instance

-- it exports what the component does, under the opening, and owns nothing
abbrev pub instantiated : Names → Place → List (Text × Type_tree) → Type_tree → Type_tree
instantiated names p args c = instance_type (names.identity (introduced p)) [] (map_entries (replaced (opening names p args c)) (exports c))

-- the resources that are new there, each with the path at which the component exports what it defines
abbrev pub instantiated_resources : Names → Place → Type_tree → List (Name × List ℕ)
instantiated_resources names p c = map (λ (r : Name × List ℕ). (names.resource (again p r.0), r.1)) (made_paths (head c))
