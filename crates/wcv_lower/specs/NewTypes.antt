-- Types under names that are given at a place.
use Rattle.std.specs.Prelude.{ℕ, List, [], map, cond, Option, Some, None}
use Rattle.wcv_core.specs.Names.{Name, Place, member}
use Rattle.wcv_types.specs.FirstPath.{first_path}
use Rattle.wcv_types.specs.Rebuild.{anew}
use Rattle.wcv_types.specs.Replacing.{Replacement, replaced}
use Rattle.wcv_types.specs.Tree.{Head, resource, instance, node, resource_type, type_of, exports, owned}
use Rattle.wcv_types.specs.Unfold.{Type_tree}
use Rattle.wcv_lower.specs.Names.{Names, introduced, again, stamp_at}

-- the entry of a type
abbrev pub type_entry : Type_tree → Type_tree
type_entry t = type_of t t

-- a node has another identity, a reference another stamp
abbrev pub renewed_head : Names → Place → Head Name Name → Head Name Name
renewed_head names p (resource r s) = resource r (names.identity (stamp_at p))
renewed_head names p h = anew (names.identity (introduced p)) h

-- the same type
abbrev pub renewed : Names → Place → Type_tree → Type_tree
renewed names p (node h ps) = node (renewed_head names p h) ps

-- the reference to a resource that is new there
abbrev pub new_reference : Names → Place → Type_tree
new_reference names p = resource_type (names.resource (introduced p)) (names.identity (stamp_at p))

-- ## An instance of an instance type

-- each of these resources becomes one that is made there, and a node that mentions one is made again
abbrev pub owned_anew : Names → Place → List Name → Replacement
owned_anew names p own = record {
  resources = λ r. cond (member r own) (Some (names.resource (again p r))) None;
  nodes = λ i. None;
  again = λ i. names.identity (again p i);
}

-- what the type owns is new, and the instance owns nothing. A type that owns nothing stays as it is
abbrev pub instance_tree : Names → Place → Type_tree → Type_tree
instance_tree names p (node (instance i own) ps) = replaced (owned_anew names p own) (node (instance i []) ps)
instance_tree names p t = t

abbrev pub path_or_none : Option (List ℕ) → List ℕ
path_or_none None = []
path_or_none (Some q) = q

-- the resources that are new there, each with the first path that leads to it in the instance
abbrev pub instance_resources : Names → Place → Type_tree → List (Name × List ℕ)
instance_resources names p t = map (λ r. (names.resource (again p r), path_or_none (first_path r (exports t)))) (owned t)
