-- How nodes are known.
use Rattle.std.specs.Prelude.{Bool, false, ◌&&◌, Option, Some, None}
use Rattle.wcv_core.specs.Names.{Name, same}
use Rattle.wcv_types.specs.Tree.{Head, resource, defined, func, instance, component, core_module, core_instance}

-- a node is known by its identity, a resource reference by its resource and its stamp
pub data Identity : Type 0 where
  of_node : Name → Identity
  of_reference : Name → Name → Identity

-- a primitive, a type entity, a core type, a core item, and what is left out have none
abbrev pub identity_at : Head Name Name → Option Identity
identity_at (resource r s) = Some (of_reference r s)
identity_at (defined i k) = Some (of_node i)
identity_at (func i b) = Some (of_node i)
identity_at (instance i own) = Some (of_node i)
identity_at (component i ins outs) = Some (of_node i)
identity_at (core_module i n) = Some (of_node i)
identity_at (core_instance i n) = Some (of_node i)
identity_at _ = None

-- two identities are one
abbrev pub same_identity : Identity → Identity → Bool
same_identity (of_node a) (of_node b) = same a b
same_identity (of_reference q a) (of_reference r b) = same q r && same a b
same_identity _ _ = false

-- both are there, and are one
abbrev pub same_known : Option Identity → Option Identity → Bool
same_known (Some i) (Some j) = same_identity i j
same_known _ _ = false

-- f renames resources, g identities and stamps
abbrev pub rename_identity : (Name → Name) → (Name → Name) → Identity → Identity
rename_identity f g (of_node i) = of_node (g i)
rename_identity f g (of_reference r s) = of_reference (f r) (g s)
