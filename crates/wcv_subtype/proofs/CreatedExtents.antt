-- What an import creates counts at least one step.
use Rattle.std.proofs.Common.{◌≡◌, ◌≤◌, Bool, true, false, ap, arith}
use Rattle.wcv_types.specs.Arena.{Arena}
use Rattle.wcv_types.specs.Entities.{any_part, entity_tree, EntityStands}
use Rattle.wcv_types.specs.Standing.{Stands}
use Rattle.wcv_types.specs.Tree.{Former, own_of, nothing, primitive, resource, defined, func, instance, component, type_entity, core_module, core_instance, core_type, core_item, node, Sort, is_value, is_resource, is_func, is_instance, is_component, sort}
use Rattle.wcv_types.specs.Unfold.{Type_tree, trees, tree_at}
use Rattle.wcv_types.specs.declared.ids.ComponentAnyTypeId.{ComponentAnyTypeId}
use Rattle.wcv_types.specs.declared.ids.ComponentAnyTypeId.TheVariants as any
use Rattle.wcv_types.specs.declared.ids.Part.TheVariants as p
use Rattle.wcv_types.specs.declared.shapes.ComponentEntityType.{ComponentEntityType}
use Rattle.wcv_types.specs.declared.shapes.ComponentEntityType.TheVariants as entity
use Rattle.wcv_types.proofs.Unfolding.{sort_stands}
use Rattle.wcv_atoms.specs.Extent.{extent}
use Rattle.wcv_subtype.specs.Openings.{may_create}

-- what counts at least 1
abbrev is_counted : Sort → Bool
is_counted is_value = true
is_counted is_resource = true
is_counted is_func = true
is_counted is_instance = true
is_counted is_component = true
is_counted s = false

counts : (t : Type_tree) → is_counted (sort t) ≡ true → 1 ≤ extent t
counts (node (primitive q) ps) h = omega arith
counts (node (resource r s) ps) h = omega arith
counts (node (func i b) ps) h = omega arith
counts (node (instance i rs) ps) h = omega arith
counts (node (component i ins outs) ps) h = omega arith
counts (node (defined i k) ps) h = go k
  where
    go : (k : Former) → 1 ≤ extent (node (defined i k) ps)
    go own_of = omega arith
    go _ = omega arith
counts (node nothing ps) h = cc
counts (node type_entity ps) h = cc
counts (node (core_module i k) ps) h = cc
counts (node (core_instance i k) ps) h = cc
counts (node (core_type i) ps) h = cc
counts (node (core_item i) ps) h = cc

any_counts : (a : Arena) (x : ComponentAnyTypeId) → Stands a (any_part x) → 1 ≤ extent (tree_at a (any_part x))
any_counts a (any.Resource r) s = omega arith
any_counts a (any.Defined i) s = counts (tree_at a (p.Defined i)) (ap (λ (k : Sort). is_counted k) (sort_stands a (p.Defined i) s))
any_counts a (any.Func i) s = counts (tree_at a (p.Func i)) (ap (λ (k : Sort). is_counted k) (sort_stands a (p.Func i) s))
any_counts a (any.Instance i) s = counts (tree_at a (p.Instance i)) (ap (λ (k : Sort). is_counted k) (sort_stands a (p.Instance i) s))
any_counts a (any.Component i) s = counts (tree_at a (p.Component i)) (ap (λ (k : Sort). is_counted k) (sort_stands a (p.Component i) s))

pub created_counts : (a : Arena) (x : ComponentEntityType) → EntityStands a x → may_create x ≡ true → 1 ≤ extent (entity_tree (trees a.nodes) x)
created_counts a (entity.Ty c r) s h = any_counts a r s.1
created_counts a (entity.Instance i) s h = counts (tree_at a (p.Instance i)) (ap (λ (k : Sort). is_counted k) (sort_stands a (p.Instance i) s))
created_counts a (entity.Module i) s h = cc
created_counts a (entity.Func i) s h = cc
created_counts a (entity.Value w) s h = cc
created_counts a (entity.Component i) s h = cc
