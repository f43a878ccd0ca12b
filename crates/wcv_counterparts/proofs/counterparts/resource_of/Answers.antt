use Rattle.std.proofs.Common.{sym, ◌∙◌, ap, subst, option_map}
use Rattle.wcv_types.specs.Entities.{entity_tree, EntityStands}
use Rattle.wcv_types.specs.Tree.{head, referenced}
use Rattle.wcv_types.specs.Unfold.{trees}
use Rattle.wcv_types.specs.declared.shapes.ComponentEntityType.{ComponentEntityType}
use Rattle.wcv_matching.specs.NamedPaths.{resource_at}
use Rattle.wcv_atoms.specs.Readings.{resource_name}
use Rattle.wcv_counterparts.proofs.Exporting.{no_resource_there, referred}
use Rattle.wcv_counterparts.proofs.counterparts.resource_of.Goals as goal

pub returns-in-Ty : goal.returns-in-Ty
returns-in-Ty c =
    ap (option_map resource_name) c.as_resource.ensures ∙ referred c.args.types.now c.in-Ty.referenced (subst (EntityStands c.args.types.now) c.in-Ty.is c.requires).1 ∙
    sym (ap (λ (x : ComponentEntityType). resource_at (head (referenced (entity_tree (trees c.args.types.now.nodes) x)))) c.in-Ty.is)

pub returns-in_default : goal.returns-in_default
returns-in_default c = sym (no_resource_there c.args.types.now c.nodes_fit.ensures.all c.args.ty c.requires c.in_default.not-Ty)
