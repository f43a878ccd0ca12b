use Rattle.wcv_counterparts.proofs.Exporting.{component_names, component_stands, no_exporter, no_exports}
use Rattle.wcv_atoms.proofs.PassIds.{instance_stands}
use Rattle.wcv_atoms.proofs.PassSteps.{instance_names}
use Rattle.std.proofs.Common.{arith, ◌∙◌, ap}
use Rattle.wcv_types.specs.Entities.{entity_tree}
use Rattle.wcv_types.specs.Unfold.{trees}
use Rattle.wcv_types.specs.declared.shapes.ComponentEntityType.{ComponentEntityType}
use Rattle.wcv_matching.specs.Matching.{named_exports}
use Rattle.wcv_counterparts.proofs.counterparts.exports_of.Goals as goal

pub returns-in-Instance-clause-exports : goal.returns-in-Instance-clause-exports
returns-in-Instance-clause-exports g c =
    ap (λ (x : ComponentEntityType). named_exports (entity_tree (trees c.args.types.now.nodes) x)) c.in-Instance.is ∙ instance_names c.args.types.now c.in-Instance.id.index c.visited.result.now _ c.visited.ensures.unfolds

pub returns-in-Instance-clause-stand : goal.returns-in-Instance-clause-stand
returns-in-Instance-clause-stand g c = instance_stands c.args.types.now c.in-Instance.id.index c.visited.result.now c.visited.ensures.before

pub returns-in-Component-clause-exports : goal.returns-in-Component-clause-exports
returns-in-Component-clause-exports g c =
    ap (λ (x : ComponentEntityType). named_exports (entity_tree (trees c.args.types.now.nodes) x)) c.in-Component.is ∙ component_names c.args.types.now c.in-Component.id.index c.visited-in-Component.result.now _ c.visited-in-Component.ensures.unfolds

pub returns-in-Component-clause-stand : goal.returns-in-Component-clause-stand
returns-in-Component-clause-stand g c = component_stands c.args.types.now c.in-Component.id.index c.visited-in-Component.result.now c.visited-in-Component.ensures.before

pub returns-in_default : goal.returns-in_default
returns-in_default g c = record { exports = no_exports c.args.types.now c.nodes_fit.ensures.all c.args.ty c.requires c.in_default.not-Instance c.in_default.not-Component; some = no_exporter c.args.ty c.in_default.not-Instance c.in_default.not-Component; stand = tt; counted = omega arith }
