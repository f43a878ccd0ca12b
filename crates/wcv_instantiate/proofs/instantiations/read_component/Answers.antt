use Rattle.wcv_types.specs.declared.arena.Node.TheVariants as n
use Rattle.wcv_instantiate.proofs.Exporter.{exporter_is}
use Rattle.wcv_instantiate.proofs.instantiations.read_component.Goals as goal

pub returns : goal.returns
returns g c =
    exporter_is c.args.types.now c.args.id c.view-shape.result.now _ c.view-shape.ensures.found c.view-shape.ensures.unfolds c.in_ok-owned.ensures c.len.ensures.unique c.in_ok-exports.ensures
    (c.nodes_fit.ensures.again c.args.id.index (n.Component c.view-shape.result.now) c.view-shape.ensures.found).apart.1
