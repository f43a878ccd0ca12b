use Rattle.wcv_types.specs.declared.arena.Node.TheVariants as n
use Rattle.wcv_instantiate.proofs.OpenedType.{opened_is, read_stand}
use Rattle.wcv_instantiate.proofs.instances.read_type.Goals as goal

pub explicit_resource_paths-requires : goal.explicit_resource_paths-requires
explicit_resource_paths-requires g c = read_stand c.args.types.now c.args.id c.view-shape.result.now c.view-shape.ensures.found c.view-shape.ensures.unfolds

pub returns : goal.returns
returns g c =
    opened_is c.args.types.now c.args.id c.view-shape.result.now _ c.view-shape.ensures.found c.view-shape.ensures.unfolds c.view-shape.ensures.led c.len.ensures.unique c.in_ok-owned.ensures c.in_ok-exports.ensures
    (c.nodes_fit.ensures.again c.args.id.index (n.Instance c.view-shape.result.now) c.view-shape.ensures.found).apart
