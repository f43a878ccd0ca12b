use Rattle.wcv_instantiate.proofs.ExportsAnew.{type_pushed}
use Rattle.wcv_instantiate.proofs.instances.push_type.Goals as goal

pub returns-clause-ok : goal.returns-clause-ok
returns-clause-ok g c =
    type_pushed c.args.types.now c.remap_component_entity.new.types c.args.map.now c.remap_component_entity.new.map _ _ c.args.entry.now c.remap_component_entity.new.ty c.args.tys.now.items c.push.new.self.items c.in_ok-remap_component_entity.ensures.done c.in_ok-push.ensures.items
