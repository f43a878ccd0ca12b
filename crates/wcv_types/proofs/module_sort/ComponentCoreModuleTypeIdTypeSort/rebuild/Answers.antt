use Rattle.wcv_types.specs.declared.arena.Node.TheVariants as n
use Rattle.wcv_types.proofs.ModulesRebuilt.{module_fits, module_made}
use Rattle.wcv_types.proofs.module_sort.ComponentCoreModuleTypeIdTypeSort.rebuild.Goals as goal

pub store-requires : goal.store-requires
store-requires c =
    module_fits c.args.types.now c.node.result.now c.in_ok-shape.shape c.in_ok-shape.ensures.info c.in_ok-shape.ensures.imports c.in_ok-shape.ensures.exports
    (c.nodes_fit.ensures.again c.args.self.index (n.Module c.node.result.now) c.node.ensures.found)

pub returns-clause-ok : goal.returns-clause-ok
returns-clause-ok c =
    module_made _ _ c.args.self c.in_ok-made.made c.node.result.now c.in_ok-shape.shape c.args._parts.now c.node.ensures.found c.node.ensures.unfolds c.in_ok-shape.ensures.info c.in_ok-shape.ensures.imports c.in_ok-shape.ensures.exports
    c.in_ok-shape.ensures.types c.in_ok-made.ensures.added c.in_ok-made.ensures.last c.in_ok-made.ensures.stands
