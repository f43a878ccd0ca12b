use Rattle.wcv_types.proofs.Rebuilding.{func_made}
use Rattle.wcv_types.proofs.func_sort.ComponentFuncTypeIdTypeSort.rebuild.Goals as goal

pub returns-clause-ok : goal.returns-clause-ok
returns-clause-ok c =
    func_made _ _ c.args.self c.in_ok-made.made c.node.result.now c.in_ok-shape.shape c.args.parts.now c.node.ensures.found c.node.ensures.unfolds c.in_ok-shape.ensures.slots c.in_ok-shape.ensures.mark
    c.in_ok-made.ensures.added c.in_ok-made.ensures.last c.in_ok-made.ensures.stands
