use Rattle.std.proofs.Common.{ap}
use Rattle.wcv_types.specs.Arena.{Arena}
use Rattle.wcv_types.specs.declared.arena.Node.TheVariants as n
use Rattle.wcv_types.proofs.Grown.{is_last}
use Rattle.wcv_types.proofs.component_sort.ComponentTypeIdNodeSort.store.Goals as goal

pub returns-clause-stands : goal.returns-clause-stands
returns-clause-stands c =
    (c.args.shape, is_last c.args.types.now.nodes c.add.new.self.nodes (n.Component c.args.shape) c.in_ok-index.index (ap (λ (a : Arena). a.nodes) c.in_ok-index.ensures.added) c.in_ok-index.ensures.last)
