use Rattle.std.proofs.Common.{List, sym, subst}
use Rattle.wcv_types.specs.ShapeNumbers.{Numbered}
use Rattle.wcv_types.specs.declared.arena.Node.{Node}
use Rattle.wcv_types.proofs.nodes.Nodes.put_numbers.Goals as goal

pub invariant_of-self : goal.invariant_of-self
invariant_of-self c = (c.self.invariant.0, subst (λ (xs : List Node). Numbered xs c.args.numbers) (sym c.self.view_is) c.requires)
