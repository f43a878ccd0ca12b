use Rattle.std.proofs.Common.{◌≡◌, rules, List, sym, subst}
use Rattle.wcv_types.specs.Facts.{nodes_at}
use Rattle.wcv_types.specs.ShapeNumbers.{Numbered}
use Rattle.wcv_types.specs.declared.arena.Node.{Node}
use Rattle.wcv_types.specs.declared.shape_numbers.ShapeNumbers.{ShapeNumbers}
use Rattle.wcv_types.proofs.nodes.Nodes.take_numbers.Goals as goal

pub invariant_of-self : goal.invariant_of-self
invariant_of-self c =
    let xs : List Node = nodes_at c.self.inside.known.items c.self.inside.positions.items in
    let e : c.replace.new.dest ≡ c.new.result = search rules in
    (c.self.invariant.0, subst (λ (t : ShapeNumbers). Numbered xs t) (sym e) (c.new.ensures xs))

pub returns-clause-numbers : goal.returns-clause-numbers
returns-clause-numbers c =
    let e : c.replace.result ≡ c.self.inside.numbers = search rules in
    subst (λ (t : ShapeNumbers). Numbered c.args.self.now t) (sym e) (subst (λ (xs : List Node). Numbered xs c.self.inside.numbers) c.self.view_is c.self.invariant.1)
