use Rattle.std.proofs.Common.{◌≡◌, rules, length, ◌<◌, List, refl, sym, subst}
use Rattle.wcv_types.specs.Facts.{nodes_at}
use Rattle.wcv_types.specs.declared.arena.Node.{Node}
use Rattle.wcv_types.proofs.ShapeTables.{numbered_push}
use Rattle.wcv_types.proofs.Sharing.{again_is, known_again, stay}
use Rattle.wcv_types.proofs.nodes.Nodes.push_again.Goals as goal

pub invariant_of-self : goal.invariant_of-self
invariant_of-self c =
    let same : c.push.new.self.items ≡ c.self.inside.positions.items = search rules in
    stay c.self.inside.known.items c.self.inside.known.items c.self.inside.positions.items c.push.new.self.items c.self.inside.numbers refl same c.self.invariant

pub invariant_of-self-2 : goal.invariant_of-self-2
invariant_of-self-2 c =
    let old : List Node = nodes_at c.self.inside.known.items c.self.inside.positions.items in
    let new : List Node = nodes_at c.self.inside.known.items c.push.new.self.items in
    let w : c.args.place < length old = subst (λ (xs : List Node). c.args.place < length xs) (sym c.self.view_is) c.requires.within in
    let again = again_is c.self.inside.known.items c.self.inside.positions.items c.push.new.self.items c.args.place c.index-position.result.now old c.in_ok-push.ensures.items refl c.self.invariant.0 w c.index-position.ensures in
    (known_again c.self.inside.known.items c.self.inside.positions.items c.push.new.self.items c.args.place c.index-position.result.now c.args.self.now c.in_ok-push.ensures.items c.self.view_is c.self.invariant.0 c.requires.within c.index-position.ensures c.requires.unfolds, numbered_push old new again.0 c.self.inside.numbers again.2 c.self.invariant.1)

pub returns-clause-ok : goal.returns-clause-ok
returns-clause-ok c =
    again_is c.self.inside.known.items c.self.inside.positions.items c.push.new.self.items c.args.place c.index-position.result.now c.args.self.now
    c.in_ok-push.ensures.items c.self.view_is c.self.invariant.0 c.requires.within c.index-position.ensures
