use Rattle.std.proofs.Common.{length, List, subst, sym}
use Rattle.wcv_types.specs.Arena.{Arena}
use Rattle.wcv_types.specs.Renewed.{NodeAgain}
use Rattle.wcv_types.specs.Standing.{AllFit}
use Rattle.wcv_types.specs.declared.arena.Node.{Node}
use Rattle.wcv_types.proofs.AddedAgain.{again_fits, again_added}
use Rattle.wcv_types.proofs.Unfolding.{tree_in-unfolds}
use Rattle.wcv_types.proofs.arena.TypeAlloc.add_again.Goals as goal

pub push_again-requires-clause-unfolds : goal.push_again-requires-clause-unfolds
push_again-requires-clause-unfolds c x h =
    tree_in-unfolds (record { nodes = c.self.inside.nodes; resources = length c.self.inside.resources.items; stamps = length c.self.inside.stamps.items; core = c.self.inside.core }) c.args.place x c.self.invariant h

pub invariant_of-self : goal.invariant_of-self
invariant_of-self c =
    subst (λ (xs : List Node). AllFit (record { nodes = xs; resources = length c.self.inside.resources.items; stamps = length c.self.inside.stamps.items; core = c.self.inside.core })) (sym c.in_err-push_again.ensures.err) c.self.invariant

pub invariant_of-self-2 : goal.invariant_of-self-2
invariant_of-self-2 c =
    again_fits c.self.inside.nodes c.push_again.new.self (length c.self.inside.resources.items) (length c.self.inside.stamps.items) c.self.inside.core c.args.place c.self.invariant c.in_ok-push_again.ensures.ok

pub returns-clause-again : goal.returns-clause-again
returns-clause-again c =
    let b : Arena = record { nodes = c.push_again.new.self; resources = length c.self.inside.resources.items; stamps = length c.self.inside.stamps.items; core = c.self.inside.core } in
    subst (λ (a : Arena). NodeAgain a b c.args.place) c.self.view_is
    (again_added c.self.inside.nodes c.push_again.new.self (length c.self.inside.resources.items) (length c.self.inside.stamps.items) c.self.inside.core c.args.place c.self.invariant c.in_ok-push_again.ensures.ok)
