use Rattle.std.proofs.Common.{length, ◌≡◌, ◌∙◌, List, [], ◌∷◌, ◌++◌, subst, sym, ap}
use Rattle.wcv_types.specs.Arena.{Arena}
use Rattle.wcv_types.specs.Standing.{AllFit, Fits, with_node}
use Rattle.wcv_types.specs.declared.arena.Node.{Node}
use Rattle.wcv_types.proofs.Grown.{all_fit_push}
use Rattle.wcv_types.proofs.arena.TypeAlloc.add.Goals as goal

pub invariant_of-self : goal.invariant_of-self
invariant_of-self c =
    subst (λ (xs : List Node). AllFit (record { nodes = xs; resources = length c.self.inside.resources.items; stamps = length c.self.inside.stamps.items; core = c.self.inside.core })) (sym c.in_err-push.ensures.err) c.self.invariant

pub invariant_of-self-2 : goal.invariant_of-self-2
invariant_of-self-2 c =
    let a : Arena = record { nodes = c.self.inside.nodes; resources = length c.self.inside.resources.items; stamps = length c.self.inside.stamps.items; core = c.self.inside.core } in
    let b : Arena = record { nodes = c.push.new.self; resources = length c.self.inside.resources.items; stamps = length c.self.inside.stamps.items; core = c.self.inside.core } in
    let e : b ≡ with_node a c.args.node = ap (λ (xs : List Node). record { nodes = xs; resources = length c.self.inside.resources.items; stamps = length c.self.inside.stamps.items; core = c.self.inside.core })
    (c.in_ok-push.ensures.ok ∙ ap (λ (x : Node). c.self.inside.nodes ++ x ∷ []) c.in_ok-node.ensures) in
    all_fit_push a b c.args.node e c.self.invariant (subst (λ (x : Arena). Fits x c.args.node) (sym c.self.view_is) c.requires.fits)
