use Rattle.std.proofs.Common.{length, List, sym, ◌∙◌, subst}
use Rattle.wcv_types.specs.Standing.{AllFit}
use Rattle.wcv_types.specs.declared.arena.Node.{Node}
use Rattle.wcv_types.proofs.arena.TypeAlloc.option_type_eq.Goals as goal

pub invariant_of-self : goal.invariant_of-self
invariant_of-self c =
    subst (λ (xs : List Node). AllFit (record { nodes = xs; resources = length c.self.inside.resources.items; stamps = length c.self.inside.stamps.items; core = c.self.inside.core })) (sym c.take_numbers-numbers.ensures.same) c.self.invariant

pub invariant_of-self-2 : goal.invariant_of-self-2
invariant_of-self-2 c =
    subst (λ (xs : List Node). AllFit (record { nodes = xs; resources = length c.self.inside.resources.items; stamps = length c.self.inside.stamps.items; core = c.self.inside.core })) (sym (c.put_numbers.ensures ∙ c.take_numbers-numbers.ensures.same)) c.self.invariant
