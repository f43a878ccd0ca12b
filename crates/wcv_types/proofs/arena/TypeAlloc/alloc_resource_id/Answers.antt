use Rattle.std.proofs.Common.{rules, length, ◌≤◌, refl}
use Rattle.wcv_types.specs.Arena.{Arena}
use Rattle.wcv_types.proofs.Grown.{all_fit_more, more_given}
use Rattle.wcv_types.proofs.arena.TypeAlloc.alloc_resource_id.Goals as goal

pub invariant_of-self : goal.invariant_of-self
invariant_of-self c =
    let a : Arena = record { nodes = c.self.inside.nodes; resources = length c.self.inside.resources.items; stamps = length c.self.inside.stamps.items; core = c.self.inside.core } in
    let l : length c.self.inside.resources.items ≤ length c.push.new.self.items = search rules in
    let m : length c.self.inside.stamps.items ≤ length c.self.inside.stamps.items = search rules in
    all_fit_more a _ (more_given a (length c.push.new.self.items) (length c.self.inside.stamps.items) l m) refl c.self.invariant

pub invariant_of-self-then-is_err : goal.invariant_of-self-then-is_err
invariant_of-self-then-is_err c =
    let a : Arena = record { nodes = c.self.inside.nodes; resources = length c.self.inside.resources.items; stamps = length c.self.inside.stamps.items; core = c.self.inside.core } in
    let l : length c.self.inside.resources.items ≤ length c.pop.new.self.items = search rules in
    let m : length c.self.inside.stamps.items ≤ length c.push-2.new.self.items = search rules in
    all_fit_more a _ (more_given a (length c.pop.new.self.items) (length c.push-2.new.self.items) l m) refl c.self.invariant

pub invariant_of-self-else-is_err : goal.invariant_of-self-else-is_err
invariant_of-self-else-is_err c =
    let a : Arena = record { nodes = c.self.inside.nodes; resources = length c.self.inside.resources.items; stamps = length c.self.inside.stamps.items; core = c.self.inside.core } in
    let l : length c.self.inside.resources.items ≤ length c.push.new.self.items = search rules in
    let m : length c.self.inside.stamps.items ≤ length c.push-2.new.self.items = search rules in
    all_fit_more a _ (more_given a (length c.push.new.self.items) (length c.push-2.new.self.items) l m) refl c.self.invariant
