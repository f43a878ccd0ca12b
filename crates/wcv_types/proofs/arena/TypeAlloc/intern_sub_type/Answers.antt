use Rattle.std.proofs.Common.{◌≡◌, List, ◌++◌, length, subst}
use Rattle.wcv_core.specs.CoreForm.{Group, group_form}
use Rattle.wcv_types.specs.Arena.{Arena}
use Rattle.wcv_types.specs.CoreCalls.{with_core}
use Rattle.wcv_types.specs.Standing.{Extends, KeepsTrees}
use Rattle.wcv_types.proofs.CoreGrown.{all_fit_core, extends_core, extends_same, keeps_core, joined_if}
use Rattle.wcv_types.proofs.arena.TypeAlloc.intern_sub_type.Goals as goal

pub invariant_of-self : goal.invariant_of-self
invariant_of-self c =
    let a : Arena = record { nodes = c.self.inside.nodes; resources = length c.self.inside.resources.items; stamps = length c.self.inside.stamps.items; core = c.self.inside.core } in
    let more : (hs : List Group) × (c.intern.new.self ≡ a.core ++ hs) = joined_if c.intern.result a.core c.intern.new.self (group_form (record { types = c.push.new.self })) c.intern.ensures.groups c.intern.ensures.err in
    all_fit_core a more.0 c.intern.new.self more.1 c.self.invariant

pub returns-clause-grown : goal.returns-clause-grown
returns-clause-grown c =
    let a : Arena = record { nodes = c.self.inside.nodes; resources = length c.self.inside.resources.items; stamps = length c.self.inside.stamps.items; core = c.self.inside.core } in
    let more : (hs : List Group) × (c.intern.new.self ≡ a.core ++ hs) = joined_if c.intern.result a.core c.intern.new.self (group_form (record { types = c.push.new.self })) c.intern.ensures.groups c.intern.ensures.err in
    subst (λ (x : Arena). Extends x (with_core a c.intern.new.self)) c.self.view_is (extends_core a c.intern.new.self more)

pub returns-clause-stay : goal.returns-clause-stay
returns-clause-stay c =
    let a : Arena = record { nodes = c.self.inside.nodes; resources = length c.self.inside.resources.items; stamps = length c.self.inside.stamps.items; core = c.self.inside.core } in
    let more : (hs : List Group) × (c.intern.new.self ≡ a.core ++ hs) = joined_if c.intern.result a.core c.intern.new.self (group_form (record { types = c.push.new.self })) c.intern.ensures.groups c.intern.ensures.err in
    subst (λ (x : Arena). KeepsTrees x (with_core a c.intern.new.self)) c.self.view_is (keeps_core a c.intern.new.self more)

pub returns-in_err-push-clause-grown : goal.returns-in_err-push-clause-grown
returns-in_err-push-clause-grown c = extends_same c.args.self.now
