use Rattle.std.proofs.Common.{◌≡◌, List, ◌++◌, length, subst}
use Rattle.wcv_core.specs.CoreForm.{Group, group_form}
use Rattle.wcv_types.specs.Arena.{Arena}
use Rattle.wcv_types.specs.CoreCalls.{with_core}
use Rattle.wcv_types.specs.Standing.{Extends, KeepsTrees}
use Rattle.std.specs.Prelude.{OnOk, IfErr}
use Rattle.wcv_core.specs.Checks.{IsFree, MemoryOrCausedBy}
use Rattle.wcv_core.specs.CoreJoining.{group_checks}
use Rattle.wcv_core.specs.CoreWritten.{closed_group}
use Rattle.wcv_types.proofs.CoreGrown.{all_fit_core, extends_core, keeps_core, grown_or_left}
use Rattle.wcv_types.proofs.arena.TypeAlloc.intern_rec_group.Goals as goal

pub invariant_of-self : goal.invariant_of-self
invariant_of-self g c =
    let a : Arena = record { nodes = c.self.inside.nodes; resources = length c.self.inside.resources.items; stamps = length c.self.inside.stamps.items; core = c.self.inside.core } in
    let more : (hs : List Group) × (c.canonicalize_and_intern_rec_group.new.core ≡ a.core ++ hs) = grown_or_left c.canonicalize_and_intern_rec_group.result g.G.InternRecGroup.with_type g.G.InternRecGroup.failed c.args.group.now c.canonicalize_and_intern_rec_group.new.group a.core c.canonicalize_and_intern_rec_group.new.core
    (closed_group (g.G.InternRecGroup.entries c.args.group.now) (group_form c.args.rec)) c.canonicalize_and_intern_rec_group.ensures.table c.canonicalize_and_intern_rec_group.ensures.err in
    all_fit_core a more.0 c.canonicalize_and_intern_rec_group.new.core more.1 c.self.invariant

pub returns-clause-grown : goal.returns-clause-grown
returns-clause-grown g c =
    let a : Arena = record { nodes = c.self.inside.nodes; resources = length c.self.inside.resources.items; stamps = length c.self.inside.stamps.items; core = c.self.inside.core } in
    let more : (hs : List Group) × (c.canonicalize_and_intern_rec_group.new.core ≡ a.core ++ hs) = grown_or_left c.canonicalize_and_intern_rec_group.result g.G.InternRecGroup.with_type g.G.InternRecGroup.failed c.args.group.now c.canonicalize_and_intern_rec_group.new.group a.core c.canonicalize_and_intern_rec_group.new.core
    (closed_group (g.G.InternRecGroup.entries c.args.group.now) (group_form c.args.rec)) c.canonicalize_and_intern_rec_group.ensures.table c.canonicalize_and_intern_rec_group.ensures.err in
    subst (λ (x : Arena). Extends x (with_core a c.canonicalize_and_intern_rec_group.new.core)) c.self.view_is (extends_core a c.canonicalize_and_intern_rec_group.new.core more)

pub returns-clause-stay : goal.returns-clause-stay
returns-clause-stay g c =
    let a : Arena = record { nodes = c.self.inside.nodes; resources = length c.self.inside.resources.items; stamps = length c.self.inside.stamps.items; core = c.self.inside.core } in
    let more : (hs : List Group) × (c.canonicalize_and_intern_rec_group.new.core ≡ a.core ++ hs) = grown_or_left c.canonicalize_and_intern_rec_group.result g.G.InternRecGroup.with_type g.G.InternRecGroup.failed c.args.group.now c.canonicalize_and_intern_rec_group.new.group a.core c.canonicalize_and_intern_rec_group.new.core
    (closed_group (g.G.InternRecGroup.entries c.args.group.now) (group_form c.args.rec)) c.canonicalize_and_intern_rec_group.ensures.table c.canonicalize_and_intern_rec_group.ensures.err in
    subst (λ (x : Arena). KeepsTrees x (with_core a c.canonicalize_and_intern_rec_group.new.core)) c.self.view_is (keeps_core a c.canonicalize_and_intern_rec_group.new.core more)

pub returns-clause-free : goal.returns-clause-free
returns-clause-free g c =
    subst (λ (x : Arena). OnOk c.canonicalize_and_intern_rec_group.result (IsFree (group_checks (g.G.InternRecGroup.allowed c.args.group.now) x.core (g.G.InternRecGroup.entries c.args.group.now) (group_form c.args.rec)))) c.self.view_is c.canonicalize_and_intern_rec_group.ensures.free

pub returns-clause-cause : goal.returns-clause-cause
returns-clause-cause g c =
    subst (λ (x : Arena). IfErr c.canonicalize_and_intern_rec_group.result (MemoryOrCausedBy (group_checks (g.G.InternRecGroup.allowed c.args.group.now) x.core (g.G.InternRecGroup.entries c.args.group.now) (group_form c.args.rec)) c.args.offset)) c.self.view_is c.canonicalize_and_intern_rec_group.ensures.cause
