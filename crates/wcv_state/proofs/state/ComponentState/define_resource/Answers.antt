use Rattle.std.proofs.Common.{◌≡◌, subst, sym, false}
use Rattle.wcv_spaces.specs.Contents.{Contents}
use Rattle.wcv_spaces.specs.Looking.{has_resource}
use Rattle.wcv_spaces.proofs.Listed.{has_no_value}
use Rattle.wcv_state.proofs.state.ComponentState.define_resource.Goals as goal

pub insert-requires : goal.insert-requires
insert-requires c =
    has_no_value c.args.resource c.self.inside.defined_resources (subst (λ (s : Contents). has_resource c.args.resource s.defined_resources ≡ false) (sym c.self.view_is) c.requires.defined)
