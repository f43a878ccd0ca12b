use Rattle.std.proofs.Common.{◌<◌, ◌∙◌, List, subst, sym}
use Rattle.std.specs.Prelude.{Option, IfSome}
use Rattle.wcv_core.specs.CoreForm.{Group}
use Rattle.wcv_core.specs.CoreGroups.{total}
use Rattle.wcv_core.specs.declared.core_types.CoreTypeId.{CoreTypeId}
use Rattle.wcv_canon.proofs.KnownFacts.{id_known}
use Rattle.wcv_canon.proofs.facts.param_at.Goals as goal

pub get-requires : goal.get-requires
get-requires c =
    subst (λ (gs : List Group). c.in_ok-id.id.index < total gs) (sym c.core_types.ensures)
    (subst (λ (o : Option CoreTypeId). IfSome o (λ i. i.index < total c.args.types.now.core)) (sym c.id_at.ensures ∙ c.in_ok-id.was) (id_known c.args.types.now c.args.state.now c.requires c.args.index))
