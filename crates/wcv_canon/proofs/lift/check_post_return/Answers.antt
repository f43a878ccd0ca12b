use Rattle.std.proofs.Common.{◌<◌, List, subst, sym}
use Rattle.wcv_core.specs.CoreForm.{Group}
use Rattle.wcv_core.specs.CoreGroups.{total}
use Rattle.wcv_lower.specs.Context.{core_funcs}
use Rattle.wcv_spaces.proofs.Found.{core_stands_at}
use Rattle.wcv_canon.proofs.lift.check_post_return.Goals as goal

pub get-found-requires : goal.get-found-requires
get-found-requires c =
    subst (λ (gs : List Group). c.in-Ok.post.index < total gs) (sym c.core_types-table.ensures) (core_stands_at c.args.types.now c.args.state.now c.requires.stands core_funcs c.in-Some.index c.in-Ok.post c.in-Ok.ensures.ok)
