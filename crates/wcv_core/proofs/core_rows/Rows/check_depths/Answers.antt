use Rattle.wcv_core.specs.Limits.{max_supertypes}
use Rattle.std.proofs.Common.{arith, ◌<◌, List, get_or}
use Rattle.wcv_core.specs.CoreForm.{Group}
use Rattle.wcv_core.specs.CoreGroups.{total, depths_of}
use Rattle.wcv_core.specs.CoreRules.{type_checks}
use Rattle.wcv_core.specs.Refusal.{error_kind}
use Rattle.wcv_core.proofs.Climbing.{deep_cause}
use Rattle.wcv_core.proofs.Closing.{caused_ranged}
use Rattle.wcv_core.proofs.core_rows.Rows.check_depths.Goals as goal

pub returns-then-depth-gt-MAX_SUPERTYPES-clause-err : goal.returns-then-depth-gt-MAX_SUPERTYPES-clause-err
returns-then-depth-gt-MAX_SUPERTYPES-clause-err c =
    let gs : List Group = c.args.self.now in
    let d : max_supertypes < get_or (depths_of gs) c.id_at.result.index 0 = omega (arith, c.depth.ensures.value, c.if-depth-gt-MAX_SUPERTYPES.true) in
    let i : c.id_at.result.index < total gs = omega (arith, c.id_at.ensures, c.requires) in
    caused_ranged (type_checks gs) c.args.first c.args.count c.loop-position.position c.id_at.result.index c.args.offset c.refused.result (omega arith) c.id_at.ensures
    (deep_cause gs c.id_at.result.index (error_kind c.refused.result) c.depth.ensures.closed i d c.refused.ensures.kind, c.refused.ensures.offset)
