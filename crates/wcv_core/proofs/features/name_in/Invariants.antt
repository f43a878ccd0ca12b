use Rattle.std.proofs.Common.{◌≡◌, drop, map}
use Rattle.wcv_core.specs.Features as spec
use Rattle.wcv_core.proofs.features.name_in.Given as goal

abbrev pub invariant-loop-name : goal.invariant-loop-name
invariant-loop-name l = spec.name_in (map (λ row. (row.0.now, row.1.0)) (drop l.name-index l.table)) l.feature.0 ≡ spec.name_in (map (λ row. (row.0.now, row.1.0)) l.table) l.feature.0
