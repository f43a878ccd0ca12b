use Rattle.std.proofs.Common.{◌≡◌}
use Rattle.wcv_types.specs.Abi.{pointer, any_contains}
use Rattle.wcv_types.specs.Unfold.{trees}
use Rattle.wcv_flat.proofs.Signing.{params_from}
use Rattle.wcv_flat.proofs.func_types.params_point.Given as goal

-- no pointer stands in those before
abbrev pub invariant-loop-param : goal.invariant-loop-param
invariant-loop-param l = any_contains pointer (params_from (trees l.types.nodes) l.ty 0) ≡ any_contains pointer (params_from (trees l.types.nodes) l.ty l.param-index)
