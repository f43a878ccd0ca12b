use Rattle.std.proofs.Common.{◌≡◌, ◌++◌, take}
use Rattle.wcv_types.specs.Unfold.{trees}
use Rattle.wcv_types.specs.Open.{listed, open_all}
use Rattle.wcv_flat.proofs.Signing.{params_from}
use Rattle.wcv_flat.proofs.func_types.params_types.Given as goal

-- with those that are left they are all
abbrev pub invariant-loop-param : goal.invariant-loop-param
invariant-loop-param l = take 17 (listed l.list ++ open_all (params_from (trees l.types.nodes) l.ty l.param-index)) ≡ take 17 (open_all (params_from (trees l.types.nodes) l.ty 0))
