use Rattle.std.proofs.Common.{◌≡◌, ◌++◌, take}
use Rattle.wcv_core.specs.CoreCode.{vals_code}
use Rattle.wcv_core.proofs.core_codes.push_vals.Given as goal

abbrev pub invariant-loop-ty : goal.invariant-loop-ty
invariant-loop-ty l = l.code.items ≡ l.initial.code.items ++ vals_code (take l.ty-index l.types)
