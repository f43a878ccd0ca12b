use Rattle.std.proofs.Common.{◌≡◌, take}
use Rattle.wcv_core.specs.CoreCode.{all_codes, sub_code}
use Rattle.wcv_core.specs.CoreForm.{sub_form}
use Rattle.wcv_core.proofs.core_codes.group_code.Given as goal

abbrev pub invariant-loop-ty : goal.invariant-loop-ty
invariant-loop-ty l = l.code.items ≡ all_codes (λ t. sub_code (sub_form t)) (take l.ty-index l.group.types.items)
