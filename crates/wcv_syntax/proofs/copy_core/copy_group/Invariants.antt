use Rattle.std.proofs.Common.{◌≡◌, ◌++◌, drop, map}
use Rattle.wcv_core.specs.CoreForm.{sub_form}
use Rattle.wcv_syntax.proofs.copy_core.copy_group.Given as goal

abbrev pub invariant-loop-ty : goal.invariant-loop-ty
invariant-loop-ty l = map sub_form l.types.items ++ map sub_form (drop l.ty-index l.ty-items) ≡ map sub_form l.ty-items
