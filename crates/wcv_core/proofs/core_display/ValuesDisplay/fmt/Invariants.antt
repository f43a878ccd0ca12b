use Rattle.std.proofs.Common.{take, ◌++◌}
use Rattle.std.specs.Prelude.{codes, flat_map}
use Rattle.std.specs.Fmt.{HasWritten, IsPlainFormatter}
use Rattle.wcv_core.specs.CoreShown.{val_shown}
use Rattle.wcv_core.proofs.core_display.ValuesDisplay.fmt.Given as goal

-- those before are written
abbrev pub invariant-loop-ty : goal.invariant-loop-ty
invariant-loop-ty g l = IsPlainFormatter l.initial.f → HasWritten g.W.Write.write_str_gives l.initial.f (flat_map (λ v. codes " " ++ val_shown v) (take l.ty-index l.ty-items)) l.f
