use Rattle.std.proofs.Common.{take, ◌++◌}
use Rattle.std.specs.Prelude.{codes, flat_map}
use Rattle.std.specs.Fmt.{HasWritten, IsPlainFormatter}
use Rattle.wcv_core.specs.CoreShown.{field_shown}
use Rattle.wcv_core.proofs.core_display.FieldsDisplay.fmt.Given as goal

-- those before are written
abbrev pub invariant-loop-ty : goal.invariant-loop-ty
invariant-loop-ty g l = IsPlainFormatter l.initial.f → HasWritten g.W.Write.write_str_gives l.initial.f (flat_map (λ f. codes " (field " ++ field_shown f ++ codes ")") (take l.ty-index l.ty-items)) l.f
