use Rattle.wcv_core.specs.Dashes.{IsPlain}
use Rattle.wcv_core.proofs.kebab.dash_at.Given as goal

abbrev pub invariant-loop-i : goal.invariant-loop-i
invariant-loop-i l = IsPlain l.bytes l.i
