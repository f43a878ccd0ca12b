use Rattle.std.proofs.Common.{ℕ, ap}
use Rattle.wcv_text.proofs.numbers.Numbers.first.Goals as goal

pub returns : goal.returns
returns c = ap (λ (p : ℕ × ℕ). p.0) c.place.ensures.place
