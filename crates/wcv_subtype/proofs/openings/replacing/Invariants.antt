use Rattle.std.proofs.Common.{◌≡◌, [], take}
use Rattle.wcv_subtype.proofs.openings.replacing.Given as goal

abbrev pub invariant-loop-k : goal.invariant-loop-k
invariant-loop-k l = l.replaced ≡ record { resources = take l.k l.found; types = [] }
