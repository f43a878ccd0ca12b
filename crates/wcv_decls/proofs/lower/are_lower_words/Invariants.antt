use Rattle.std.proofs.Common.{◌≡◌, length, true}
use Rattle.wcv_decls.specs.LowerWords.{goes_on}
use Rattle.wcv_decls.proofs.lower.are_lower_words.Given as goal

abbrev pub invariant-loop-rest : goal.invariant-loop-rest
invariant-loop-rest l = goes_on l.before l.rest ≡ true → goes_on 45 l.bytes ≡ true

abbrev pub decreases-loop-rest : goal.decreases-loop-rest
decreases-loop-rest l = length l.rest

abbrev pub invariant-loop-rest-2 : goal.invariant-loop-rest-2
invariant-loop-rest-2 l = goes_on l.before l.rest ≡ true → goes_on 45 l.bytes ≡ true

abbrev pub decreases-loop-rest-2 : goal.decreases-loop-rest-2
decreases-loop-rest-2 l = length l.rest
