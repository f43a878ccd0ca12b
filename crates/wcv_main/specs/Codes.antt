-- The numbers with which the program ends.
use Rattle.std.specs.Prelude.{ℕ}
use Rattle.wcv_main.specs.declared.status.Status.{Status}
use Rattle.wcv_main.specs.declared.status.Status.TheVariants.{Done, Refused, Words, Listing, ReadFault, WriteFault, Memory, TooLong}

-- each status has a number of its own, and 0 is the one of a run that did what was asked
abbrev pub code_of : Status → ℕ
code_of Done = 0
code_of Refused = 1
code_of Words = 2
code_of Listing = 3
code_of ReadFault = 4
code_of WriteFault = 5
code_of Memory = 6
code_of TooLong = 7
