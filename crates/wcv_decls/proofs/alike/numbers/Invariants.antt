use Rattle.std.proofs.Common.{◌≡◌, take, map}
use Rattle.wcv_spaces.specs.NameLists.{list_names}
use Rattle.wcv_decls.specs.Numbers.{number_of}
use Rattle.wcv_decls.proofs.alike.numbers.Given as goal

abbrev pub invariant-loop-k : goal.invariant-loop-k
invariant-loop-k l = l.numbers.items ≡ map number_of (take l.k (list_names l.list))
