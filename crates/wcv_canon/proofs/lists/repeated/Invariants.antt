use Rattle.std.proofs.Common.{◌≡◌, length, take, map}
use Rattle.std.specs.Prelude.{is_some}
use Rattle.wcv_lower.specs.CanonOptions.{number_of, repeats}
use Rattle.wcv_canon.proofs.OptionLists.{Seen}
use Rattle.wcv_canon.proofs.lists.repeated.Given as goal

abbrev pub invariant-loop-option : goal.invariant-loop-option
invariant-loop-option l = record {
  seen : Seen l.seen (map number_of (take l.option-index l.options));
  length : length l.seen ≡ 8;
  repeated : is_some l.repeated ≡ repeats (map number_of (take l.option-index l.options));
}
