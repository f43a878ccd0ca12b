use Rattle.std.proofs.Common.{◌≡◌, ◌≤◌, ◌-◌, length, drop}
use Rattle.std.specs.List.{list_all}
use Rattle.wcv_core.specs.Label.{words, is_word}
use Rattle.wcv_core.proofs.kebab.are_words.Given as goal

abbrev pub invariant-loop-width : goal.invariant-loop-width
invariant-loop-width l = record {
  within : l.start ≤ length l.bytes;
  rest : list_all is_word (words (drop l.start l.bytes)) ≡ list_all is_word (words l.bytes);
}

abbrev pub decreases-loop-width : goal.decreases-loop-width
decreases-loop-width l = length l.bytes - l.start
