use Rattle.std.proofs.Common.{◌≡◌, ◌++◌, drop, map}
use Rattle.wcv_flat.specs.CodeRows.{there, word_of}
use Rattle.wcv_flat.specs.RowTypes.{word_type}
use Rattle.wcv_flat.proofs.rows.core_types.Given as goal

abbrev pub invariant-loop-word : goal.invariant-loop-word
invariant-loop-word l = l.list.items ++ map (word_type l.facts) (there word_of (drop l.word-index l.words)) ≡ map (word_type l.facts) (there word_of l.words)
