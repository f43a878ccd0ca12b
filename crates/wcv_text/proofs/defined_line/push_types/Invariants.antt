use Rattle.std.proofs.Common.{◌≡◌, ◌++◌, [], drop, codes, string_bytes}
use Rattle.wcv_types.specs.Text.{listed}
use Rattle.wcv_types.specs.Tree.{Text}
use Rattle.wcv_text.specs.DefinedLine.{types_said}
use Rattle.wcv_text.specs.Mentions.{separator}
use Rattle.wcv_text.specs.Numbers.{so_far}
use Rattle.wcv_text.proofs.defined_line.push_types.Given as goal

abbrev pub invariant-loop-index : goal.invariant-loop-index
invariant-loop-index l =
    (t : Text) → string_bytes l.text ++ listed (separator (codes ", ") l.index) (types_said (so_far l.numbers t) (drop l.index l.types)) ≡
    string_bytes l.initial.text ++ listed [] (types_said (so_far l.numbers t) l.types)
