use Rattle.std.proofs.Common.{◌≡◌, ◌++◌, [], drop, codes, string_bytes}
use Rattle.wcv_types.specs.Tree.{Text}
use Rattle.wcv_text.specs.DefinedLine.{fields_said}
use Rattle.wcv_text.specs.Mentions.{separator}
use Rattle.wcv_text.specs.Numbers.{so_far}
use Rattle.wcv_text.proofs.defined_line.push_fields.Given as goal

abbrev pub invariant-loop-index : goal.invariant-loop-index
invariant-loop-index l =
    (t : Text) → string_bytes l.text ++ fields_said (so_far l.numbers t) (separator (codes ", ") l.index) (drop l.index l.fields) ≡
    string_bytes l.initial.text ++ fields_said (so_far l.numbers t) [] l.fields
