use Rattle.std.proofs.Common.{◌≡◌, ◌++◌, [], drop, codes, string_bytes}
use Rattle.wcv_types.specs.Text.{all_quoted, listed}
use Rattle.wcv_text.specs.Mentions.{separator}
use Rattle.wcv_text.proofs.defined_line.push_names.Given as goal

abbrev pub invariant-loop-index : goal.invariant-loop-index
invariant-loop-index l =
    string_bytes l.text ++ listed (separator (codes ", ") l.index) (all_quoted (drop l.index l.names)) ≡ string_bytes l.initial.text ++ listed [] (all_quoted l.names)
