use Rattle.std.proofs.Common.{◌≡◌, ◌++◌, [], drop, map, codes, string_bytes}
use Rattle.wcv_types.specs.CoreText.{spaced, val_text}
use Rattle.wcv_types.specs.Tree.{Text}
use Rattle.wcv_text.specs.Mentions.{separator}
use Rattle.wcv_text.specs.Numbers.{so_far}
use Rattle.wcv_text.proofs.core_line.push_vals.Given as goal

abbrev pub invariant-loop-index : goal.invariant-loop-index
invariant-loop-index l =
    (t : Text) → string_bytes l.text ++ spaced (separator (codes " ") l.index) (map (val_text (so_far l.numbers t).core (so_far l.numbers t).groups) (drop l.index l.types)) ≡
    string_bytes l.initial.text ++ spaced [] (map (val_text (so_far l.numbers t).core (so_far l.numbers t).groups) l.types)
