use Rattle.std.proofs.Common.{◌≡◌, ◌++◌, [], drop, map, codes, string_bytes}
use Rattle.wcv_types.specs.CoreText.{sub_text, group_at}
use Rattle.wcv_types.specs.Quoting.{listed}
use Rattle.wcv_types.specs.Tree.{Text}
use Rattle.wcv_text.specs.Mentions.{separator}
use Rattle.wcv_text.specs.Numbers.{so_far}
use Rattle.wcv_text.proofs.groups.push_types.Given as goal

abbrev pub invariant-loop-k : goal.invariant-loop-k
invariant-loop-k l =
    (t : Text) → string_bytes l.text ++ listed (separator (codes ", ") l.k) (map (sub_text (so_far l.numbers t).core (so_far l.numbers t).groups) (drop l.k (group_at (so_far l.numbers t).core l.fn.id.index))) ≡
    string_bytes l.initial.text ++ listed [] (map (sub_text (so_far l.numbers t).core (so_far l.numbers t).groups) (group_at (so_far l.numbers t).core l.fn.id.index))
