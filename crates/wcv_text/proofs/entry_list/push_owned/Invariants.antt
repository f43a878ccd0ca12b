use Rattle.std.proofs.Common.{◌≡◌, ◌++◌, [], drop, map, codes, string_bytes}
use Rattle.wcv_types.specs.Quoting.{listed}
use Rattle.wcv_types.specs.Tree.{Text}
use Rattle.wcv_text.specs.EntryList.{own_said}
use Rattle.wcv_text.specs.Mentions.{separator}
use Rattle.wcv_text.specs.Numbers.{so_far}
use Rattle.wcv_text.proofs.entry_list.push_owned.Given as goal

abbrev pub invariant-loop-k : goal.invariant-loop-k
invariant-loop-k l =
    (t : Text) → string_bytes l.text ++ listed (separator (codes ", ") l.k) (map (own_said (so_far l.numbers t)) (drop l.k l.owned)) ≡
    string_bytes l.initial.text ++ listed [] (map (own_said (so_far l.numbers t)) l.owned)
