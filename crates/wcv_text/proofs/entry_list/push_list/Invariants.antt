use Rattle.std.proofs.Common.{◌≡◌, ◌++◌, cond, drop, map, codes, string_bytes}
use Rattle.wcv_types.specs.Quoting.{listed}
use Rattle.wcv_types.specs.Tree.{Text}
use Rattle.wcv_text.specs.EntryList.{one_entry}
use Rattle.wcv_text.specs.Mentions.{separator, comma}
use Rattle.wcv_text.specs.Numbers.{so_far}
use Rattle.wcv_text.proofs.entry_list.push_list.Given as goal

abbrev pub invariant-loop-k : goal.invariant-loop-k
invariant-loop-k l =
    (t : Text) → string_bytes l.text ++ listed (cond l.behind (codes ", ") (separator (codes ", ") l.k)) (map (one_entry (so_far l.numbers t) l.word) (drop l.k l.list)) ≡
    string_bytes l.initial.text ++ listed (comma l.behind) (map (one_entry (so_far l.numbers t) l.word) l.list)
