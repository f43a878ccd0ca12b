use Rattle.std.proofs.Common.{◌≡◌, ◌++◌, cond, drop, codes, string_bytes}
use Rattle.wcv_types.specs.Quoting.{listed}
use Rattle.wcv_types.specs.Tree.{Text}
use Rattle.wcv_text.specs.EntryList.{paths_said}
use Rattle.wcv_text.specs.Mentions.{separator, comma}
use Rattle.wcv_text.specs.Numbers.{so_far}
use Rattle.wcv_text.proofs.entry_list.push_path_list.Given as goal

abbrev pub invariant-loop-k : goal.invariant-loop-k
invariant-loop-k l =
    (t : Text) → string_bytes l.text ++ listed (cond l.behind (codes ", ") (separator (codes ", ") l.k)) (paths_said (so_far l.numbers t) l.word (drop l.k l.paths)) ≡
    string_bytes l.initial.text ++ listed (comma l.behind) (paths_said (so_far l.numbers t) l.word l.paths)
