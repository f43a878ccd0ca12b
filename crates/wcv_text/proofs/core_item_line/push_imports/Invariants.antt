use Rattle.std.proofs.Common.{◌≡◌, ◌++◌, cond, drop, map, codes, string_bytes}
use Rattle.wcv_types.specs.Quoting.{listed}
use Rattle.wcv_types.specs.Tree.{Text}
use Rattle.wcv_text.specs.EntryList.{core_import_said}
use Rattle.wcv_text.specs.Mentions.{separator, comma}
use Rattle.wcv_text.specs.Numbers.{so_far}
use Rattle.wcv_text.proofs.core_item_line.push_imports.Given as goal

abbrev pub invariant-loop-k : goal.invariant-loop-k
invariant-loop-k l =
    (t : Text) → string_bytes l.text ++ listed (cond l.behind (codes ", ") (separator (codes ", ") l.k)) (map (core_import_said (so_far l.numbers t)) (drop l.k l.imports)) ≡
    string_bytes l.initial.text ++ listed (comma l.behind) (map (core_import_said (so_far l.numbers t)) l.imports)
