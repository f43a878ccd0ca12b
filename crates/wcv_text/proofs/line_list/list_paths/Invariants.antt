use Rattle.std.proofs.Common.{take}
use Rattle.wcv_types.specs.Arena.{Arena}
use Rattle.wcv_text.specs.Entries.{write_path_list}
use Rattle.wcv_text.specs.LineList.{Adds, paths_of, path_word}
use Rattle.wcv_text.specs.declared.numbers.Numbers.{Numbers}
use Rattle.wcv_text.proofs.line_list.list_paths.Given as goal

abbrev pub invariant-loop-k : goal.invariant-loop-k
invariant-loop-k l =
    (a : Arena) (seen : Numbers) → Adds a l.fn.ty seen l.initial.lines.items seen l.lines.items (write_path_list (path_word l.fn.defined) (take l.k (paths_of l.fn.ty l.fn.defined)))
