use Rattle.std.proofs.Common.{take}
use Rattle.wcv_types.specs.Unfold.{trees}
use Rattle.wcv_text.specs.Entries.{write_list}
use Rattle.wcv_text.specs.LineList.{Adds, entries_of, entry_word}
use Rattle.wcv_text.proofs.line_list.list_entries.Given as goal

abbrev pub invariant-loop-k : goal.invariant-loop-k
invariant-loop-k l =
    Adds l.types l.fn.ty l.initial.seen l.initial.lines.items l.seen l.lines.items (write_list (entry_word l.fn.exported) (trees l.types.nodes) (take l.k (entries_of l.fn.ty l.fn.exported)))
