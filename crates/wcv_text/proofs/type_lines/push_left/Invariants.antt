use Rattle.std.proofs.Common.{string_bytes}
use Rattle.wcv_types.specs.Tree.{Text}
use Rattle.wcv_text.specs.TypeLines.{Leads, LinesStand, lines_left}
use Rattle.wcv_text.proofs.type_lines.push_left.Given as goal

abbrev pub invariant-loop-lines : goal.invariant-loop-lines
invariant-loop-lines l = record {
  stand : LinesStand l.lines;
  leads : (whole : Text) → Leads l.initial.lines (string_bytes l.initial.text) whole → Leads l.lines (string_bytes l.text) whole;
}

abbrev pub decreases-loop-lines : goal.decreases-loop-lines
decreases-loop-lines l = lines_left l.lines
