use Rattle.std.proofs.Common.{◌≡◌, ◌++◌, List, ℕ, string_bytes}
use Rattle.std.specs.Io.KnownBytes.{Appends}
use Rattle.wcv_text.specs.TypeLines.{Leads, LinesStand, lines_left}
use Rattle.wcv_main.proofs.report_lines.write_lines.Given as goal

-- what went out, and the text behind it, lead to the whole
abbrev pub invariant-loop-lines : goal.invariant-loop-lines
invariant-loop-lines g l = record {
  steady : g.K.Sink.faults l.sink ≡ g.K.Sink.faults l.initial.sink;
  stand : LinesStand l.lines;
  leads : (whole : List ℕ) → Leads l.initial.lines (string_bytes l.initial.text) whole →
      (sent : List ℕ) × Appends (g.K.Sink.taken l.initial.sink) (g.K.Sink.taken l.sink) sent × Leads l.lines (sent ++ string_bytes l.text) whole;
}

abbrev pub decreases-loop-lines : goal.decreases-loop-lines
decreases-loop-lines g l = lines_left l.lines
