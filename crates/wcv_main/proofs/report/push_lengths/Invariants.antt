use Rattle.std.proofs.Common.{◌≡◌, ◌++◌, drop, map, string_bytes}
use Rattle.wcv_main.specs.Report.{length_lines}
use Rattle.wcv_main.proofs.report.push_lengths.Given as goal

abbrev pub invariant-loop-k : goal.invariant-loop-k
invariant-loop-k l =
    string_bytes l.text ++ length_lines (map (λ name. name.now) (drop l.k l.names)) (drop l.k l.counts)
    ≡ string_bytes l.initial.text ++ length_lines (map (λ name. name.now) l.names) l.counts
