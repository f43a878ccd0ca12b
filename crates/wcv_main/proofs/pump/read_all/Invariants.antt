use Rattle.std.proofs.Common.{◌≡◌, ◌≤◌, ◌-◌, ◌+◌, vec_len}
use Rattle.std.specs.Io.KnownBytes.{Consumes}
use Rattle.wcv_core.specs.declared.limits.TheConstants.{MAX_LISTING}
use Rattle.wcv_main.proofs.pump.read_all.Given as goal

abbrev pub invariant-loop-chunk : goal.invariant-loop-chunk
invariant-loop-chunk g l = record {
  steady : g.S.Source.faults l.source ≡ g.S.Source.faults l.initial.source;
  bytes : Consumes (g.S.Source.left l.initial.source) (g.S.Source.left l.source) l.bytes.items;
  limit : vec_len l.bytes ≤ MAX_LISTING + 1;
}

abbrev pub decreases-loop-chunk : goal.decreases-loop-chunk
decreases-loop-chunk g l = MAX_LISTING + 1 - vec_len l.bytes
