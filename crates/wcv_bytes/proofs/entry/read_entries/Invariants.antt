use Rattle.std.proofs.Common.{◌≡◌, ◌-◌, map}
use Rattle.wcv_bytes.specs.Entries.{entry_over, behind}
use Rattle.wcv_bytes.specs.Reading.{list_at}
use Rattle.wcv_bytes.proofs.entry.read_entries.Given as goal

abbrev pub invariant-loop : goal.invariant-loop
invariant-loop g l = behind (map g.R.ReadEntry.seen l.all.items) (list_at (entry_over (g.R.ReadEntry.meant l.reader) l.end) (l.count - l.counter) l.rest) ≡ behind (map g.R.ReadEntry.seen l.fn.front.items) (list_at (entry_over (g.R.ReadEntry.meant l.reader) l.end) l.count l.bytes)
