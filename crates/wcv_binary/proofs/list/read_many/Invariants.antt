use Rattle.std.proofs.Common.{◌≡◌, ◌-◌, map}
use Rattle.wcv_bytes.specs.Reading.{list_at}
use Rattle.wcv_bytes.proofs.Loop.{with_front}
use Rattle.wcv_binary.proofs.list.read_many.Given as goal

abbrev pub invariant-loop : goal.invariant-loop
invariant-loop g l = with_front (map g.T.FromBytes.seen l.things.items) (list_at g.T.FromBytes.meant (l.count - l.counter) l.rest) ≡ list_at g.T.FromBytes.meant l.count l.bytes
