use Rattle.std.proofs.Common.{◌≡◌, ◌++◌, ◌∷◌, [], map, Ok, subst}
use Rattle.std.proofs.lemmas.Result.{err_from_is_err_and}
use Rattle.std.proofs.lemmas.List.{map_push}
use Rattle.wcv_bytes.specs.Entries.{entry_over, behind}
use Rattle.wcv_bytes.specs.Reading.{Fails, list_at}
use Rattle.wcv_bytes.proofs.Loop.{goes_on, ends, is_done}
use Rattle.wcv_bytes.proofs.entry.read_entries.Goals as goal

pub returns-in_err-entry : goal.returns-in_err-entry
returns-in_err-entry g c =
    let p = err_from_is_err_and c.from_residual-in_err-entry.result c.from_residual-in_err-entry.ensures.1 in
    let seen = g.R.ReadEntry.seen in
    let meant = g.R.ReadEntry.meant c.args.reader.now in
    let r = entry_over meant c.args.end in
    let fails = subst (λ at. Fails c.in_err-entry.field-0.0 (meant at c.loop.rest.now)) c.saturating_sub-offset.ensures c.in_err-entry.ensures in
    rw (p.1, p.2) (ends r c.in_err-entry.field-0.0 (map seen c.loop.all.items) c.args.count c.loop.counter c.loop.rest.now (behind (map seen c.args.front.items) (list_at r c.args.count c.args.bytes.now)) c.loop-test.true fails c.loop.invariant)

pub loop-preserved : goal.loop-preserved
loop-preserved g c =
    let n = c.in_ok-entry.entry in
    let seen = g.R.ReadEntry.seen in
    let meant = g.R.ReadEntry.meant c.args.reader.now in
    let r = entry_over meant c.args.end in
    let gives = subst (λ at. meant at c.loop.rest.now ≡ Ok (seen n, c.in_ok-entry.after.now)) c.saturating_sub-offset.ensures c.in_ok-entry.ensures in
    let e : map seen c.push_reserved.new.self.items ≡ map seen c.loop.all.items ++ seen n ∷ [] = rw (c.push_reserved.ensures.items, c.reserve-in-loop.ensures.items) (map_push _ c.loop.all.items n) in
    rw e (goes_on r (map seen c.loop.all.items) c.args.count c.loop.counter c.loop.rest.now (seen n) c.in_ok-entry.after.now (behind (map seen c.args.front.items) (list_at r c.args.count c.args.bytes.now)) c.loop-test.true gives c.loop.invariant)

pub returns : goal.returns
returns g c =
    let seen = g.R.ReadEntry.seen in
    let r = entry_over (g.R.ReadEntry.meant c.args.reader.now) c.args.end in
    is_done r (map seen c.loop.all.items) c.args.count c.loop.counter c.loop.rest.now (behind (map seen c.args.front.items) (list_at r c.args.count c.args.bytes.now)) c.loop-test.false c.loop.invariant
