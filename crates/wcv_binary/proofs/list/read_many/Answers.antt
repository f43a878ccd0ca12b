use Rattle.std.proofs.Common.{◌≡◌, ◌++◌, ◌∷◌, [], map}
use Rattle.std.proofs.lemmas.Result.{err_from_is_err_and}
use Rattle.std.proofs.lemmas.List.{map_push}
use Rattle.wcv_bytes.specs.Reading.{list_at}
use Rattle.wcv_bytes.proofs.Loop.{goes_on, ends, is_done}
use Rattle.wcv_binary.proofs.list.read_many.Goals as goal

pub returns-in_err-thing : goal.returns-in_err-thing
returns-in_err-thing g c =
    let element = g.T.FromBytes in
    let p = err_from_is_err_and c.from_residual-in_err-thing.result c.from_residual-in_err-thing.ensures.1 in
    rw (p.1, p.2) (ends element.meant c.in_err-thing.field-0.0 (map element.seen c.loop.things.items) c.args.count c.loop.counter c.loop.rest.now (list_at element.meant c.args.count c.args.bytes.now) c.loop-test.true c.in_err-thing.ensures c.loop.invariant)

pub loop-preserved : goal.loop-preserved
loop-preserved g c =
    let element = g.T.FromBytes in
    let n = c.in_ok-thing.thing in
    let e : map element.seen c.push_reserved.new.self.items ≡ map element.seen c.loop.things.items ++ element.seen n ∷ [] = rw (c.push_reserved.ensures.items, c.reserve.ensures.items) (map_push _ c.loop.things.items n) in
    rw e (goes_on element.meant (map element.seen c.loop.things.items) c.args.count c.loop.counter c.loop.rest.now (element.seen n) c.in_ok-thing.after.now (list_at element.meant c.args.count c.args.bytes.now) c.loop-test.true c.in_ok-thing.ensures c.loop.invariant)

pub returns : goal.returns
returns g c =
    let element = g.T.FromBytes in
    is_done element.meant (map element.seen c.loop.things.items) c.args.count c.loop.counter c.loop.rest.now (list_at element.meant c.args.count c.args.bytes.now) c.loop-test.false c.loop.invariant
