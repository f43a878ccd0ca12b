use Rattle.std.proofs.lemmas.Result.{err_from_is_err_and}
use Rattle.wcv_binary.specs.ModuleItems.{export_at}
use Rattle.wcv_binary.specs.ModuleViews.{spaces_form}
use Rattle.wcv_bytes.specs.Reading.{list_at}
use Rattle.wcv_bytes.proofs.Loop.{goes_on, ends, is_done}
use Rattle.wcv_binary.proofs.module_export.read_many_exports.Goals as goal

pub returns-in_err-export : goal.returns-in_err-export
returns-in_err-export c =
    let r = export_at (spaces_form c.args.spaces.now) in
    let p = err_from_is_err_and c.from_residual-in_err-export.result c.from_residual-in_err-export.ensures.1 in
    rw (p.1, p.2) (ends r c.in_err-export.field-0.0 c.loop.exports.items c.args.count c.loop.counter c.loop.rest.now (list_at r c.args.count c.args.bytes.now) c.loop-test.true c.in_err-export.ensures c.loop.invariant)

pub loop-preserved : goal.loop-preserved
loop-preserved c =
    let r = export_at (spaces_form c.args.spaces.now) in
    rw (c.push_reserved.ensures.items, c.reserve.ensures.items) (goes_on r c.loop.exports.items c.args.count c.loop.counter c.loop.rest.now c.in_ok-export.export c.in_ok-export.after.now (list_at r c.args.count c.args.bytes.now) c.loop-test.true c.in_ok-export.ensures c.loop.invariant)

pub returns : goal.returns
returns c =
    let r = export_at (spaces_form c.args.spaces.now) in
    is_done r c.loop.exports.items c.args.count c.loop.counter c.loop.rest.now (list_at r c.args.count c.args.bytes.now) c.loop-test.false c.loop.invariant
