use Rattle.std.proofs.Common.{arith}
use Rattle.wcv_atoms.proofs.Extents.{instance_extent}
use Rattle.wcv_atoms.proofs.PassIds.{instance_stands}
use Rattle.wcv_subtype.proofs.comparisons.unfit_export.Goals as goal

pub first_unfit-requires-clause-a : goal.first_unfit-requires-clause-a
first_unfit-requires-clause-a g c = instance_stands c.args.types.now c.args.a.index c.visited-x.result.now c.visited-x.ensures.before

pub first_unfit-requires-clause-b : goal.first_unfit-requires-clause-b
first_unfit-requires-clause-b g c = instance_stands c.args.types.now c.args.b.index c.visited-y.result.now c.visited-y.ensures.before

pub returns-clause-counted : goal.returns-clause-counted
returns-clause-counted g c =
    let x = instance_extent c.args.types.now c.args.a.index c.visited-x.result.now _ c.visited-x.ensures.unfolds in
    let y = instance_extent c.args.types.now c.args.b.index c.visited-y.result.now _ c.visited-y.ensures.unfolds in
    omega (arith, x, y, c.visited-x.ensures.counted, c.visited-y.ensures.counted, c.first_unfit.ensures.counted)
