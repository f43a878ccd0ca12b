use Rattle.std.proofs.Common.{arith}
use Rattle.wcv_counterparts.proofs.ComponentIds.{imports_stand}
use Rattle.wcv_counterparts.proofs.Exporting.{component_stands}
use Rattle.wcv_atoms.proofs.Extents.{component_extent}
use Rattle.wcv_subtype.proofs.comparisons.unfit_in_component.Goals as goal

pub unfit_opened-done-requires-clause-left_imports : goal.unfit_opened-done-requires-clause-left_imports
unfit_opened-done-requires-clause-left_imports g c = imports_stand c.args.types.now c.args.a.index c.visited-x.result.now c.visited-x.ensures.before

pub unfit_opened-done-requires-clause-left_exports : goal.unfit_opened-done-requires-clause-left_exports
unfit_opened-done-requires-clause-left_exports g c = component_stands c.args.types.now c.args.a.index c.visited-x.result.now c.visited-x.ensures.before

pub unfit_opened-done-requires-clause-right_imports : goal.unfit_opened-done-requires-clause-right_imports
unfit_opened-done-requires-clause-right_imports g c = imports_stand c.args.types.now c.args.b.index c.visited-y.result.now c.visited-y.ensures.before

pub unfit_opened-done-requires-clause-right_exports : goal.unfit_opened-done-requires-clause-right_exports
unfit_opened-done-requires-clause-right_exports g c = component_stands c.args.types.now c.args.b.index c.visited-y.result.now c.visited-y.ensures.before

pub unfit_opened-done-requires-clause-imports_apart : goal.unfit_opened-done-requires-clause-imports_apart
unfit_opened-done-requires-clause-imports_apart g c = c.visited-x.ensures.apart.0

pub unfit_opened-done-requires-clause-exports_apart : goal.unfit_opened-done-requires-clause-exports_apart
unfit_opened-done-requires-clause-exports_apart g c = c.visited-y.ensures.apart.1

pub returns-clause-counted : goal.returns-clause-counted
returns-clause-counted g c =
    let x = component_extent c.args.types.now c.args.a.index c.visited-x.result.now _ c.visited-x.ensures.unfolds in
    let y = component_extent c.args.types.now c.args.b.index c.visited-y.result.now _ c.visited-y.ensures.unfolds in
    omega (arith, x, y, c.visited-x.ensures.counted, c.visited-y.ensures.counted, c.in_ok-own.ensures.counted, c.unfit_opened-done.ensures.counted)
