use Rattle.std.proofs.Common.{◌∙◌, ap, subst, sym}
use Rattle.std.proofs.lemmas.Result.{IfOk-weaker}
use Rattle.wcv_types.specs.Standing.{Fits}
use Rattle.wcv_types.specs.Unfold.{kind_slots}
use Rattle.wcv_types.specs.declared.arena.Node.TheVariants as n
use Rattle.wcv_types.specs.declared.core_shapes.InstanceType.{InstanceType}
use Rattle.wcv_types.proofs.CoreInstancesRebuilt.{other_stands, exports_same, exports_stay}
use Rattle.wcv_types.proofs.core_instance_sort.instance_again.Goals as goal

pub core_instance_of-requires : goal.core_instance_of-requires
core_instance_of-requires c =
    other_stands c.args.types.now c.args.shape.now c.in-Instantiated.module c.module.result c.args.parts.now c.new-left.result c.in-Instantiated.is c.new-left.ensures c.module.ensures.slot c.requires.sorts c.requires.stand

pub returns-in-Exports-clause-fits : goal.returns-in-Exports-clause-fits
returns-in-Exports-clause-fits c =
    IfOk-weaker c.exporting_again.result _ _
    (λ t w. subst (λ (s : InstanceType). Fits c.args.types.now (n.CoreInstance s)) (sym (exports_same c.args.shape.now c.in-Exports.exports c.in-Exports.is t w)) c.requires.fits)
    c.exporting_again.ensures

pub returns-in-Exports-clause-slots : goal.returns-in-Exports-clause-slots
returns-in-Exports-clause-slots c =
    IfOk-weaker c.exporting_again.result _ _
    (λ t w. ap (λ (s : InstanceType). kind_slots s.kind) (exports_same c.args.shape.now c.in-Exports.exports c.in-Exports.is t w) ∙ exports_stay c.args.shape.now c.in-Exports.exports c.in-Exports.is c.args.parts.now)
    c.exporting_again.ensures

pub returns-in-Exports-clause-size : goal.returns-in-Exports-clause-size
returns-in-Exports-clause-size c =
    IfOk-weaker c.exporting_again.result _ _ (λ t w. ap (λ (s : InstanceType). s.info.size) (exports_same c.args.shape.now c.in-Exports.exports c.in-Exports.is t w)) c.exporting_again.ensures
