use Rattle.std.proofs.Common.{[], ◌∙◌, refl}
use Rattle.wcv_core.proofs.Coding.{pushed_item, pushed_all}
use Rattle.wcv_instances.proofs.UsedEach.{listed_value, listed_each}
use Rattle.wcv_instances.proofs.component_instances.listed_values.Goals as goal

pub loop-export-preserved : goal.loop-export-preserved
loop-export-preserved c = pushed_item listed_value [] c.args.exports.now c.args.exports.now c.loop-export.export-index c.export-item.result refl c.loop-export-test.true c.export-item.is c.loop-export.invariant c.in_ok-add_value.ensures

pub returns : goal.returns
returns c = pushed_all listed_value [] c.args.exports.now c.loop-export.export-index c.loop-export-test.false c.loop-export.invariant ∙ listed_each c.args.exports.now
