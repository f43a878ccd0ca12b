use Rattle.wcv_core.specs.CoreCode.{field_code}
use Rattle.wcv_core.proofs.Coding.{pushed, pushed_all}
use Rattle.wcv_core.proofs.core_codes.push_fields.Goals as goal

pub loop-field-preserved : goal.loop-field-preserved
loop-field-preserved c = pushed field_code c.args.code.now.items c.args.fields.now c.loop-field.field-index _ c.loop-field-test.true c.loop-field.invariant c.in_ok-push_field.ensures

pub returns : goal.returns
returns c = pushed_all field_code c.args.code.now.items c.args.fields.now c.loop-field.field-index c.loop-field-test.false c.loop-field.invariant
