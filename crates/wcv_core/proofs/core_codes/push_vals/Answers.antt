use Rattle.wcv_core.specs.CoreCode.{val_code}
use Rattle.wcv_core.proofs.Coding.{pushed, pushed_all}
use Rattle.wcv_core.proofs.core_codes.push_vals.Goals as goal

pub loop-ty-preserved : goal.loop-ty-preserved
loop-ty-preserved c = pushed val_code c.args.code.now.items c.args.types.now c.loop-ty.ty-index _ c.loop-ty-test.true c.loop-ty.invariant c.in_ok-push_val.ensures

pub returns : goal.returns
returns c = pushed_all val_code c.args.code.now.items c.args.types.now c.loop-ty.ty-index c.loop-ty-test.false c.loop-ty.invariant
