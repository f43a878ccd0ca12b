use Rattle.std.proofs.Common.{rules}
use Rattle.wcv_main.proofs.Known.{appends_prefix}
use Rattle.wcv_main.proofs.pump.write_all.Goals as goal

pub loop-done-preserved : goal.loop-done-preserved
loop-done-preserved g c = record {
  steady = search rules;
  within = search rules;
  taken = appends_prefix _ _ _ _ _ _ c.loop-done.invariant.taken c.in_ok-done.ensures.taken;
}
