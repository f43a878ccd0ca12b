use Rattle.std.proofs.Common.{arith, sym, ◌-◌}
use Rattle.wcv_atoms.specs.Readings.{reads}
use Rattle.wcv_atoms.proofs.AtomLists.{entered_next, entered_all}
use Rattle.wcv_matching.proofs.Entries.{there}
use Rattle.wcv_atoms.proofs.readings.Readings.enter.Goals as goal

pub loop-left-preserved-in-Continue-1 : goal.loop-left-preserved-in-Continue-1
loop-left-preserved-in-Continue-1 c = record {
  entered = entered_next c.args.entries.now c.loop-left.left c.in-Some.entry.now (reads c.args.self.now) (reads c.loop-left.self) (reads c.set.new.self) (omega arith) c.loop-left.invariant.within
      (sym (there c.args.entries.now (c.loop-left.left - 1) c.in-Some.entry.now (omega arith) (sym c.in-Some.ensures.lookup.1))) c.loop-left.invariant.entered c.in_ok-set.ensures;
  within = omega arith;
}

pub loop-left-preserved : goal.loop-left-preserved
loop-left-preserved c = Prim.absurd (omega (arith, c.in_default.ensures.lookup.3))

pub returns : goal.returns
returns c = entered_all c.args.entries.now c.loop-left.left (reads c.args.self.now) (reads c.loop-left.self) (omega arith) c.loop-left.invariant.entered
