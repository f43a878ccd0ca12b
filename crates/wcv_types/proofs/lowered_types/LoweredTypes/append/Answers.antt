use Rattle.std.proofs.Common.{◌<◌, [], length, sym, arith, refl}
use Rattle.std.proofs.lemmas.List.{length-take}
use Rattle.wcv_types.specs.Open.{listed}
use Rattle.wcv_types.proofs.Cutting.{append_next, list_last}
use Rattle.wcv_types.proofs.lowered_types.LoweredTypes.append.Goals as goal

pub loop-k-init : goal.loop-k-init
loop-k-init c = sym (list_last 17 (listed c.args.self.now) [] (omega (arith, length-take c.args.self.now.len c.args.self.now.types)) refl)

pub loop-k-preserved : goal.loop-k-preserved
loop-k-preserved c =
    let w : c.loop-k.k < length c.args.other.now.types = omega arith in
    append_next _ 17 c.loop-k.k (listed c.loop-k.self) (listed c.args.self.now) c.args.other.now.types (listed c.push.new.self) w c.loop-k.invariant c.push.ensures
