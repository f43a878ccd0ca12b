use Rattle.std.proofs.Common.{◌≤◌, length, sym, ◌∙◌, arith}
use Rattle.std.proofs.lemmas.List.{length-take}
use Rattle.wcv_types.specs.Open.{open_join, listed}
use Rattle.wcv_types.proofs.Cutting.{joined_ends, joined_more, joined_whole}
use Rattle.wcv_types.proofs.lowered_types.LoweredTypes.joined.Goals as goal

pub returns-in-None : goal.returns-in-None
returns-in-None c =
    joined_ends open_join (listed c.args.self.now) (listed c.args.other.now) c.loop-k.k c.get.result c.get-in-loop-k.result (listed c.loop-k.list) c.loop-k.invariant c.get.ensures c.get-in-loop-k.ensures
    (sym c.either.ensures ∙ c.in-None.is)

pub loop-k-preserved : goal.loop-k-preserved
loop-k-preserved c =
    joined_more open_join (listed c.args.self.now) (listed c.args.other.now) c.loop-k.k c.get.result c.get-in-loop-k.result (listed c.loop-k.list) c.loop-k.invariant c.get.ensures c.get-in-loop-k.ensures
    c.in-Some.ty (listed c.push.new.self) (sym c.either.ensures ∙ c.in-Some.is) (omega arith) c.push.ensures

pub returns : goal.returns
returns c =
    let first : length (listed c.args.self.now) ≤ 17 = omega (arith, length-take c.args.self.now.len c.args.self.now.types) in
    let second : length (listed c.args.other.now) ≤ 17 = omega (arith, length-take c.args.other.now.len c.args.other.now.types) in
    joined_whole open_join (listed c.args.self.now) (listed c.args.other.now) (listed c.loop-k.list) c.loop-k.k first second (omega arith) c.loop-k.invariant
