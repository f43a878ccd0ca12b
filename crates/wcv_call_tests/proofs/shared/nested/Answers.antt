use Rattle.wcv_types.specs.declared.ids.Part.TheVariants as p
use Rattle.wcv_call_tests.proofs.shared.nested.Goals as goal

pub twice-requires : goal.twice-requires
twice-requires c = c.loop.invariant.stand (p.Defined c.loop.made) c.loop.invariant.itself
