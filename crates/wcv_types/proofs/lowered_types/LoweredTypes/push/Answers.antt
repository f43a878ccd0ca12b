use Rattle.std.proofs.Common.{◌≡◌, [], ◌∷◌, length, sym, arith}
use Rattle.std.proofs.lemmas.List.{length-take}
use Rattle.wcv_types.specs.Open.{listed}
use Rattle.wcv_types.proofs.Cutting.{cut_full}
use Rattle.wcv_types.proofs.lowered_types.LoweredTypes.push.Goals as goal

pub returns-else-self-lt-MAX_LOWERED_TYPES : goal.returns-else-self-lt-MAX_LOWERED_TYPES
returns-else-self-lt-MAX_LOWERED_TYPES c =
    let full : length (listed c.args.self.now) ≡ 17 = omega (arith, length-take c.args.self.now.len c.args.self.now.types) in
    sym (cut_full 17 (listed c.args.self.now) (c.args.ty ∷ []) full)
