use Rattle.std.proofs.Common.{◌≡◌, drop, map}
use Rattle.wcv_main.specs.Commands.{joined_names}
use Rattle.wcv_main.proofs.reading.features_named.Given as goal

abbrev pub invariant-loop-name : goal.invariant-loop-name
invariant-loop-name l = joined_names (map (λ name. name.now) (drop l.name-index l.names)) l.features.0 ≡ joined_names (map (λ name. name.now) l.names) 0
