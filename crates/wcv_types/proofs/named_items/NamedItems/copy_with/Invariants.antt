use Rattle.std.proofs.Common.{◌≡◌, ◌++◌, drop}
use Rattle.wcv_types.specs.Entities.{retyped}
use Rattle.wcv_types.proofs.named_items.NamedItems.copy_with.Given as goal

-- those before have their types
abbrev pub invariant-loop-k : goal.invariant-loop-k
invariant-loop-k l = l.pairs.items ++ retyped (drop l.k l.self) (drop l.k l.tys) ≡ retyped l.self l.tys
