use Rattle.std.proofs.Common.{take}
use Rattle.wcv_instantiate.specs.Opening.{TypesRemapped}
use Rattle.wcv_instantiate.proofs.instances.remapped_types.Given as goal

abbrev pub invariant-loop-k : goal.invariant-loop-k
invariant-loop-k g l = TypesRemapped l.initial.types l.types l.initial.map l.map (take l.k l.exports) l.tys.items
