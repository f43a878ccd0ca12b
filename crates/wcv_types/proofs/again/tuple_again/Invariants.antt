use Rattle.std.proofs.Common.{drop}
use Rattle.wcv_types.specs.Rebuild.{slots_by, tuple_value, Refilling}
use Rattle.wcv_types.proofs.again.tuple_again.Given as goal

abbrev pub invariant-loop-ty : goal.invariant-loop-ty
invariant-loop-ty l = Refilling (slots_by tuple_value l.types) l.initial.parts (slots_by tuple_value (drop l.ty-index l.types)) (slots_by tuple_value l.again.items) l.parts
