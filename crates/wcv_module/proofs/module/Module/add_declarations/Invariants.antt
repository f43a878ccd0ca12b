use Rattle.std.proofs.Common.{◌≡◌, length, map}
use Rattle.std.specs.Vec.Iter.{into_iter_items, into_iter_len}
use Rattle.wcv_types.specs.CoreCalls.{with_core}
use Rattle.wcv_types.specs.Standing.{Extends}
use Rattle.wcv_module.proofs.Declaring.{IsSoFar}
use Rattle.wcv_module.proofs.module.Module.add_declarations.Given as goal

abbrev pub invariant-loop-decl : goal.invariant-loop-decl
invariant-loop-decl g l = record {
  so_far : IsSoFar (g.O.OuterTypes.spaces l.outers) l.fn.types.core l.types.core l.fn.self l.self (map g.D.ModuleDeclaration.form l.fn.decls.items) (map g.D.ModuleDeclaration.form (into_iter_items l.decl-iterator));
  rest : l.types ≡ with_core l.fn.types l.types.core;
  grown : Extends l.fn.types l.types;
  left : into_iter_len l.decl-iterator ≡ length (into_iter_items l.decl-iterator);
}
