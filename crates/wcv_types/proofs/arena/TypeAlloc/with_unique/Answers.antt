use Rattle.std.proofs.Common.{subst, sym}
use Rattle.wcv_types.specs.Renewed.{Renewed}
use Rattle.wcv_types.specs.declared.ids.ComponentAnyTypeId.{ComponentAnyTypeId}
use Rattle.wcv_types.proofs.arena.TypeAlloc.with_unique.Goals as goal

pub returns-clause-ok : goal.returns-clause-ok
returns-clause-ok c = subst (λ (made : ComponentAnyTypeId). Renewed c.args.self.now c.add_unique.new.self c.args.id made) (sym c.with_index.ensures) c.in_ok-index.ensures.ok
