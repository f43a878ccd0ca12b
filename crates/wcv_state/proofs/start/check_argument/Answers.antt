use Rattle.std.proofs.Common.{◌∙◌, refl, subst}
use Rattle.wcv_types.specs.declared.shapes.ComponentEntityType.TheVariants as entity
use Rattle.wcv_closed.specs.ClosedTable.{IsTable}
use Rattle.wcv_instantiate.proofs.Ascribed.{test_decides}
use Rattle.wcv_state.proofs.Starts.{unsuited_caused}
use Rattle.wcv_state.proofs.start.check_argument.Goals as goal

pub returns-in-Ok-clause-ok : goal.returns-in-Ok-clause-ok
returns-in-Ok-clause-ok c =
    let table = subst IsTable c.core_types.ensures (record { closed = c.len-count.ensures.closed; distinct = c.len-count.ensures.distinct }) in
    (test_decides c.args.types.now (entity.Value c.args.found.now) (entity.Value c.args.param.now.1) c.nodes_fit.ensures.all table c.requires.found c.requires.param refl).1 c.in-Ok.ensures.ok

pub returns-in_default : goal.returns-in_default
returns-in_default c =
    let table = subst IsTable c.core_types.ensures (record { closed = c.len-count.ensures.closed; distinct = c.len-count.ensures.distinct }) in
    record {
      ok = tt;
      err = unsuited_caused _ _ c.args.offset c.in-Err.error c.unsuited.result
          (test_decides c.args.types.now (entity.Value c.args.found.now) (entity.Value c.args.param.now.1) c.nodes_fit.ensures.all table c.requires.found c.requires.param refl).0
          (λ m. c.in_default.not-OutOfMemory (c.kind.ensures ∙ m)) c.in-Err.ensures.err c.unsuited.ensures.kind c.unsuited.ensures.offset;
    }
