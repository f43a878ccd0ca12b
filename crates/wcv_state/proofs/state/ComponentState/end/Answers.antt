use Rattle.std.proofs.Common.{sym, ap, subst}
use Rattle.std.specs.Prelude.{Option, All}
use Rattle.std.proofs.lemmas.Result.{err_from_is_err_and}
use Rattle.wcv_core.specs.declared.core_types.ValType.{ValType}
use Rattle.wcv_types.specs.ComponentTrees.{ResourceStands}
use Rattle.wcv_types.specs.Entities.{EntryStands}
use Rattle.wcv_types.specs.declared.ids.ResourceId.{ResourceId}
use Rattle.wcv_lower.specs.Context.{importing, exporting}
use Rattle.wcv_spaces.specs.Contents.{Contents}
use Rattle.wcv_resources.specs.Ending.{Ended}
use Rattle.wcv_state.proofs.Finishing.{import_caused, export_caused}
use Rattle.wcv_state.proofs.state.ComponentState.end.Goals as goal

pub check_imports-requires : goal.check_imports-requires
check_imports-requires c = subst (λ (s : Contents). All (EntryStands c.args.types.now) s.imports) (sym c.self.view_is) (c.requires.side importing)

pub kept_paths-requires-clause-exports : goal.kept_paths-requires-clause-exports
kept_paths-requires-clause-exports c = subst (λ (s : Contents). All (EntryStands c.args.types.now) s.exports) (sym c.self.view_is) (c.requires.side exporting)

pub kept_paths-requires-clause-defined : goal.kept_paths-requires-clause-defined
kept_paths-requires-clause-defined c =
    subst (All (λ (d : ResourceId × Option ValType). ResourceStands c.args.types.now d.0)) (sym (ap (λ (s : Contents). s.defined_resources) c.self.view_is)) c.requires.defined

pub returns-in_err-check_imports-clause-err : goal.returns-in_err-check_imports-clause-err
returns-in_err-check_imports-clause-err c =
    let p = err_from_is_err_and c.from_residual.result c.from_residual.ensures.1 in
    let defined = ap (λ (s : Contents). s.defined_resources) c.self.view_is in
    rw (p.1, p.2) (import_caused c.args.types.now c.args.self.now c.self.inside.defined_resources c.self.inside.imports.items c.args.offset c.in_err-check_imports.field-0.0 defined (ap (λ (s : Contents). s.imports) c.self.view_is) c.in_err-check_imports.ensures.err)

pub returns-in-Err-clause-err : goal.returns-in-Err-clause-err
returns-in-Err-clause-err c =
    let defined = ap (λ (s : Contents). s.defined_resources) c.self.view_is in
    export_caused c.args.types.now c.args.self.now c.self.inside.defined_resources c.self.inside.exports.items c.args.offset c.in-Err.error defined (ap (λ (s : Contents). s.exports) c.self.view_is) c.in-Err.ensures.err

pub returns-in-Ok-clause-ok : goal.returns-in-Ok-clause-ok
returns-in-Ok-clause-ok c =
    subst (λ (z : Contents). Ended c.args.types.now z c.in-Ok.paths) c.self.view_is (record { free = c.in_ok-check_imports.ensures.ok; kept = c.in-Ok.ensures.ok; stand = c.in-Ok.ensures.stands })
