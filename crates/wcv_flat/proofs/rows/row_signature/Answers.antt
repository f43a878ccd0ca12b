use Rattle.std.proofs.Common.{inl, inr, ⊎_elim}
use Rattle.std.proofs.lemmas.Result.{err_from_is_err_and}
use Rattle.wcv_core.specs.Checks.{Checks}
use Rattle.wcv_core.specs.CoreTable.{limit_checks}
use Rattle.wcv_core.proofs.Closing.{caused_left}
use Rattle.wcv_core.specs.CoreGroups.{total}
use Rattle.wcv_core.specs.CoreForm.{sub_form}
use Rattle.wcv_types.proofs.Grown.{extends_refl}
use Rattle.wcv_flat.specs.RowTypes.{appended, row_checks, row_group}
use Rattle.wcv_flat.proofs.Closing.{row_closed}
use Rattle.wcv_flat.proofs.rows.row_signature.Goals as goal

pub returns-in_err-ty-clause-cause : goal.returns-in_err-ty-clause-cause
returns-in_err-ty-clause-cause c =
    let cs : Checks = row_checks c.args.types.now c.args.facts.now (appended c.args.func.now) in
    let ds : Checks = limit_checks c.args.types.now.core (row_group c.args.types.now c.args.facts.now (appended c.args.func.now)) in
    let e = c.in_err-ty.field-0.0 in
    let p = err_from_is_err_and c.from_residual.result c.from_residual.ensures.1 in
    rw (p.1, p.2) (⊎_elim inl (λ q. inr (caused_left cs ds c.args.offset e q)) c.in_err-ty.ensures.err)

pub returns-in_err-ty-clause-grown : goal.returns-in_err-ty-clause-grown
returns-in_err-ty-clause-grown c = extends_refl c.args.types.now

pub intern_sub_type-requires : goal.intern_sub_type-requires
intern_sub_type-requires c =
    row_closed (total c.args.types.now.core) c.args.types.now c.args.facts.now (appended c.args.func.now) (sub_form c.in_ok-ty.ty) c.requires.known c.in_ok-ty.ensures.ok
