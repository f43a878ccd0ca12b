use Rattle.std.proofs.Common.{sym, subst, Some}
use Rattle.std.proofs.lemmas.Result.{err_from_is_err_and}
use Rattle.wcv_syntax.specs.declared.component_type.ComponentValType.{ComponentValType as Written}
use Rattle.wcv_types.specs.declared.shapes.ComponentValType.TheVariants as v
use Rattle.wcv_lower.specs.Checks.{IsFree}
use Rattle.wcv_lower.specs.Values.{option_checks}
use Rattle.wcv_spaces.specs.Contents.{context_of}
use Rattle.wcv_spaces.specs.Promises.{MemoryOrCausedBy}
use Rattle.wcv_decls.specs.Resolved.{IsOption}
use Rattle.wcv_decls.proofs.LookedUp.{index_is, index_free, index_caused}
use Rattle.wcv_decls.proofs.values.resolve.Goals as goal

pub returns-in_err-defined_type_at-in-Ty-clause-err : goal.returns-in_err-defined_type_at-in-Ty-clause-err
returns-in_err-defined_type_at-in-Ty-clause-err c =
    let p = err_from_is_err_and c.from_residual-in_err-defined_type_at-in-Ty.result c.from_residual-in_err-defined_type_at-in-Ty.ensures.1 in
    rw (p.1, p.2) (subst (λ (t : Written). MemoryOrCausedBy (option_checks c.args.state.now.features (context_of c.args.types.now c.args.state.now) (Some t)) c.args.offset c.in_err-defined_type_at-in-Ty.field-0.0) (sym c.in-Ty.is)
    (index_caused c.args.state.now.features c.args.types.now c.args.state.now c.in-Ty.index c.args.offset c.in_err-defined_type_at-in-Ty.field-0.0 c.requires.stands c.in_err-defined_type_at-in-Ty.ensures.err))

pub returns-in_ok-defined_type_at-in-Ty-clause-ok : goal.returns-in_ok-defined_type_at-in-Ty-clause-ok
returns-in_ok-defined_type_at-in-Ty-clause-ok c =
    subst (λ (t : Written). IsOption c.args.types.now (context_of c.args.types.now c.args.state.now) (Some t) (Some (v.Ty c.in_ok-defined_type_at-in-Ty.field-0))) (sym c.in-Ty.is)
    (index_is c.args.types.now c.args.state.now c.in-Ty.index c.in_ok-defined_type_at-in-Ty.field-0 c.requires.stands c.in_ok-defined_type_at-in-Ty.ensures.ok)

pub returns-in_ok-defined_type_at-in-Ty-clause-free : goal.returns-in_ok-defined_type_at-in-Ty-clause-free
returns-in_ok-defined_type_at-in-Ty-clause-free c =
    subst (λ (t : Written). IsFree (option_checks c.args.state.now.features (context_of c.args.types.now c.args.state.now) (Some t))) (sym c.in-Ty.is)
    (index_free c.args.state.now.features c.args.types.now c.args.state.now c.in-Ty.index c.in_ok-defined_type_at-in-Ty.field-0 c.requires.stands c.in_ok-defined_type_at-in-Ty.ensures.ok)
