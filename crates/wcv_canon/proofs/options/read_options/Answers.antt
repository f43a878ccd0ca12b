use Rattle.std.proofs.Common.{ap, subst, ◌∙◌}
use Rattle.std.proofs.lemmas.Result.{err_from_is_err_and}
use Rattle.wcv_core.specs.Checks.{all_checks}
use Rattle.wcv_core.specs.declared.core_types.ValType.{ValType}
use Rattle.wcv_flat.specs.Flat.{pointer_type}
use Rattle.wcv_flat.specs.Options.{pointer_size}
use Rattle.wcv_flat.specs.declared.options.CanonicalOptions.{CanonicalOptions}
use Rattle.wcv_lower.specs.Checks.{IsFree}
use Rattle.wcv_spaces.specs.Promises.{MemoryOrCausedBy}
use Rattle.wcv_canon.specs.Options.{option_asked}
use Rattle.wcv_canon.proofs.OptionRules.{options_free, each_caused, list_caused}
use Rattle.wcv_canon.proofs.options.read_options.Goals as goal

pub returns-in_err-check_list-clause-err : goal.returns-in_err-check_list-clause-err
returns-in_err-check_list-clause-err c =
    let p = err_from_is_err_and c.from_residual.result c.from_residual.ensures.1 in
    rw (p.1, p.2) (λ outer. list_caused c.args.types.now c.args.state.now outer c.args.options.now c.args.offset c.in_err-check_list.field-0.0 c.in_err-check_list.ensures.err)

pub returns-in_err-check_each-clause-err : goal.returns-in_err-check_each-clause-err
returns-in_err-check_each-clause-err c =
    let p = err_from_is_err_and c.from_residual-in_err-check_each.result c.from_residual-in_err-check_each.ensures.1 in
    rw (p.1, p.2) (λ outer. each_caused c.args.types.now c.args.state.now outer c.args.options.now c.args.offset c.in_err-check_each.field-0.0
    (subst (λ (v : ValType). MemoryOrCausedBy (all_checks (option_asked c.args.types.now c.args.state.now v) c.args.options.now) c.args.offset c.in_err-check_each.field-0.0)
    (c.ptr_type.ensures ∙ ap (λ (o : CanonicalOptions). pointer_type (pointer_size o)) c.found_options-read.ensures) c.in_err-check_each.ensures.err))

pub returns-clause-free : goal.returns-clause-free
returns-clause-free c = λ outer.
    options_free c.args.types.now c.args.state.now outer c.args.options.now
    (subst (λ (v : ValType). IsFree (all_checks (option_asked c.args.types.now c.args.state.now v) c.args.options.now))
    (c.ptr_type.ensures ∙ ap (λ (o : CanonicalOptions). pointer_type (pointer_size o)) c.found_options-read.ensures) c.in_ok-check_each.ensures.ok)
    c.in_ok-check_list.ensures.ok
