use Rattle.std.proofs.Common.{◌≡◌, ◌∙◌, List, Some, ap, subst, sym}
use Rattle.std.specs.Prelude.{Option}
use Rattle.std.specs.Option.{option_map}
use Rattle.std.proofs.lemmas.Result.{err_from_is_err_and}
use Rattle.wcv_syntax.specs.View.{canon_view}
use Rattle.wcv_syntax.specs.declared.canonical.CanonicalOption.{CanonicalOption}
use Rattle.wcv_lower.specs.CanonOptions.{options_checks}
use Rattle.wcv_lower.specs.Canons.{options_in}
use Rattle.wcv_lower.specs.Checks.{IsFree, if_found}
use Rattle.wcv_spaces.specs.Contents.{stack_of}
use Rattle.wcv_spaces.specs.Promises.{MemoryOrCausedBy}
use Rattle.wcv_canon.proofs.facts.options_of.Goals as goal

pub returns-in_err-read_options-in-Some-clause-err : goal.returns-in_err-read_options-in-Some-clause-err
returns-in_err-read_options-in-Some-clause-err c =
    let q = err_from_is_err_and c.from_residual.result c.from_residual.ensures.1 in
    let list : Some c.as_slice.result.now ≡ options_in (canon_view c.args.func.now) = ap Some c.as_slice.ensures.value ∙ sym (ap (option_map (λ l. l.now.items)) c.in-Some.is) ∙ c.list_of.ensures in
    rw (q.1, q.2) (λ outer.
    subst (λ (o : Option (List CanonicalOption)). MemoryOrCausedBy (if_found (options_checks c.args.state.now.features (stack_of c.args.types.now c.args.state.now outer)) o) c.args.offset c.in_err-read_options-in-Some.field-0.0) list (c.in_err-read_options-in-Some.ensures.err outer))

pub returns-in_ok-read_options-in-Some-clause-free : goal.returns-in_ok-read_options-in-Some-clause-free
returns-in_ok-read_options-in-Some-clause-free c = λ outer.
    let list : Some c.as_slice.result.now ≡ options_in (canon_view c.args.func.now) = ap Some c.as_slice.ensures.value ∙ sym (ap (option_map (λ l. l.now.items)) c.in-Some.is) ∙ c.list_of.ensures in
    subst (λ (o : Option (List CanonicalOption)). IsFree (if_found (options_checks c.args.state.now.features (stack_of c.args.types.now c.args.state.now outer)) o)) list (c.in_ok-read_options-in-Some.ensures.free outer)
