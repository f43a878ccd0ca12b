use Rattle.std.proofs.Common.{◌∙◌, ap, inr, refl, subst, sym}
use Rattle.std.specs.Prelude.{Option}
use Rattle.std.specs.Option.{option_map}
use Rattle.std.proofs.lemmas.Result.{err_from_is_err_and}
use Rattle.wcv_types.specs.Tree.{Sort, is_value}
use Rattle.wcv_lower.specs.Checks.{IsFree, missing_of}
use Rattle.wcv_spaces.specs.Looking.{any_sort}
use Rattle.wcv_spaces.specs.Promises.{MemoryOrCausedBy}
use Rattle.wcv_spaces.proofs.Found.{sorts_same}
use Rattle.wcv_canon.proofs.facts.value_at.Goals as goal

pub returns-in_err-id-clause-err : goal.returns-in_err-id-clause-err
returns-in_err-id-clause-err c =
    let q = err_from_is_err_and c.from_residual.result c.from_residual.ensures.1 in
    rw (q.1, q.2) (subst (λ (o : Option Sort). MemoryOrCausedBy (missing_of is_value o) c.args.offset c.in_err-id.field-0.0) (sym (sorts_same c.args.types.now c.args.state.now c.requires c.args.index)) (inr c.in_err-id.ensures.err))

pub returns-clause-free : goal.returns-clause-free
returns-clause-free c = subst (λ (o : Option Sort). IsFree (missing_of is_value o)) (sym (sorts_same c.args.types.now c.args.state.now c.requires c.args.index ∙ ap (option_map any_sort) c.in_ok-id.ensures.ok)) (refl, (refl, tt))
