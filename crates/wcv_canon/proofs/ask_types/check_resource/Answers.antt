use Rattle.std.proofs.Common.{inr}
use Rattle.std.specs.Prelude.{slice_get}
use Rattle.std.specs.Option.{option_map}
use Rattle.std.proofs.lemmas.Result.{err_from_is_err_and}
use Rattle.wcv_core.proofs.Closing.{caused_same}
use Rattle.wcv_types.specs.Tree.{is_resource}
use Rattle.wcv_lower.specs.Checks.{missing_of}
use Rattle.wcv_spaces.specs.Looking.{any_sort}
use Rattle.wcv_canon.proofs.Found.{resource_free, resource_caused}
use Rattle.wcv_canon.proofs.ask_types.check_resource.Goals as goal

pub returns-in_err-resource_at-clause-err : goal.returns-in_err-resource_at-clause-err
returns-in_err-resource_at-clause-err c =
    let p = err_from_is_err_and c.from_residual.result c.from_residual.ensures.1 in
    rw p.1 (resource_caused c.args.types.now c.args.state.now c.requires.stands c.args.index c.args.offset p.0
    (caused_same (missing_of is_resource (option_map any_sort (slice_get c.args.state.now.spaces.types c.args.index))) c.args.offset c.in_err-resource_at.field-0.0 p.0 p.2.0 p.2.1 (inr c.in_err-resource_at.ensures.err)))

pub returns-clause-ok : goal.returns-clause-ok
returns-clause-ok c = resource_free c.args.types.now c.args.state.now c.requires.stands c.args.index c.in_ok-resource_at.field-0 c.in_ok-resource_at.ensures.ok
