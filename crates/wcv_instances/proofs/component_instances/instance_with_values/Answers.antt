use Rattle.std.proofs.lemmas.Result.{err_from_is_err_and}
use Rattle.wcv_syntax.specs.View.{instance_view}
use Rattle.wcv_types.proofs.Grown.{extends_refl}
use Rattle.wcv_instances.proofs.InstanceGrown.{memory_caused}
use Rattle.wcv_instances.proofs.component_instances.instance_with_values.Goals as goal

pub returns-in_err-values-clause-err : goal.returns-in_err-values-clause-err
returns-in_err-values-clause-err c =
    let p = err_from_is_err_and c.from_residual.result c.from_residual.ensures.1 in
    rw p.1 (memory_caused c.args.types.now c.args.types.now c.args.state.now (instance_view c.args.instance) c.args.offset p.0 p.2)

pub returns-in_err-values-clause-grown : goal.returns-in_err-values-clause-grown
returns-in_err-values-clause-grown c = extends_refl c.args.types.now

pub returns-in_err-made-clause-err : goal.returns-in_err-made-clause-err
returns-in_err-made-clause-err c =
    let p = err_from_is_err_and c.from_residual-in_err-made.result c.from_residual-in_err-made.ensures.1 in
    rw (p.1, p.2) c.in_err-made.ensures.err
