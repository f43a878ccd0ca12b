use Rattle.std.proofs.Common.{◌≡◌, false, subst}
use Rattle.std.proofs.lemmas.Result.{on_ok_weaker, IfErr-weaker}
use Rattle.wcv_closed.specs.ClosedTable.{IsTable}
use Rattle.wcv_spaces.specs.Looking.{brings_own}
use Rattle.wcv_instantiate.proofs.Ascribed.{ascribed_free, ascribed_unmatched}
use Rattle.wcv_instantiate.proofs.ascribing.check_ascribed.Goals as goal

pub returns-clause-ok : goal.returns-clause-ok
returns-clause-ok c =
    let q : brings_own c.args.types.now c.args.ty.now ≡ false = cc in
    let table = subst IsTable c.core_types.ensures (record { closed = c.len-count.ensures.closed; distinct = c.len-count.ensures.distinct }) in
    on_ok_weaker c.matches_by.result (λ m. ascribed_free c.args.types.now c.args.item.now c.args.ty.now c.nodes_fit.ensures.all table c.requires.item c.requires.ty q m) c.matches_by.ensures.ok

pub returns-clause-err : goal.returns-clause-err
returns-clause-err c =
    let q : brings_own c.args.types.now c.args.ty.now ≡ false = cc in
    let table = subst IsTable c.core_types.ensures (record { closed = c.len-count.ensures.closed; distinct = c.len-count.ensures.distinct }) in
    IfErr-weaker c.matches_by.result _ _ (λ e t. ascribed_unmatched c.args.types.now c.args.item.now c.args.ty.now c.nodes_fit.ensures.all table c.requires.item c.requires.ty q c.args.offset e t) c.matches_by.ensures.err
