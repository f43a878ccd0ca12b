use Rattle.std.proofs.Common.{sym, subst}
use Rattle.std.proofs.lemmas.Result.{on_ok_weaker}
use Rattle.wcv_types.specs.Gathering.{Gains}
use Rattle.wcv_types.specs.Resources.{Free}
use Rattle.wcv_types.specs.Unfold.{tree_at}
use Rattle.wcv_types.specs.declared.ids.Part.{Part}
use Rattle.wcv_types.proofs.Gaining.{gains_nothing}
use Rattle.wcv_types.proofs.Gathered.{gains_reference, leaf_closed}
use Rattle.wcv_walks.proofs.free_variables.free_in_leaf.Goals as goal

pub returns-in-Resource-clause-ok : goal.returns-in-Resource-clause-ok
returns-in-Resource-clause-ok c =
    on_ok_weaker c.push.result
    (λ w. subst (λ (q : Part). Gains (λ r. Free r (tree_at c.args.types.now q)) c.args.free.now c.push.new.self) (sym c.in-Resource.is) (gains_reference c.args.types.now c.in-Resource.id c.args.free.now c.push.new.self w))
    c.push.ensures.ok

pub returns-in_default-clause-ok : goal.returns-in_default-clause-ok
returns-in_default-clause-ok c = gains_nothing (λ r. Free r (tree_at c.args.types.now c.args.part)) c.args.free.now (λ r f. leaf_closed c.args.types.now c.args.part r c.requires c.in_default.not-Resource f)
