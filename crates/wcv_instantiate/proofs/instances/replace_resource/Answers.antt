use Rattle.wcv_instantiate.proofs.NewResources.{given_grown, same_grown}
use Rattle.wcv_instantiate.proofs.instances.replace_resource.Goals as goal

pub returns-in_err-new-clause-grown : goal.returns-in_err-new-clause-grown
returns-in_err-new-clause-grown c = same_grown _ _ c.in_err-new.ensures.err

pub returns-in_err-push_resource-clause-grown : goal.returns-in_err-push_resource-clause-grown
returns-in_err-push_resource-clause-grown c = given_grown _ _ 1 c.in_ok-new.ensures.made

pub returns-in_err-place-clause-grown : goal.returns-in_err-place-clause-grown
returns-in_err-place-clause-grown c = given_grown _ _ 1 c.in_ok-new.ensures.made

pub returns-clause-grown : goal.returns-clause-grown
returns-clause-grown c = given_grown _ _ 1 c.in_ok-new.ensures.made
