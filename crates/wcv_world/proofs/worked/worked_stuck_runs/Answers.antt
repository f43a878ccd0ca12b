use Rattle.std.proofs.Common.{refl}
use Rattle.wcv_world.proofs.worked.worked_stuck_runs.Goals as goal

pub returns-clause-index : goal.returns-clause-index
returns-clause-index c fs turns = refl

pub returns-clause-argument : goal.returns-clause-argument
returns-clause-argument c fs turns = refl

pub returns-clause-sort : goal.returns-clause-sort
returns-clause-sort c fs turns = refl

pub returns-clause-name : goal.returns-clause-name
returns-clause-name c fs turns = refl

pub returns-clause-rule : goal.returns-clause-rule
returns-clause-rule c fs turns = refl

pub returns-clause-no_type : goal.returns-clause-no_type
returns-clause-no_type c fs turns = refl

pub returns-clause-resource : goal.returns-clause-resource
returns-clause-resource c fs turns = refl

pub returns-clause-end : goal.returns-clause-end
returns-clause-end c fs turns = refl

pub returns-clause-core : goal.returns-clause-core
returns-clause-core c fs turns = refl
