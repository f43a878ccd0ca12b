use Rattle.wcv_atoms.proofs.visits.visited.Goals as goal

pub returns-clause-apart : goal.returns-clause-apart
returns-clause-apart g c = (c.nodes_fit.ensures.again _ _ c.get.ensures.found).apart
