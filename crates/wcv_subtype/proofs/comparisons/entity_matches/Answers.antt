use Rattle.std.proofs.Common.{refl, subst, false}
use Rattle.wcv_closed.specs.ClosedTable.{IsTable}
use Rattle.wcv_types.specs.Entities.{entity_tree}
use Rattle.wcv_types.specs.Unfold.{trees}
use Rattle.wcv_matching.specs.OnePass.{given}
use Rattle.wcv_atoms.specs.Readings.{reads}
use Rattle.wcv_atoms.proofs.EntityLaws.{entities_decided}
use Rattle.wcv_atoms.proofs.PassIds.{if_ok}
use Rattle.wcv_atoms.proofs.PassSteps.{answers_at}
use Rattle.wcv_subtype.proofs.comparisons.entity_matches.Goals as goal

pub returns-clause-matches : goal.returns-clause-matches
returns-clause-matches g c =
    let table = subst IsTable c.core_types.ensures (record { closed = c.len-count.ensures.closed; distinct = c.len-count.ensures.distinct }) in
    let x = entity_tree (trees c.args.types.now.nodes) c.args.a.now in
    let y = entity_tree (trees c.args.types.now.nodes) c.args.b.now in
    if_ok c.entity_passes-matches.result
    (λ matches m. entities_decided c.args.types.now c.nodes_fit.ensures.all table c.args.a.now c.args.b.now c.requires.a c.requires.b matches
    (answers_at c.args.types.now.core false 0 (reads c.new-left.result) (reads c.new-right.result) given given x y x y c.new-left.ensures c.new-right.ensures refl refl m))
    c.entity_passes-matches.ensures.answers

pub entity_passes-matches-requires-clause-compared : goal.entity_passes-matches-requires-clause-compared
entity_passes-matches-requires-clause-compared g c = c.new-compared.ensures c.args.types.now (reads c.new-left.result) (reads c.new-right.result)
