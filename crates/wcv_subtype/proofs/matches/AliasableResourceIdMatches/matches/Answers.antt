use Rattle.std.proofs.Common.{subst}
use Rattle.std.proofs.lemmas.Result.{IfErr-weaker, on_ok_weaker}
use Rattle.std.specs.Prelude.{IfErr, OnOk}
use Rattle.wcv_types.specs.Entities.{entity_tree}
use Rattle.wcv_types.specs.Unfold.{trees}
use Rattle.wcv_types.specs.declared.shapes.ComponentEntityType.{ComponentEntityType}
use Rattle.wcv_matching.specs.ModuleItems.{ItemsMatch}
use Rattle.wcv_matching.specs.Refusals.{MemoryOrMismatch}
use Rattle.wcv_matching.specs.TableMatching.{TypeMatches}
use Rattle.wcv_subtype.proofs.References.{entity, entity_from, unlike}
use Rattle.wcv_subtype.proofs.matches.AliasableResourceIdMatches.matches.Goals as goal

pub returns-clause-ok : goal.returns-clause-ok
returns-clause-ok g c =
    let gs = c.args.types.now.core in
    let ts = trees c.args.types.now.nodes in
    let r = c.component_entity_type.result in
    on_ok_weaker r (entity_from (ItemsMatch gs) c.args.self c.args.expected)
    (subst (λ (y : ComponentEntityType). OnOk r (TypeMatches gs (entity c.args.self) (entity_tree ts y))) c.reference_entity-expected.ensures
    (subst (λ (x : ComponentEntityType). OnOk r (TypeMatches gs (entity_tree ts x) (entity_tree ts c.reference_entity-expected.result))) c.reference_entity-found.ensures c.component_entity_type.ensures.ok))

pub returns-clause-err : goal.returns-clause-err
returns-clause-err g c =
    let gs = c.args.types.now.core in
    let ts = trees c.args.types.now.nodes in
    let r = c.component_entity_type.result in
    IfErr-weaker r _ _ (λ e m. unlike (ItemsMatch gs) c.args.self c.args.expected c.args.offset e m)
    (subst (λ (y : ComponentEntityType). IfErr r (MemoryOrMismatch c.args.offset (TypeMatches gs (entity c.args.self) (entity_tree ts y)))) c.reference_entity-expected.ensures
    (subst (λ (x : ComponentEntityType). IfErr r (MemoryOrMismatch c.args.offset (TypeMatches gs (entity_tree ts x) (entity_tree ts c.reference_entity-expected.result)))) c.reference_entity-found.ensures c.component_entity_type.ensures.err))
