use Rattle.std.proofs.Common.{◌≡◌, ◌∙◌, sym, subst, true, inl, inr}
use Rattle.wcv_types.specs.Entities.{entity_tree, EntityStands}
use Rattle.wcv_types.specs.Unfold.{trees}
use Rattle.wcv_types.specs.declared.shapes.ComponentEntityType.{ComponentEntityType}
use Rattle.wcv_types.specs.declared.shapes.ComponentEntityType.TheVariants as entity
use Rattle.wcv_lower.specs.Entries.{lends}
use Rattle.wcv_lower.specs.Trees.{tree_reader}
use Rattle.wcv_spaces.specs.Promises.{MemoryOrCausedBy}
use Rattle.wcv_spaces.proofs.Lending.{lends_value}
use Rattle.wcv_instances.specs.ComponentInstances.{lending_checks}
use Rattle.wcv_instances.proofs.component_instances.check_lending.Goals as goal

pub returns-in-Value-clause-err : goal.returns-in-Value-clause-err
returns-in-Value-clause-err c =
    let a = c.args.types.now in
    let stands : EntityStands a (entity.Value c.in-Value.ty) = subst (EntityStands a) c.in-Value.is c.requires in
    let lent : lends tree_reader (entity_tree (trees a.nodes) (entity.Value c.in-Value.ty)) ≡ true = sym (lends_value a c.in-Value.ty c.abi_info.result stands c.abi_info.ensures) ∙ c.if-abi_info.true in
    subst (λ (x : ComponentEntityType). MemoryOrCausedBy (lending_checks a x) c.args.offset c.new.result) (sym c.in-Value.is) (inr (inl (c.new.ensures.kind, lent), c.new.ensures.offset))
