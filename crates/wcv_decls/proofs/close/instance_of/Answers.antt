use Rattle.std.proofs.Common.{◌∙◌, List, All, sym, subst}
use Rattle.wcv_types.specs.Entities.{entry_trees}
use Rattle.wcv_types.specs.Led.{HasPath}
use Rattle.wcv_types.specs.Sets.{resource_names}
use Rattle.wcv_types.specs.Standing.{GaveResource}
use Rattle.wcv_types.specs.Tree.{Extern_name, export}
use Rattle.wcv_types.specs.Unfold.{Type_tree, trees}
use Rattle.wcv_types.specs.declared.ids.ResourceId.{ResourceId}
use Rattle.wcv_decls.proofs.Closing.{entries_are}
use Rattle.wcv_decls.proofs.InstanceNodes.{given_names, instance_exports}
use Rattle.wcv_decls.proofs.close.instance_of.Goals as goal

pub over-requires-clause-stand : goal.over-requires-clause-stand
over-requires-clause-stand c = entries_are c.args.types.now export c.args.ty.exports c.requires.exports

pub over-requires-clause-owned : goal.over-requires-clause-owned
over-requires-clause-owned c =
    subst (λ (rs : List ResourceId). All (GaveResource c.args.types.now) (resource_names rs)) (sym c.in_ok-owned.ensures) (given_names c.args.types.now c.args.ty.defined_resources c.requires.owned)

pub over-requires-clause-led : goal.over-requires-clause-led
over-requires-clause-led c =
    subst (λ (es : List (Extern_name × Type_tree)). All (HasPath es) (resource_names c.in_ok-owned.owned)) (sym (instance_exports (trees c.args.types.now.nodes) c.args.ty.exports))
    (subst (λ (rs : List ResourceId). All (HasPath (entry_trees (trees c.args.types.now.nodes) c.args.ty.exports)) (resource_names rs)) (sym c.in_ok-owned.ensures) c.requires.led)

pub returns-clause-resources : goal.returns-clause-resources
returns-clause-resources c = c.over.ensures.resources ∙ c.in_ok-owned.ensures
