use Rattle.std.proofs.Common.{List, ap, ◌∙◌, subst}
use Rattle.std.specs.Prelude.{nat_lt}
use Rattle.wcv_types.specs.Entities.{entity_tree}
use Rattle.wcv_types.specs.Gathering.{Gains}
use Rattle.wcv_types.specs.Resources.{Free}
use Rattle.wcv_types.specs.Unfold.{trees}
use Rattle.wcv_types.specs.declared.ids.ResourceId.{ResourceId}
use Rattle.wcv_state.proofs.FreeAtAll.{free_told}
use Rattle.wcv_state.proofs.outer_aliases.has_free.Goals as goal

pub returns : goal.returns
returns c =
    let t = entity_tree (trees c.args.types.now.nodes) c.args.ty.now in
    let xs : List ResourceId = c.free_variables_component_entity.new.free in
    ap (nat_lt 0) c.len.ensures.value ∙ free_told t xs (subst (λ (old : List ResourceId). Gains (λ r. Free r t) old xs) c.new-free.ensures c.in_ok-free_variables_component_entity.ensures.ok)
