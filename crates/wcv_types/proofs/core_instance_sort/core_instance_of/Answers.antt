use Rattle.std.proofs.Common.{◌≡◌, List, map, sym, subst, ◌∙◌, ap}
use Rattle.std.specs.Prelude.{All}
use Rattle.wcv_core.specs.CoreForm.{Group}
use Rattle.wcv_core.specs.CoreGroups.{total}
use Rattle.wcv_core.specs.CoreSizes.{IsEntityWithin}
use Rattle.wcv_types.specs.Arena.{Arena}
use Rattle.wcv_types.specs.Standing.{core_items, own_size}
use Rattle.wcv_types.specs.Unfold.{IsInfoOf, tree_at}
use Rattle.wcv_types.specs.declared.arena.Node.TheVariants as n
use Rattle.wcv_types.specs.declared.ids.Part.TheVariants as p
use Rattle.wcv_types.proofs.CoreInstancesRebuilt.{made_fits, made_size, made_small}
use Rattle.wcv_types.proofs.core_instance_sort.core_instance_of.Goals as goal

pub exporting_size-requires-clause-within : goal.exporting_size-requires-clause-within
exporting_size-requires-clause-within c =
    subst (λ (gs : List Group). All (IsEntityWithin (total gs)) (core_items (n.Module c.get.result.now))) (sym c.core_types.ensures) (c.nodes_fit.ensures.again c.args.id.index (n.Module c.get.result.now) c.get.ensures.found).within

pub exporting_size-requires-clause-stated : goal.exporting_size-requires-clause-stated
exporting_size-requires-clause-stated c =
    subst (λ (gs : List Group). c.get.result.now.info.size ≡ own_size gs (core_items (n.Module c.get.result.now))) (sym c.core_types.ensures) (c.nodes_fit.ensures.again c.args.id.index (n.Module c.get.result.now) c.get.ensures.found).stated

pub returns-clause-fits : goal.returns-clause-fits
returns-clause-fits c =
    made_fits c.args.types.now c.args.id c.get.result.now c.get.ensures.unfolds (c.nodes_fit.ensures.again c.args.id.index (n.Module c.get.result.now) c.get.ensures.found)
    c.facts.result.info (record { size = c.exporting_size.result; depth = c.saturating_add.result }) c.requires
    (subst (λ (a : Arena). IsInfoOf c.facts.result.info (tree_at a (p.Module c.args.id))) c.types.view_is c.facts.ensures.info)
    (c.exporting_size.ensures ∙ ap (λ (gs : List Group). own_size gs (map (λ e. e.1) c.get.result.now.exports)) c.core_types.ensures) c.saturating_add.ensures

pub returns-clause-size : goal.returns-clause-size
returns-clause-size c =
    made_size c.args.types.now c.args.id c.get.result.now c.get.ensures.unfolds (c.nodes_fit.ensures.again c.args.id.index (n.Module c.get.result.now) c.get.ensures.found) c.exporting_size.result
    (c.exporting_size.ensures ∙ ap (λ (gs : List Group). own_size gs (map (λ e. e.1) c.get.result.now.exports)) c.core_types.ensures)

pub returns-clause-small : goal.returns-clause-small
returns-clause-small c =
    made_small c.args.types.now c.args.id c.get.result.now c.get.ensures.unfolds (c.nodes_fit.ensures.again c.args.id.index (n.Module c.get.result.now) c.get.ensures.found) c.exporting_size.result
    (c.exporting_size.ensures ∙ ap (λ (gs : List Group). own_size gs (map (λ e. e.1) c.get.result.now.exports)) c.core_types.ensures)
