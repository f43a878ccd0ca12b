use Rattle.std.proofs.Common.{List, ◌++◌, sym, ◌∙◌, ap, subst}
use Rattle.std.specs.Prelude.{All}
use Rattle.std.proofs.lemmas.Result.{on_ok_weaker}
use Rattle.wcv_types.specs.Gathering.{Gains, FreeInSome}
use Rattle.wcv_types.specs.Standing.{Stands}
use Rattle.wcv_types.specs.Unfold.{entity_slot, slot_refs}
use Rattle.wcv_types.specs.declared.ids.Part.{Part}
use Rattle.wcv_types.proofs.Gathered.{refs_all, gains_entity}
use Rattle.wcv_walks.proofs.free_variables.TypeAllocFreeVariables.free_variables_component_entity.Goals as goal

pub free_in_parts-requires : goal.free_in_parts-requires
free_in_parts-requires c =
    let e = c.as_slice.ensures ∙ c.in_ok-push_entity.ensures ∙ ap (λ (qs : List Part). qs ++ slot_refs (entity_slot c.args.ty.now)) c.new-parts.ensures in
    subst (λ (qs : List Part). All (Stands c.args.self.now) qs) (sym e) (refs_all c.args.self.now (entity_slot c.args.ty.now) c.requires)

pub returns-clause-ok : goal.returns-clause-ok
returns-clause-ok c =
    let e = c.as_slice.ensures ∙ c.in_ok-push_entity.ensures ∙ ap (λ (qs : List Part). qs ++ slot_refs (entity_slot c.args.ty.now)) c.new-parts.ensures in
    on_ok_weaker c.free_in_parts.result
    (λ g. gains_entity c.args.self.now (entity_slot c.args.ty.now) c.args.free.now c.free_in_parts.new.free (subst (λ (qs : List Part). Gains (λ r. FreeInSome c.args.self.now r qs) c.args.free.now c.free_in_parts.new.free) e g)) c.free_in_parts.ensures.ok
