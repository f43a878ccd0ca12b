use Rattle.std.proofs.Common.{subst, sym}
use Rattle.wcv_types.specs.Standing.{Stands}
use Rattle.wcv_types.specs.Unfold.{any_part, tree_at}
use Rattle.wcv_types.specs.declared.ids.ComponentAnyTypeId.{ComponentAnyTypeId}
use Rattle.wcv_types.specs.declared.ids.Part.TheVariants as part
use Rattle.wcv_canon.specs.Carriers.{Shows}
use Rattle.wcv_canon.specs.declared.ask_types.Carrier.{Carrier}
use Rattle.wcv_canon.proofs.Carriers.{defined_shows}
use Rattle.wcv_canon.proofs.ask_types.carrier_of_type.Goals as goal

pub get-requires : goal.get-requires
get-requires c = subst (λ (r : ComponentAnyTypeId). Stands c.args.types.now (any_part r)) c.in-Defined.is c.requires.stands

pub returns-in-Defined : goal.returns-in-Defined
returns-in-Defined c =
    subst (λ (r : ComponentAnyTypeId). Shows c.args.types.now (tree_at c.args.types.now (any_part r)) c.carrier_of.result) (sym c.in-Defined.is)
    (subst (λ (x : Carrier). Shows c.args.types.now (tree_at c.args.types.now (part.Defined c.in-Defined.id)) x) (sym c.carrier_of.ensures) (defined_shows c.args.types.now c.in-Defined.id c.get.result.now c.get.ensures.unfolds c.get.ensures.before))
