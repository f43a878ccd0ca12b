use Rattle.wcv_types.specs.declared.info.TypeInfo.{TypeInfo}
use Rattle.std.proofs.Common.{[], ◌∙◌, sym, ap, subst}
use Rattle.wcv_types.specs.Standing.{Fits}
use Rattle.wcv_types.specs.declared.arena.Node.TheVariants as n
use Rattle.wcv_types.specs.declared.core_shapes.CoreInstanceTypeKind.TheVariants as kind
use Rattle.wcv_module.specs.Kept.{module_depth}
use Rattle.wcv_instances.proofs.Sizing.{listing_fits}
use Rattle.wcv_instances.proofs.core_instances.listing.Goals as goal

pub returns-clause-fits : goal.returns-clause-fits
returns-clause-fits c =
    let i : TypeInfo = record { size = c.args.size; depth = c.depth_of-depth.result } in
    subst (λ es. Fits c.args.types.now (n.CoreInstance (record { info = i; kind = kind.Exports es }))) (sym c.from_entries.ensures)
    (listing_fits c.args.types.now c.args.items.items i c.requires.within c.requires.size c.requires.small (c.depth_of-depth.ensures ∙ ap (module_depth []) c.as_slice.ensures.value))
