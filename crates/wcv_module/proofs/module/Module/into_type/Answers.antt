use Rattle.std.proofs.Common.{◌≡◌, suc, All, refl, sym, subst}
use Rattle.wcv_core.specs.CoreGroups.{total}
use Rattle.wcv_core.specs.CoreSizes.{IsEntityWithin}
use Rattle.wcv_syntax.specs.ModuleTypes.{Module_type}
use Rattle.wcv_types.specs.Standing.{entity_sizes}
use Rattle.wcv_module.specs.Kept.{module_items}
use Rattle.wcv_module.proofs.Fitting.{type_fits}
use Rattle.wcv_module.proofs.module.Module.into_type.Goals as goal

pub returns-clause-fits : goal.returns-clause-fits
returns-clause-fits c =
    let gs = c.args.types.now.core in
    type_fits c.args.types.now _ c.self.inside.size c.self.inside.imports c.self.inside.exports refl c.depth_of-depth.ensures refl refl c.self.invariant.small
    (subst (λ (m : Module_type). m.size ≡ suc (entity_sizes gs (module_items m))) (sym c.self.view_is) c.requires.size)
    (subst (λ (m : Module_type). All (IsEntityWithin (total gs)) (module_items m)) (sym c.self.view_is) c.requires.within)
