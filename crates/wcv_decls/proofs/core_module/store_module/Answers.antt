use Rattle.wcv_decls.proofs.CoreModules.{kept_size, module_stored}
use Rattle.wcv_decls.proofs.core_module.store_module.Goals as goal

pub returns-clause-ok : goal.returns-clause-ok
returns-clause-ok c =
    module_stored c.args.types.now c.push_ty.new.self c.args.made c.into_type-shape.result c.in_ok-id.id (kept_size _ _ _ c.into_type-shape.ensures.size c.into_type-shape.ensures.fits.stated) c.into_type-shape.ensures.imports c.into_type-shape.ensures.exports c.into_type-shape.ensures.types
    c.in_ok-id.ensures.added c.in_ok-id.ensures.last c.in_ok-id.ensures.stands c.in_ok-id.ensures.tree
